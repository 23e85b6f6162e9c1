-- What a symbol that stands alone is read as, by what is known of it.
use Rattle.std.proofs.Common.{◌≡◌, ◌≢◌, ℕ, ◌<◌, List, [], ◌∷◌, map, length, get_or, Option, Some, None, option_map, Result, Ok, refl, ap, sym, ◌∙◌, subst, arith}
use Rattle.smt_lex.specs.declared.items.Item.{Item}
use Rattle.smt_lex.specs.declared.items.Item.TheVariants.{Left, Right, Numeral, Decimal, Hex, Bin, Text, Word, Quoted, Keyword}
use Rattle.smt_lex.specs.Lex.{Token, symbol_by, symbol_of}
use Rattle.smt_lex.specs.Names.{Name}
use Rattle.smt_terms.specs.declared.ids.NodeId.{NodeId}
use Rattle.smt_terms.specs.declared.ids.SymId.{SymId}
use Rattle.smt_terms.specs.declared.op.Op.{Op}
use Rattle.smt_terms.specs.Fresh.{Supply}
use Rattle.smt_terms.specs.Sorts.{Sort, Symbol}
use Rattle.smt_terms.specs.Term.{Term}
use Rattle.term_table.specs.Formulas.{Formulas, tree, symbol_at}
use Rattle.term_subst.specs.declared.maps.Definition.{Definition}
use Rattle.script_terms.specs.declared.causes.Cause.TheVariants.{WrongArity}
use Rattle.script_terms.specs.declared.locals.Constant.{Constant}
use Rattle.script_terms.specs.declared.scopes.Entry.{Entry}
use Rattle.script_terms.specs.declared.scopes.Entry.TheVariants.{Symbol as SymbolEntry, Constant as ConstantEntry, Definition as DefinitionEntry, Term as TermEntry}
use Rattle.script_terms.specs.ConstantClauses.{constant_or_other, constant_in}
use Rattle.script_terms.specs.Heads.{constant_or_refused, live_symbol, theory_symbol, symbol_term, name_or_other, atom_by, atom_term}
use Rattle.script_terms.specs.Known.{IsConstant, Meant, symbol_meant, definition_meant, term_meant, meant_by, parameter_sorts, no_definition}
use Rattle.script_terms.specs.Parts.{constant_by}
use Rattle.script_terms.specs.Reading.{ReadBinding, ReadLocal, Entry as LiveEntry, symbol_entry, definition_entry, term_entry, entry_of, bound_as}
use Rattle.script_terms.specs.declared.faults.ReadFault.{ReadFault}
use Rattle.script_terms.specs.Refusals.{Refused, at}
use Rattle.script_terms.specs.Replies.{Refuses}
use Rattle.script_terms.specs.TermClauses.{ReadsAlone}
use Rattle.script_terms.proofs.Showing.{entry_meant}

-- ---- tokens

no_constant : (item : Item) (text : List ℕ) (n : Name) → symbol_by item text ≡ Some n → constant_by item text ≡ None
no_constant Left text n is = refl
no_constant Right text n is = refl
no_constant Numeral text n is = absurd (cc)
no_constant Decimal text n is = refl
no_constant Hex text n is = absurd (cc)
no_constant Bin text n is = absurd (cc)
no_constant Text text n is = refl
no_constant Word text n is = refl
no_constant Quoted text n is = refl
no_constant Keyword text n is = refl

module _ (locals : List ReadLocal) (t : Token) (live : List ReadBinding) where
  pub symbol_read : (n : Name) → symbol_of t ≡ Some n → atom_term locals t live ≡ symbol_term t.start n (bound_as locals n) (entry_of live n)
  symbol_read n is = ap (atom_by locals live t) (no_constant t.item t.text n is) ∙ ap (name_or_other locals live t) is

  other_by : (o : Option Op) → symbol_of t ≡ None → atom_by locals live t o ≡ constant_or_other t.start t.item o
  other_by (Some o) is = refl
  other_by None is = ap (name_or_other locals live t) is

  pub constant_read : symbol_of t ≡ None → atom_term locals t live ≡ constant_in t.start t.item t.text
  constant_read is = other_by (constant_by t.item t.text) is

-- ---- live names

-- what a name is read as that stands for this
abbrev meant_term : ℕ → Name → Option Meant → Result Term Refused
meant_term place n None = theory_symbol place n
meant_term place n (Some (symbol_meant f)) = constant_or_refused place f f.args
meant_term place n (Some (definition_meant [] u)) = Ok u
meant_term place n (Some (definition_meant (s ∷ ss) u)) = at WrongArity place
meant_term place n (Some (term_meant u)) = Ok u

live_term : (place : ℕ) (n : Name) (e : Option LiveEntry) → live_symbol place n e ≡ meant_term place n (option_map entry_meant e)
live_term place n None = refl
live_term place n (Some (symbol_entry f)) = refl
live_term place n (Some (definition_entry [] u)) = refl
live_term place n (Some (definition_entry (x ∷ xs) u)) = refl
live_term place n (Some (term_entry u)) = refl

-- a definition with parameters takes operands
pub given_term : ℕ → List Sort → Term → Result Term Refused
given_term place [] u = Ok u
given_term place (s ∷ ss) u = at WrongArity place

meant_given : (place : ℕ) (n : Name) (ss : List Sort) (u : Term) → meant_term place n (Some (definition_meant ss u)) ≡ given_term place ss u
unfolding given_term
meant_given place n [] u = refl
meant_given place n (s ∷ ss) u = refl

-- a symbol with arguments takes operands
takes_arguments : (place : ℕ) (f : Symbol) (ss : List Sort) → ss ≢ [] → constant_or_refused place f ss ≡ at WrongArity place
takes_arguments place f [] some = absurd (some refl)
takes_arguments place f (s ∷ ss) some = refl

module _ (t : Formulas) (ds : List Definition) (place : ℕ) (n : Name) (o : Option Entry) (e : Option LiveEntry) (same : option_map (meant_by t ds) o ≡ option_map entry_meant e) where
  known_term : live_symbol place n e ≡ meant_term place n (option_map (meant_by t ds) o)
  known_term = live_term place n e ∙ ap (meant_term place n) (sym same)

  pub unknown_read : o ≡ None → live_symbol place n e ≡ theory_symbol place n
  unknown_read is = known_term ∙ ap (λ x. meant_term place n (option_map (meant_by t ds) x)) is

  pub constant_node_read : (supply : Supply) (c : Constant) → o ≡ Some (ConstantEntry c) → IsConstant t supply c → live_symbol place n e ≡ Ok (tree t c.node)
  constant_node_read supply c is constant =
      known_term ∙ ap (λ x. meant_term place n (option_map (meant_by t ds) x)) is
      ∙ ap (constant_or_refused place (symbol_at t c.symbol)) constant.args
      ∙ ap Ok (sym constant.term)

  pub arguments_missing : (f : SymId) → o ≡ Some (SymbolEntry f) → (symbol_at t f).args ≢ [] → live_symbol place n e ≡ at WrongArity place
  arguments_missing f is some =
      known_term ∙ ap (λ x. meant_term place n (option_map (meant_by t ds) x)) is
      ∙ takes_arguments place (symbol_at t f) (symbol_at t f).args some

  pub named_read : (k : NodeId) → o ≡ Some (TermEntry k) → live_symbol place n e ≡ Ok (tree t k)
  named_read k is = known_term ∙ ap (λ x. meant_term place n (option_map (meant_by t ds) x)) is

  defined_read : (k : ℕ) → o ≡ Some (DefinitionEntry k) → live_symbol place n e ≡ given_term place (parameter_sorts t (get_or ds k no_definition)) (tree t (get_or ds k no_definition).body)
  defined_read k is = known_term ∙ ap (λ x. meant_term place n (option_map (meant_by t ds) x)) is ∙ meant_given place n _ _

  pub alone_read : (k : ℕ) (d : Definition) → o ≡ Some (DefinitionEntry k) → get_or ds k no_definition ≡ d → d.params ≡ [] → live_symbol place n e ≡ Ok (tree t d.body)
  unfolding given_term
  alone_read k d is found empty =
      defined_read k is
      ∙ ap (λ x. given_term place (parameter_sorts t x) (tree t x.body)) found
      ∙ ap (λ fs. given_term place (map (λ f. (symbol_at t f).result) fs) (tree t d.body)) empty

  takes_operands : (d : Definition) (fs : List SymId) → 0 < length fs → given_term place (map (λ f. (symbol_at t f).result) fs) (tree t d.body) ≡ at WrongArity place
  unfolding given_term
  takes_operands d [] some = absurd (omega (arith, some))
  takes_operands d (f ∷ fs) some = refl

  pub operands_missing : (k : ℕ) (d : Definition) → o ≡ Some (DefinitionEntry k) → get_or ds k no_definition ≡ d → 0 < length d.params → live_symbol place n e ≡ at WrongArity place
  operands_missing k d is found some =
      defined_read k is
      ∙ ap (λ x. given_term place (parameter_sorts t x) (tree t x.body)) found
      ∙ takes_operands d d.params some

-- the answer to one reading is that to another that is the same
pub same_reading : (t : Formulas) (supply : Supply) (r q : Result Term Refused) (x : Result NodeId ReadFault) → r ≡ q → ReadsAlone t supply q x → ReadsAlone t supply r x
same_reading t supply r q x same reads = subst (λ o. ReadsAlone t supply o x) (sym same) reads

pub still_refuses : (r q : Result Term Refused) (e : ReadFault) → r ≡ q → Refuses q e → Refuses r e
still_refuses r q e same refuses = subst (λ o. Refuses o e) (sym same) refuses

-- a list without elements
pub no_items : {A : Type 0} (xs : List A) → length xs ≡ 0 → xs ≡ []
no_items [] empty = refl
no_items (x ∷ xs) empty = absurd (omega (arith, empty))
