-- Literals of `check-sat-assuming`, as a scope and a table have them.
use Rattle.std.proofs.Common.{◌≡◌, ◌≢◌, cond, List, [], ◌∷◌, ◌++◌, Option, Some, None, option_map, Result, Ok, Err, append_assoc, append-nil, refl, ap, sym, ◌∙◌, subst}
use Rattle.std.specs.Prelude.{codes}
use Rattle.std.proofs.lemmas.List.Elements.{All-push}
use Rattle.std.proofs.lemmas.List.{map-append}
use Rattle.smt_lex.specs.Forms.{Form, atom, node, Forms, none, ◌⨾◌}
use Rattle.smt_lex.specs.Names.{Name}
use Rattle.smt_terms.specs.declared.ids.NodeId.{NodeId}
use Rattle.smt_terms.specs.Connectives.{negated}
use Rattle.smt_terms.specs.Fresh.{Supply}
use Rattle.smt_terms.specs.Sorts.{Sort, Symbol}
use Rattle.smt_terms.specs.Term.{Term}
use Rattle.term_table.specs.Formulas.{Formulas, symbol_at, tree, trees_at, IsNode, AreNodes}
use Rattle.term_table.specs.declared.lists.Nodes.{Nodes}
use Rattle.term_walk.specs.Walking.{GrowsTo}
use Rattle.term_subst.specs.declared.maps.Definition.{Definition}
use Rattle.script_terms.specs.declared.causes.Cause.TheVariants.{BadForm}
use Rattle.script_terms.specs.declared.locals.Constant.{Constant}
use Rattle.script_terms.specs.declared.scopes.Entry.{Entry}
use Rattle.script_terms.specs.declared.scopes.Entry.TheVariants.{Symbol as SymbolEntry, Constant as ConstantEntry, Definition as DefinitionEntry, Term as TermEntry}
use Rattle.script_read.specs.declared.scripts.Command.TheVariants.{CheckAssuming}
use Rattle.script_read.specs.declared.session.Session.{Session}
use Rattle.script_read.specs.Commands.{check_assuming}
use Rattle.script_terms.specs.Known.{Scoping, find, meant_by, IsConstant, IsEntry, Shows}
use Rattle.script_read.specs.LiteralClauses.{constant_of_entry}
use Rattle.script_terms.specs.Parts.{place_of, symbol_in, is_name}
use Rattle.script_terms.specs.Places.{pair_in}
use Rattle.script_terms.specs.Reading.{ReadBinding, Entry as LiveEntry, symbol_entry, definition_entry, term_entry, entry_of}
use Rattle.script_terms.specs.Refusals.{Refused, and_then, mapped, given}
use Rattle.script_read.specs.Script.{Standing, live_of, begun_with, boolean_constant, constant_entry, declared_constant, literal, literals_in, assumes}
use Rattle.script_read.specs.Steps.{StandsAt, Steps}
use Rattle.script_terms.proofs.Grown.{nodes_stay, trees_stay}
use Rattle.script_read.proofs.SessionSteps.{stands_grown, begun_at, stands_begun}
use Rattle.script_terms.proofs.Showing.{entry_found, entry_meant}
use Rattle.script_terms.proofs.ScopeNames.{entry_is}

-- ---- constants that are declared

constant_is : (o : Option Entry) (c : Constant) → constant_of_entry o ≡ Some c → o ≡ Some (ConstantEntry c)
constant_is None c h = absurd (cc)
constant_is (Some (SymbolEntry f)) c h = absurd (cc)
constant_is (Some (ConstantEntry d)) c h = (λ i. Some (ConstantEntry (same i)))
  where
    same : d ≡ c
    same = cc
constant_is (Some (DefinitionEntry k)) c h = absurd (cc)
constant_is (Some (TermEntry k)) c h = absurd (cc)

takes_arguments : (f : Symbol) (ss : List Sort) → ss ≢ [] → boolean_constant f ss ≡ None
takes_arguments f [] some = absurd (some refl)
takes_arguments f (s ∷ ss) some = refl

module _ (t : Formulas) (supply : Supply) (ds : List Definition) (n : Name) where
  no_constant : (o : Option Entry) (e : Option LiveEntry) → option_map (meant_by t ds) o ≡ option_map entry_meant e → constant_of_entry o ≡ None → ((d : Entry) → o ≡ Some d → IsEntry t supply ds n d) → constant_entry e ≡ None
  no_constant o None same nothing known = refl
  no_constant o (Some (definition_entry xs u)) same nothing known = refl
  no_constant o (Some (term_entry u)) same nothing known = refl
  no_constant None (Some (symbol_entry g)) same nothing known = absurd (cc)
  no_constant (Some (SymbolEntry f)) (Some (symbol_entry g)) same nothing known =
      ap (λ (h : Symbol). boolean_constant h h.args) here ∙ takes_arguments (symbol_at t f) (symbol_at t f).args (known (SymbolEntry f) refl).args
    where
      here : g ≡ symbol_at t f
      here = cc
  no_constant (Some (ConstantEntry c)) (Some (symbol_entry g)) same nothing known = absurd (cc)
  no_constant (Some (DefinitionEntry k)) (Some (symbol_entry g)) same nothing known = absurd (cc)
  no_constant (Some (TermEntry k)) (Some (symbol_entry g)) same nothing known = absurd (cc)

module _ (t : Formulas) (ds : List Definition) where
  a_constant : (c : Constant) (e : Option LiveEntry) → option_map (meant_by t ds) (Some (ConstantEntry c)) ≡ option_map entry_meant e → constant_entry e ≡ boolean_constant (symbol_at t c.symbol) (symbol_at t c.symbol).args
  a_constant c None same = absurd (cc)
  a_constant c (Some (definition_entry xs u)) same = absurd (cc)
  a_constant c (Some (term_entry u)) same = absurd (cc)
  a_constant c (Some (symbol_entry g)) same = (λ i. boolean_constant (here i) (here i).args)
    where
      here : g ≡ symbol_at t c.symbol
      here = cc

module _ (t : Formulas) (supply : Supply) (s : Scoping) (live : List ReadBinding) (shows : Shows t supply s live) (n : Name) where
  known_entry : (e : Entry) → find s.terms n ≡ Some e → IsEntry t supply s.definitions n e
  known_entry e found = entry_is t supply s.definitions n e s.terms shows.numbers.terms found

  pub undeclared : constant_of_entry (find s.terms n) ≡ None → declared_constant live (Some n) ≡ None
  undeclared nothing = no_constant t supply s.definitions n (find s.terms n) (entry_of live n) (entry_found t s live shows.terms n) nothing known_entry

  pub declared : (c : Constant) → constant_of_entry (find s.terms n) ≡ Some c → declared_constant live (Some n) ≡ boolean_constant (symbol_at t c.symbol) (symbol_at t c.symbol).args
  declared c found = a_constant t s.definitions c (entry_of live n) (ap (option_map (meant_by t s.definitions)) (sym (constant_is (find s.terms n) c found)) ∙ entry_found t s live shows.terms n)

  pub constant_known : (c : Constant) → constant_of_entry (find s.terms n) ≡ Some c → IsConstant t supply c
  constant_known c found = (known_entry (ConstantEntry c) (constant_is (find s.terms n) c found)).constant

-- ---- literals

same_some : (p q : Form × Form) → Some p ≡ Some q → p ≡ q
same_some p q is = cc

pub literal_pair : (live : List ReadBinding) (f g h : Form) → pair_in f ≡ Some (g, h) → literal live f ≡ cond (is_name (codes "not") (symbol_in g)) (option_map negated (declared_constant live (symbol_in h))) None
literal_pair live (atom t) g h is = absurd (cc)
literal_pair live (node place none) g h is = absurd (cc)
literal_pair live (node place (a ⨾ none)) g h is = absurd (cc)
literal_pair live (node place (a ⨾ b ⨾ none)) g h is =
    ap (λ p. cond (is_name (codes "not") (symbol_in p.0)) (option_map negated (declared_constant live (symbol_in p.1))) None) (same_some (a, b) (g, h) is)
literal_pair live (node place (a ⨾ b ⨾ c ⨾ fs)) g h is = absurd (cc)

pub literal_other : (live : List ReadBinding) (f : Form) → pair_in f ≡ None → literal live f ≡ declared_constant live (symbol_in f)
literal_other live (atom t) is = refl
literal_other live (node place none) is = refl
literal_other live (node place (a ⨾ none)) is = refl
literal_other live (node place (a ⨾ b ⨾ none)) is = absurd (cc)
literal_other live (node place (a ⨾ b ⨾ c ⨾ fs)) is = refl

-- ---- lists of literals

mapped_none : (r : Result (List Term) Refused) → r ≡ mapped (λ us. [] ++ us) r
mapped_none (Ok us) = refl
mapped_none (Err e) = refl

pub no_literal : (t : Formulas) (ids : List NodeId) (r : Result (List Term) Refused) → ids ≡ [] → r ≡ mapped (λ us. trees_at t ids ++ us) r
no_literal t ids r is = mapped_none r ∙ ap (λ ks. mapped (λ us. trees_at t ks ++ us) r) (sym is)

mapped_more : (first : List Term) (a : Term) (r : Result (List Term) Refused) → mapped (λ us. first ++ us) (mapped (λ us. a ∷ us) r) ≡ mapped (λ us. (first ++ a ∷ []) ++ us) r
mapped_more first a (Ok us) = ap Ok (sym (append_assoc first (a ∷ []) us))
mapped_more first a (Err e) = refl

-- the literals of a list that begins with these
module _ (live : List ReadBinding) (whole : Result (List Term) Refused) (first : List Term) where
  pub one_literal : (fs gs : Forms) (f : Form) (a : Term) → whole ≡ mapped (λ us. first ++ us) (literals_in live fs) → fs ≡ f ⨾ gs → given BadForm (place_of f) (literal live f) ≡ Ok a → whole ≡ mapped (λ us. (first ++ a ∷ []) ++ us) (literals_in live gs)
  one_literal fs gs f a before is here =
      before ∙ ap (λ hs. mapped (λ us. first ++ us) (literals_in live hs)) is
      ∙ ap (λ r. mapped (λ us. first ++ us) (and_then (λ t. mapped (λ us. t ∷ us) (literals_in live gs)) r)) here
      ∙ mapped_more first a (literals_in live gs)

  pub literal_refused : (fs gs : Forms) (f : Form) (e : Refused) → whole ≡ mapped (λ us. first ++ us) (literals_in live fs) → fs ≡ f ⨾ gs → given BadForm (place_of f) (literal live f) ≡ Err e → whole ≡ Err e
  literal_refused fs gs f e before is here =
      before ∙ ap (λ hs. mapped (λ us. first ++ us) (literals_in live hs)) is
      ∙ ap (λ r. mapped (λ us. first ++ us) (and_then (λ t. mapped (λ us. t ∷ us) (literals_in live gs)) r)) here

  pub last_literal : (fs : Forms) → whole ≡ mapped (λ us. first ++ us) (literals_in live fs) → fs ≡ none → whole ≡ Ok first
  last_literal fs before is = before ∙ ap (λ hs. mapped (λ us. first ++ us) (literals_in live hs)) is ∙ ap Ok (append-nil first)

pub trees_more : (t u : Formulas) (ks new : List NodeId) (k : NodeId) → GrowsTo t u → AreNodes t ks → new ≡ ks ++ k ∷ [] → trees_at u new ≡ trees_at t ks ++ tree u k ∷ []
trees_more t u ks new k grows nodes is = ap (trees_at u) is ∙ map-append (tree u) ks (k ∷ []) ∙ ap (λ us. us ++ tree u k ∷ []) (trees_stay t u grows ks nodes)

pub nodes_more : (t u : Formulas) (ks new : List NodeId) (k : NodeId) → GrowsTo t u → AreNodes t ks → IsNode u k → new ≡ ks ++ k ∷ [] → AreNodes u new
nodes_more t u ks new k grows nodes within is = subst (AreNodes u) (sym is) (All-push (λ j. IsNode u j) ks k (nodes_stay t u grows ks nodes) within)

pub assumption_refused : (s : Standing) (fs : Forms) (e : Refused) → literals_in (live_of s) fs ≡ Err e → assumes fs s ≡ Err e
assumption_refused s fs e refused = ap (mapped (λ ts. (check_assuming ts ∷ [], begun_with s (live_of s)))) refused

pub assumed : (t u : Formulas) (x : Session) (s : Standing) (fs : Forms) (ids : Nodes) → StandsAt t x s → GrowsTo t u → literals_in (live_of s) fs ≡ Ok (trees_at u ids) → Steps u (begun_at x x.sofar.scope) (CheckAssuming ids ∷ []) (assumes fs s)
assumed t u x s fs ids stands grows read = record {
  standing = begun_with s (live_of s);
  stands = stands_begun t u x s x.sofar.scope (live_of s) stands (stands_grown t u x s grows stands).shows;
  gives = ap (mapped (λ ts. (check_assuming ts ∷ [], begun_with s (live_of s)))) read;
}
