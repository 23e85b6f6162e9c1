-- What the reader keeps of the live bindings: names of terms and names of sorts apart, each list the latest first with the
-- marks of levels, and the definitions by their numbers.
use Rattle.std.specs.Prelude.{◌≡◌, ◌≢◌, ℕ, suc, ◌<◌, Bool, true, false, not, ◌&&◌, ◌||◌, is_some, List, [], ◌∷◌, ◌++◌, map, length, count_by, get_or, All, Option, Some, None, option_map, Result, Ok, Err}
use Rattle.smt_lex.specs.Names.{Name, is_theory_name}
use Rattle.smt_terms.specs.declared.ids.NodeId.{NodeId}
use Rattle.smt_terms.specs.declared.ids.SymId.{SymId}
use Rattle.smt_terms.specs.declared.ids.SortId.{SortId}
use Rattle.smt_terms.specs.Equal.{name_eq}
use Rattle.smt_terms.specs.Fresh.{Supply, NeverGives}
use Rattle.smt_terms.specs.SubstLaws.{names_within, GivesNone}
use Rattle.smt_terms.specs.Sorts.{Sort, Symbol}
use Rattle.smt_terms.specs.Subst.{parameter}
use Rattle.smt_terms.specs.Term.{Term, constant}
use Rattle.smt_values.specs.SortIds.{sort_at, IsSortId}
use Rattle.term_table.specs.Formulas.{Formulas, tree, symbol_at, IsNode, IsSymbol}
use Rattle.term_subst.specs.declared.maps.Definition.{Definition}
use Rattle.script_terms.specs.declared.scopes.Entry.{Entry}
use Rattle.script_terms.specs.declared.scopes.Entry.TheVariants.{Symbol as SymbolEntry, Constant as ConstantEntry, Definition as DefinitionEntry, Term as TermEntry}
use Rattle.script_terms.specs.declared.faults.ReadFault.{ReadFault}
use Rattle.script_terms.specs.declared.locals.Constant.{Constant}
use Rattle.script_terms.specs.Refusals.{Refused}
use Rattle.script_terms.specs.Replies.{Refuses}
use Rattle.script_terms.specs.Scope.{or_later}
use Rattle.script_terms.specs.SortForms.{Sorts}
use Rattle.script_terms.specs.Reading.{ReadBinding, sort_known, function_known, definition_as, named_as, level_known, Sofar}

-- ---- lists of names with marks between them

-- a name with what it stands for, or the mark of a level
abbrev pub Scoped : Type 0 → Type 0
Scoped A = Option (Name × A)

abbrev pub is_mark : {A : Type 0} → Scoped A → Bool
is_mark s = not (is_some s)

-- what the latest binding of a name has
abbrev pub find : {A : Type 0} → List (Scoped A) → Name → Option A
find [] n = None
find (Some p ∷ bs) n = or_later (name_eq p.0 n) p.1 (find bs n)
find (None ∷ bs) n = find bs n

abbrev pub scoped : {A B : Type 0} → (A → B) → Scoped A → Scoped B
scoped f s = option_map (λ p. (p.0, f p.1)) s

-- ---- what a scope is

pub record Scoping : Type 0 where
  pub terms : List (Scoped Entry)
  pub sorts : List (Scoped SortId)
  pub definitions : List Definition

abbrev pub nothing_known : Scoping
nothing_known = record { terms = []; sorts = []; definitions = [] }

abbrev pub with_entry : Name → Entry → Scoping → Scoping
with_entry n e s = record { terms = Some (n, e) ∷ s.terms; sorts = s.sorts; definitions = s.definitions }

abbrev pub with_sort : Name → SortId → Scoping → Scoping
with_sort n k s = record { terms = s.terms; sorts = Some (n, k) ∷ s.sorts; definitions = s.definitions }

-- a definition gets the next number
abbrev pub with_definition : Name → Definition → Scoping → Scoping
with_definition n d s =
    record { terms = Some (n, DefinitionEntry (length s.definitions)) ∷ s.terms; sorts = s.sorts; definitions = s.definitions ++ d ∷ [] }

abbrev pub is_symbol_entry : Entry → Bool
is_symbol_entry (SymbolEntry f) = true
is_symbol_entry (ConstantEntry c) = true
is_symbol_entry _ = false

-- a declared symbol has this name
abbrev pub declared_among : List (Scoped Entry) → Name → Bool
declared_among [] n = false
declared_among (Some p ∷ bs) n = (is_symbol_entry p.1 && name_eq p.0 n) || declared_among bs n
declared_among (None ∷ bs) n = declared_among bs n

-- how many levels are open
abbrev pub levels_in : Scoping → ℕ
levels_in s = count_by is_mark s.terms

-- ---- what its entries stand for

pub data Meant : Type 0 where
  symbol_meant : Symbol → Meant
  -- the sorts of the parameters, and the body
  definition_meant : List Sort → Term → Meant
  term_meant : Term → Meant

abbrev pub no_definition : Definition
no_definition = record { params = []; body = record { 0 = 0 } }

abbrev pub parameter_sorts : Formulas → Definition → List Sort
parameter_sorts t d = map (λ f. (symbol_at t f).result) d.params

abbrev pub meant_by : Formulas → List Definition → Entry → Meant
meant_by t ds (SymbolEntry f) = symbol_meant (symbol_at t f)
meant_by t ds (ConstantEntry c) = symbol_meant (symbol_at t c.symbol)
meant_by t ds (DefinitionEntry k) = definition_meant (parameter_sorts t (get_or ds k no_definition)) (tree t (get_or ds k no_definition).body)
meant_by t ds (TermEntry k) = term_meant (tree t k)

abbrev pub terms_shown : Formulas → Scoping → List (Scoped Meant)
terms_shown t s = map (scoped (meant_by t s.definitions)) s.terms

abbrev pub sorts_shown : Formulas → Scoping → List (Scoped Sort)
sorts_shown t s = map (scoped (sort_at t.sorts)) s.sorts

-- the sorts that names stand for
abbrev pub sorts_known : Formulas → Scoping → Sorts
sorts_known t s n = option_map (sort_at t.sorts) (find s.sorts n)

-- ---- numbers are those of the table

-- the constants that stand for parameters of these sorts, from number i on
abbrev pub parameters_of : ℕ → List Sort → List Symbol
parameters_of i [] = []
parameters_of i (s ∷ ss) = parameter i s ∷ parameters_of (suc i) ss

-- a node in whose term no name stands that the supply may still give
pub record IsSpared (t : Formulas) (supply : Supply) (k : NodeId) : Type 0 where
  pub node : IsNode t k
  pub spared : GivesNone supply (names_within (tree t k))

abbrev pub AreSpared : Formulas → Supply → List NodeId → Type 0
AreSpared t supply ks = All (IsSpared t supply) ks

pub record IsDefinition (t : Formulas) (supply : Supply) (d : Definition) : Type 0 where
  pub body : IsSpared t supply d.body
  pub symbols : All (IsSymbol t) d.params
  pub params : map (symbol_at t) d.params ≡ parameters_of 0 (parameter_sorts t d)

-- a symbol without arguments, and its node
pub record IsConstant (t : Formulas) (supply : Supply) (c : Constant) : Type 0 where
  pub symbol : IsSymbol t c.symbol
  pub node : IsNode t c.node
  pub term : tree t c.node ≡ constant (symbol_at t c.symbol)
  pub args : (symbol_at t c.symbol).args ≡ []
  pub spared : NeverGives supply (symbol_at t c.symbol).name

-- a symbol of this name that takes arguments
pub record IsFunction (t : Formulas) (supply : Supply) (n : Name) (f : SymId) : Type 0 where
  pub symbol : IsSymbol t f
  pub args : (symbol_at t f).args ≢ []
  pub name : (symbol_at t f).name ≡ n
  pub spared : NeverGives supply n

-- one that takes none
pub record IsNamedConstant (t : Formulas) (supply : Supply) (n : Name) (c : Constant) : Type 0 where
  pub constant : IsConstant t supply c
  pub name : (symbol_at t c.symbol).name ≡ n

-- an entry of this name
abbrev pub IsEntry : Formulas → Supply → List Definition → Name → Entry → Type 0
IsEntry t supply ds n (SymbolEntry f) = IsFunction t supply n f
IsEntry t supply ds n (ConstantEntry c) = IsNamedConstant t supply n c
IsEntry t supply ds n (DefinitionEntry k) = k < length ds
IsEntry t supply ds n (TermEntry k) = IsSpared t supply k

-- a name that isn't one of the theories
abbrev pub IsOwnName : Name → Type 0
IsOwnName n = is_theory_name n ≡ false

abbrev pub HasOwnName : {A : Type 0} → Scoped A → Type 0
HasOwnName None = Unit {0}
HasOwnName (Some p) = IsOwnName p.0

abbrev pub IsScopedEntry : Formulas → Supply → List Definition → Scoped Entry → Type 0
IsScopedEntry t supply ds None = Unit {0}
IsScopedEntry t supply ds (Some p) = IsEntry t supply ds p.0 p.1

abbrev pub IsScopedSort : List Sort → Scoped SortId → Type 0
IsScopedSort ss None = Unit {0}
IsScopedSort ss (Some p) = IsSortId ss p.1

abbrev pub AreScopedSorts : List Sort → List (Scoped SortId) → Type 0
AreScopedSorts ss bs = All (IsScopedSort ss) bs

pub record IsScoping (t : Formulas) (supply : Supply) (s : Scoping) : Type 0 where
  pub terms : All (IsScopedEntry t supply s.definitions) s.terms
  pub names : All HasOwnName s.terms
  pub sorts : AreScopedSorts t.sorts s.sorts
  pub definitions : All (IsDefinition t supply) s.definitions

-- ---- the live bindings that it stands for

abbrev pub names_meant : List Name → Term → List (Scoped Meant) → List (Scoped Meant)
names_meant [] t bs = bs
names_meant (n ∷ ns) t bs = names_meant ns t (Some (n, term_meant t) ∷ bs)

-- names of terms, those of one annotation from left to right
abbrev pub terms_live : List ReadBinding → List (Scoped Meant)
terms_live [] = []
terms_live (sort_known n s ∷ bs) = terms_live bs
terms_live (function_known f ∷ bs) = Some (f.name, symbol_meant f) ∷ terms_live bs
terms_live (definition_as n xs body t ∷ bs) = Some (n, definition_meant (map (λ x. x.sort) xs) t) ∷ terms_live bs
terms_live (named_as ns f t ls ∷ bs) = names_meant ns t (terms_live bs)
terms_live (level_known ∷ bs) = None ∷ terms_live bs

abbrev pub sorts_live : List ReadBinding → List (Scoped Sort)
sorts_live [] = []
sorts_live (sort_known n s ∷ bs) = Some (n, s) ∷ sorts_live bs
sorts_live (level_known ∷ bs) = None ∷ sorts_live bs
sorts_live (_ ∷ bs) = sorts_live bs

pub record Shows (t : Formulas) (supply : Supply) (s : Scoping) (live : List ReadBinding) : Type 0 where
  pub terms : terms_shown t s ≡ terms_live live
  pub sorts : sorts_shown t s ≡ sorts_live live
  pub numbers : IsScoping t supply s

-- ---- answers

-- a reading gave this, with bindings that the scope shows and these names left
pub record Gives {A : Type 0} (t : Formulas) (s : Scoping) (supply : Supply) (a : A) (r : Result (A × Sofar) Refused) : Type 0 where
  pub live : List ReadBinding
  pub shows : Shows t supply s live
  pub given : r ≡ Ok (a, record { live = live; supply = supply })

-- the answer is the term of the reading
abbrev pub ReadsTerm : Formulas → Scoping → Supply → Result (Term × Sofar) Refused → Result NodeId ReadFault → Type 0
ReadsTerm t s supply r (Ok k) = IsSpared t supply k × Gives t s supply (tree t k) r
ReadsTerm t s supply r (Err e) = Refuses r e
