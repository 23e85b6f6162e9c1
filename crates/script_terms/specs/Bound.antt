-- What the reader keeps of the local bindings: names with what they are read as, the innermost first.
use Rattle.std.specs.Prelude.{◌≡◌, ℕ, Bool, true, false, ◌||◌, if◌then◌else◌, List, [], ◌∷◌, ◌++◌, map, All, Option, None}
use Rattle.smt_lex.specs.Lex.{Token, name_of}
use Rattle.smt_lex.specs.Names.{Name}
use Rattle.smt_lex.specs.Forest.{token_at}
use Rattle.smt_terms.specs.declared.ids.NodeId.{NodeId}
use Rattle.smt_terms.specs.declared.ids.SymId.{SymId}
use Rattle.smt_terms.specs.Equal.{name_eq}
use Rattle.smt_terms.specs.Fresh.{Supply}
use Rattle.smt_terms.specs.Sorts.{Symbol, Variable}
use Rattle.smt_terms.specs.Term.{Term, constant_of}
use Rattle.smt_values.specs.SortIds.{sort_at}
use Rattle.term_table.specs.Formulas.{Formulas, tree, symbol_at}
use Rattle.script_terms.specs.declared.locals.Local.{Local}
use Rattle.script_terms.specs.declared.locals.Local.TheVariants.{Let, Quantified, Parameter}
use Rattle.script_terms.specs.declared.locals.Constant.{Constant}
use Rattle.script_terms.specs.declared.binders.SortedName.{SortedName}
use Rattle.script_terms.specs.Known.{Scoping, declared_among, IsSpared, IsConstant, IsOwnName}
use Rattle.script_terms.specs.Scope.{or_later}
use Rattle.script_terms.specs.Reading.{ReadLocal, lets_as, quantified_as, parameter_as}

abbrev pub LocalNames : Type 0
LocalNames = List (Name × Local)

abbrev pub let_local : Name × NodeId → Name × Local
let_local p = (p.0, Let p.1)

-- the innermost binding of a name
abbrev pub innermost : LocalNames → Name → Option Local
innermost [] n = None
innermost (p ∷ ps) n = or_later (name_eq p.0 n) p.1 (innermost ps n)

-- the node that a name is read as
abbrev pub node_of : Local → NodeId
node_of (Let k) = k
node_of (Quantified c) = c.node
node_of (Parameter c) = c.node

abbrev pub is_quantified_local : Local → Bool
is_quantified_local (Quantified c) = true
is_quantified_local _ = false

-- a quantifier around the place binds this name
abbrev pub quantified_among : LocalNames → Name → Bool
quantified_among [] n = false
quantified_among (p ∷ ps) n = if is_quantified_local p.1 then name_eq p.0 n || quantified_among ps n else quantified_among ps n

abbrev pub constants_before : Local → List SymId → List SymId
constants_before (Let k) fs = fs
constants_before (Quantified c) fs = c.symbol ∷ fs
constants_before (Parameter c) fs = c.symbol ∷ fs

-- the symbols of quantified names and parameters
abbrev pub constants_in : LocalNames → List SymId
constants_in [] = []
constants_in (p ∷ ps) = constants_before p.1 (constants_in ps)

-- ---- what they stand for

pub data LocalMeant : Type 0 where
  let_meant : Term → LocalMeant
  quantified_meant : Symbol → LocalMeant
  parameter_meant : Symbol → LocalMeant

abbrev pub local_meant : Formulas → Local → LocalMeant
local_meant t (Let k) = let_meant (tree t k)
local_meant t (Quantified c) = quantified_meant (symbol_at t c.symbol)
local_meant t (Parameter c) = parameter_meant (symbol_at t c.symbol)

abbrev pub locals_shown : Formulas → LocalNames → List (Name × LocalMeant)
locals_shown t ps = map (λ p. (p.0, local_meant t p.1)) ps

abbrev pub IsLocal : Formulas → Supply → Local → Type 0
IsLocal t supply (Let k) = IsSpared t supply k
IsLocal t supply (Quantified c) = IsConstant t supply c
IsLocal t supply (Parameter c) = IsConstant t supply c

abbrev pub AreLocals : Formulas → Supply → LocalNames → Type 0
AreLocals t supply ps = All (λ p. IsLocal t supply p.1) ps

-- no name is one of the theories
abbrev pub HaveOwnNames : {A : Type 0} → List (Name × A) → Type 0
HaveOwnNames ps = All (λ p. IsOwnName p.0) ps

-- ---- the local bindings that they stand for

abbrev pub locals_live : List ReadLocal → List (Name × LocalMeant)
locals_live [] = []
locals_live (lets_as fs ts ∷ ls) = map (λ p. (p.0, let_meant p.1)) ts ++ locals_live ls
locals_live (quantified_as x n ∷ ls) = (x.name, quantified_meant (constant_of (record { name = n; sort = x.sort }))) ∷ locals_live ls
locals_live (parameter_as x n ∷ ls) = (x.name, parameter_meant (constant_of (record { name = n; sort = x.sort }))) ∷ locals_live ls

pub record ShowsLocals (t : Formulas) (supply : Supply) (ps : LocalNames) (ls : List ReadLocal) : Type 0 where
  pub names : locals_shown t ps ≡ locals_live ls
  pub numbers : AreLocals t supply ps
  pub own : HaveOwnNames ps

-- ---- names that are taken, and variables

-- a live declared symbol has the name, or a quantifier around the place binds it
abbrev pub is_taken_in : Scoping → LocalNames → Name → Bool
is_taken_in s ps n = declared_among s.terms n || quantified_among ps n

abbrev pub name_at : List Token → ℕ → Name
name_at ts i = name_of (token_at ts i)

-- a name by its token, with its sort
abbrev pub variable_seen : Formulas → List Token → SortedName → Variable
variable_seen t ts x = record { name = name_at ts x.name; sort = sort_at t.sorts x.sort }

abbrev pub variables_seen : Formulas → List Token → List SortedName → List Variable
variables_seen t ts xs = map (variable_seen t ts) xs

abbrev pub symbols_seen : Formulas → List Constant → List Symbol
symbols_seen t cs = map (λ c. symbol_at t c.symbol) cs

-- the variable of a constant
abbrev pub variable_for : Symbol → Variable
variable_for f = record { name = f.name; sort = f.result }

abbrev pub variables_of : Formulas → List Constant → List Variable
variables_of t cs = map (λ c. variable_for (symbol_at t c.symbol)) cs

-- the names with quantified ones inside all others
abbrev pub entered : List Token → List SortedName → List Constant → LocalNames → LocalNames
entered ts (x ∷ xs) (c ∷ cs) ps = entered ts xs cs ((name_at ts x.name, Quantified c) ∷ ps)
entered ts _ _ ps = ps
