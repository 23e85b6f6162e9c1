-- What substitution asks of a map, and what it leaves of a supply of names: SMT-LIB 2.6, sections 3.6 and 5.3.
use Rattle.std.specs.Prelude.{◌≡◌, ℕ, ◌<◌, ◌≤◌, List, [], All, Some, length, get_or}
use Rattle.smt_terms.specs.declared.ids.NodeId.{NodeId}
use Rattle.smt_terms.specs.declared.ids.SymId.{SymId}
use Rattle.smt_terms.specs.Sorts.{Symbol}
use Rattle.smt_terms.specs.Rank.{sort_of}
use Rattle.smt_terms.specs.Fresh.{Supply, NeverGives}
use Rattle.term_table.specs.Formulas.{Formulas, no_symbol, symbol_at, tree, IsSymbol, IsNode}
use Rattle.term_subst.specs.Maps.{Pairs}

-- a constant of the table, and a term of its sort
pub record IsPair (t : Formulas) (p : SymId × NodeId) : Type 0 where
  pub symbol : IsSymbol t p.0
  pub constant : (symbol_at t p.0).args ≡ []
  pub image : IsNode t p.1
  pub sort : sort_of (tree t p.1) ≡ Some (symbol_at t p.0).result

abbrev pub IsMap : Formulas → Pairs → Type 0
IsMap t ps = All (IsPair t) ps

-- the same names are taken, and a name that was drawn isn't drawn again
pub record IsLater (old new : Supply) : Type 0 where
  pub taken : new.taken ≡ old.taken
  pub number : old.number ≤ new.number

-- symbols that came behind the old ones have names that the supply doesn't give
abbrev pub NeverGivesGained : Supply → List Symbol → List Symbol → Type 0
NeverGivesGained s old new = (i : ℕ) → length old ≤ i → i < length new → NeverGives s (get_or new i no_symbol).name
