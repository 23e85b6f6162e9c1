-- The removals that are live at a point of a script, as a chain: each assertion was replaced when all removals before it in the
-- chain were live, and no others.
use Rattle.std.specs.Prelude.{◌≡◌, Bool, false, List, [], ◌∷◌, ◌++◌, map, flat_map, Some, All}
use Rattle.std.specs.List.{list_any}
use Rattle.smt_terms.specs.Fresh.{Supply}
use Rattle.smt_terms.specs.Free.{free, is_among, names_of}
use Rattle.smt_terms.specs.Groups.{Named, draw_each, with_constants}
use Rattle.smt_terms.specs.Rank.{sort_of, IsWellSorted}
use Rattle.smt_terms.specs.Shapes.{is_application}
use Rattle.smt_terms.specs.Sorts.{bool, Symbol}
use Rattle.smt_terms.specs.SubstLaws.{names_within, GivesNone}
use Rattle.smt_terms.specs.Term.{Term, apply, quantified}
use Rattle.term_groups.specs.Grouping.{symbols_of}
use Rattle.ackermann.specs.Ackermann.{applications, applications_of, has_quantified_use, without_constant, pairs}

-- what took the place of an assertion
pub record Removal : Type 0 where
  pub input : Term
  pub symbols : Named
  pub asserts : List Term

-- the removal of the applications of an input, behind the live ones with these constants. The new constants are drawn from a
-- supply that gives no name of any input, nor of an earlier constant
pub record IsRemoval (inputs : List Term) (earlier : Named) (r : Removal) : Type 0 where
  pub supply : Supply
  pub sorted : IsWellSorted r.input
  pub sort : sort_of r.input ≡ Some bool
  pub outside : has_quantified_use r.input ≡ false
  pub names : All (λ t. GivesNone supply (names_within t)) inputs
  pub apart : GivesNone supply (names_of (symbols_of earlier))
  pub symbols : r.symbols ≡ (draw_each (without_constant earlier (applications r.input)) supply).symbols
  pub asserts : r.asserts ≡ pairs (earlier ++ r.symbols) earlier r.symbols ++ with_constants (earlier ++ r.symbols) r.input ∷ []

abbrev pub AreRemovals : List Term → Named → List Removal → Type 0
AreRemovals inputs earlier [] = Unit {0}
AreRemovals inputs earlier (r ∷ rs) = IsRemoval inputs earlier r × AreRemovals inputs (earlier ++ r.symbols) rs

abbrev pub all_inputs : List Removal → List Term
all_inputs rs = map (λ r. r.input) rs

abbrev pub all_symbols : List Removal → Named
all_symbols rs = flat_map (λ r. r.symbols) rs

abbrev pub all_asserts : List Removal → List Term
all_asserts rs = flat_map (λ r. r.asserts) rs

-- ---- terms and symbols of the inputs

-- the symbol is free in one of these terms
abbrev pub is_free_in : List Term → Symbol → Bool
is_free_in ts f = list_any (λ t. is_among (free t) f) ts

-- an application of a symbol with arguments
abbrev pub is_use : Term → Bool
is_use (apply h ts) = is_application h ts
is_use (quantified q xs body) = false

-- the applications inside a term's operands
abbrev pub inner_uses : Term → List Term
inner_uses (apply h ts) = applications_of ts
inner_uses (quantified q xs body) = []
