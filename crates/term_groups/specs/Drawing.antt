-- Statements of the laws of constants that are drawn for terms.
use Rattle.std.specs.Prelude.{◌≡◌, true, false, List, [], Some, All}
use Rattle.smt_terms.specs.Fresh.{Supply, NeverGives}
use Rattle.smt_terms.specs.Free.{name_among, names_of}
use Rattle.smt_terms.specs.Groups.{draw_each}
use Rattle.smt_terms.specs.Rank.{sort_of, are_distinct}
use Rattle.smt_terms.specs.Sorts.{Name, Sort}
use Rattle.smt_terms.specs.SubstLaws.{Later}
use Rattle.smt_terms.specs.Term.{Term}
use Rattle.term_groups.specs.Grouping.{symbols_of, terms_of}

-- the names that are drawn, in order
abbrev pub drawn_names : List Term → Supply → List Name
drawn_names ts s = names_of (symbols_of (draw_each ts s).symbols)

-- one for each term, in order
abbrev pub DrawsForEach : Type 0
DrawsForEach = (ts : List Term) (s : Supply) → terms_of (draw_each ts s).symbols ≡ ts

-- constants of the terms' sorts
abbrev pub DrawsConstants : Type 0
DrawsConstants = (ts : List Term) (s : Supply) → All (λ p. (p.0.args ≡ []) × ((to : Sort) → sort_of p.1 ≡ Some to → p.0.result ≡ to)) (draw_each ts s).symbols

-- none has a name that the supply doesn't give
abbrev pub DrawsNewNames : Type 0
DrawsNewNames = (ts : List Term) (s : Supply) (n : Name) → NeverGives s n → name_among (drawn_names ts s) n ≡ false

-- no two have one name
abbrev pub DrawsApart : Type 0
DrawsApart = (ts : List Term) (s : Supply) → are_distinct (drawn_names ts s) ≡ true

-- none of their names is drawn again, nor any that the supply didn't give before
abbrev pub DrawnAreGone : Type 0
DrawnAreGone = (ts : List Term) (s : Supply) (n : Name) → name_among (drawn_names ts s) n ≡ true → NeverGives (draw_each ts s).names n

abbrev pub DrawingGivesLater : Type 0
DrawingGivesLater = (ts : List Term) (s : Supply) → Later s (draw_each ts s).names

-- all of these
pub record ConstantsAreNew : Type 0 where
  pub each : DrawsForEach
  pub constants : DrawsConstants
  pub new : DrawsNewNames
  pub apart : DrawsApart
  pub gone : DrawnAreGone
  pub later : DrawingGivesLater
