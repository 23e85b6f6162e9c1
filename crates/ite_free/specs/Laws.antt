-- Statements of the laws of the removal of `ite` over terms.
use Rattle.std.specs.Prelude.{◌≡◌, Some, IsTrue}
use Rattle.std.specs.List.{list_all}
use Rattle.smt_terms.specs.Fresh.{Supply}
use Rattle.smt_terms.specs.Rank.{sort_of, IsWellSorted}
use Rattle.smt_terms.specs.Shapes.{no_term_ite}
use Rattle.smt_terms.specs.Sorts.{bool}
use Rattle.smt_terms.specs.Term.{Term}
use Rattle.ite_free.specs.Ite.{ite}

-- no `ite` over terms is left outside quantifiers
abbrev pub IteLeavesNone : Type 0
IteLeavesNone = (t : Term) (s : Supply) → IsWellSorted t → sort_of t ≡ Some bool → IsTrue (list_all no_term_ite (ite t s).group.asserts)
