-- Statements of the laws of clauses.
use Rattle.std.specs.Prelude.{◌≡◌, Some, IsTrue}
use Rattle.std.specs.List.{list_all}
use Rattle.smt_terms.specs.Fresh.{Supply}
use Rattle.smt_terms.specs.Rank.{sort_of, IsWellSorted}
use Rattle.smt_terms.specs.Shapes.{is_clause}
use Rattle.smt_terms.specs.Sorts.{bool}
use Rattle.smt_terms.specs.Term.{Term}
use Rattle.cnf_polarity.specs.Cnf.{cnf}

-- all assertions are clauses
abbrev pub CnfGivesClauses : Type 0
CnfGivesClauses = (t : Term) (s : Supply) → IsWellSorted t → sort_of t ≡ Some bool → IsTrue (list_all is_clause (cnf t s).group.asserts)
