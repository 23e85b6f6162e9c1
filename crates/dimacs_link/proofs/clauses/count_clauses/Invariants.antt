use Rattle.std.proofs.Common.{◌≤◌, List}
use Rattle.smt_terms.specs.Sorts.{Symbol}
use Rattle.term_table.specs.Formulas.{trees_at}
use Rattle.dimacs_link.specs.Constants.{AreNumbersOf}
use Rattle.dimacs_link.proofs.ClauseLists.{AreCounted}
use Rattle.dimacs_link.proofs.clauses.count_clauses.Given as goal

abbrev pub invariant-loop-place : goal.invariant-loop-place
invariant-loop-place l = record {
  few : l.count ≤ l.place;
  counted : (cs : List Symbol) → AreNumbersOf l.table cs l.numbers → AreCounted cs (trees_at l.table l.roots) l.place l.count;
}
