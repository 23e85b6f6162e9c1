use Rattle.std.proofs.Common.{◌≡◌, ◌++◌, List, Bool, drop, All}
use Rattle.term_table.specs.Formulas.{tree, trees_at}
use Rattle.term_walk.specs.Walking.{GrowsTo}
use Rattle.normal_forms.specs.Nodes.{IsFormula}
use Rattle.cnf_polarity.specs.Cnf.{Occurrence, occurs}
use Rattle.cnf_polarity.specs.Literals.{names_at}
use Rattle.cnf_polarity.specs.Marks.{has_sign, marked}
use Rattle.cnf_polarity.specs.Putting.{all_clauses}
use Rattle.cnf_polarity.proofs.clauses.define_all.Given as goal

abbrev pub invariant-loop-i : goal.invariant-loop-i
invariant-loop-i l = record {
  grows : GrowsTo l.fn.table l.table;
  symbols : l.table.symbols ≡ l.fn.table.symbols;
  sorts : l.table.sorts ≡ l.fn.table.sorts;
  formulas : All (IsFormula l.table) l.asserts;
  terms : (os : List Occurrence) → All (λ k. (sign : Bool) → has_sign sign (marked l.occurrences k) ≡ occurs sign (tree l.fn.table k) os) l.named
      → trees_at l.table l.asserts ++ all_clauses (names_at l.fn.table l.named l.names) os (names_at l.fn.table (drop l.i l.named) (drop l.i l.names))
      ≡ trees_at l.fn.table l.fn.asserts ++ all_clauses (names_at l.fn.table l.named l.names) os (names_at l.fn.table l.named l.names);
}
