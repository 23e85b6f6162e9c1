use Rattle.std.proofs.Common.{◌+◌, length}
use Rattle.smt_terms.specs.Term.{constant_of}
use Rattle.term_table.specs.Formulas.{tree, variable_of}
use Rattle.quantifier_forms.specs.Tasks.{work_left}
use Rattle.simplify.specs.Occurring.{Searches}
use Rattle.simplify.proofs.occurrence.occurs.Given as goal

abbrev pub invariant-loop-id : goal.invariant-loop-id
invariant-loop-id l = record {
  searches : Searches l.fn.table (constant_of (variable_of (tree l.fn.table l.fn.variable))) l.fn.root l.waiting.items l.met.keys;
}

abbrev pub decreases-loop-id : goal.decreases-loop-id
decreases-loop-id l = work_left l.fn.table l.met.keys (length l.fn.table.trees) + length l.waiting.items
