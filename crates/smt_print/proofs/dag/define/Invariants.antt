use Rattle.std.proofs.Common.{◌≡◌, ◌++◌, length, take}
use Rattle.term_table.specs.Formulas.{tree, trees_at}
use Rattle.smt_print.specs.DagSteps.{definitions_at, let_opening, spaced_references}
use Rattle.smt_print.specs.NodeForms.{opening}
use Rattle.smt_print.proofs.dag.define.Given as goal

abbrev pub invariant-loop-kid : goal.invariant-loop-kid
invariant-loop-kid l = l.text ≡ l.fn.text ++ ((let_opening (length l.fn.scopes.current) ++ opening (tree l.table l.fn.id)) ++ spaced_references (definitions_at l.table l.fn.scopes.current) (trees_at l.table (take l.kid-index l.kid-items)))
