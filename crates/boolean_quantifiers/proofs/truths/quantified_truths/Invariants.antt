use Rattle.std.proofs.Common.{All}
use Rattle.term_table.specs.Formulas.{IsNode}
use Rattle.boolean_quantifiers.proofs.truths.quantified_truths.Given as goal

abbrev pub invariant-loop-id : goal.invariant-loop-id
invariant-loop-id l = All (IsNode l.fn.table) l.truths.keys
