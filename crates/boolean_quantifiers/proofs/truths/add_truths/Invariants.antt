use Rattle.std.proofs.Common.{All}
use Rattle.term_table.specs.Formulas.{IsNode}
use Rattle.boolean_quantifiers.proofs.truths.add_truths.Given as goal

abbrev pub invariant-loop-kid : goal.invariant-loop-kid
invariant-loop-kid l = All (IsNode l.fn.table) l.truths.keys
