use Rattle.std.proofs.Common.{arith}
use Rattle.smt_values.proofs.Numbered.{default_word}
use Rattle.smt_values.proofs.array.+default_value.Goals as goal

pub returns-in-2-to-129-clause-value : goal.returns-in-2-to-129-clause-value
returns-in-2-to-129-clause-value t c = default_word c.args.sorts.now c.args.sort.0 (omega arith) (omega arith)
