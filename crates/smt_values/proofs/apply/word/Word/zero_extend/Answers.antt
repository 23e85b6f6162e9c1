use Rattle.smt_values.proofs.Words.{zero_extend-words}
use Rattle.smt_values.proofs.WordLaws.{longer}
use Rattle.std.proofs.Common.{rules}
use Rattle.smt_values.proofs.apply.word.Word.zero_extend.Goals as goal

pub invariant_of-result : goal.invariant_of-result
invariant_of-result c =
    record { some = search rules; narrow = c.requires; below = longer c.args.self.width c.args.more c.args.self.bits c.args.self.below }

pub returns-clause-vector : goal.returns-clause-vector
returns-clause-vector c =
    zero_extend-words c.args.more c.args.self.width c.args.self.bits c.args.self.below
