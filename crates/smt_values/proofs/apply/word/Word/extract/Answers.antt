use Rattle.std.proofs.Common.{◌∙◌}
use Rattle.smt_values.proofs.Words.{extract-words}
use Rattle.smt_values.proofs.apply.word.Word.extract.Goals as goal

pub returns-clause-vector : goal.returns-clause-vector
returns-clause-vector c = c.new.ensures.vector ∙ extract-words c.args.high c.args.low c.args.self.width c.args.self.bits c.requires.order c.requires.within
