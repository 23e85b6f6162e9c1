use Rattle.std.proofs.Common.{◌∙◌}
use Rattle.smt_values.proofs.WordLaws.{neg_word}
use Rattle.smt_values.proofs.apply.word.Word.bvneg.Goals as goal

pub returns-clause-vector : goal.returns-clause-vector
returns-clause-vector c = c.new.ensures.vector ∙ neg_word c.args.self.width c.args.self.bits c.args.self.narrow c.args.self.below
