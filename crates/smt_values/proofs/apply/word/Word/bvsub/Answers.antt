use Rattle.std.proofs.Common.{◌∙◌}
use Rattle.smt_values.proofs.Words.{bvsub-words}
use Rattle.smt_values.proofs.WordLaws.{at_width}
use Rattle.smt_values.proofs.apply.word.Word.bvsub.Goals as goal

pub returns-clause-vector : goal.returns-clause-vector
returns-clause-vector c = c.new.ensures.vector ∙ bvsub-words c.args.self.width c.args.self.bits c.args.other.bits c.args.self.narrow c.args.self.below (at_width c.args.other.width c.args.self.width c.args.other.bits c.requires c.args.other.below)
