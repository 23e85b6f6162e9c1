use Rattle.smt_values.proofs.Words.{bvult-words}
use Rattle.smt_values.proofs.WordLaws.{at_width}
use Rattle.smt_values.proofs.apply.word.Word.bvult.Goals as goal

pub returns : goal.returns
returns c = bvult-words c.args.self.width c.args.self.width c.args.self.bits c.args.other.bits c.args.self.below (at_width c.args.other.width c.args.self.width c.args.other.bits c.requires c.args.other.below)
