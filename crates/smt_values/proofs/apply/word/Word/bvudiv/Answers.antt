use Rattle.std.proofs.Common.{◌∙◌}
use Rattle.smt_values.proofs.Words.{bvudiv-words, bvudiv-zero}
use Rattle.smt_values.proofs.WordLaws.{at_width, not_zero}
use Rattle.smt_values.proofs.apply.word.Word.bvudiv.Goals as goal

pub returns-then-other-eq0-clause-vector : goal.returns-then-other-eq0-clause-vector
returns-then-other-eq0-clause-vector c = c.new.ensures.vector ∙ bvudiv-zero c.args.self.width c.args.self.bits c.args.other.bits c.if-other-eq0.true c.args.self.narrow

pub returns-clause-vector : goal.returns-clause-vector
returns-clause-vector c = bvudiv-words c.args.self.width c.args.self.bits c.args.other.bits c.args.self.below (at_width c.args.other.width c.args.self.width c.args.other.bits c.requires c.args.other.below) (not_zero c.args.other.bits c.if-other-eq0.false)
