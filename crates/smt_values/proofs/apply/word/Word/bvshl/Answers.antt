use Rattle.std.proofs.Common.{◌∙◌, ap}
use Rattle.smt_terms.specs.BitVectors.{nat2bv}
use Rattle.smt_values.proofs.Words.{bvshl-out}
use Rattle.smt_values.proofs.WordLaws.{at_width, shl_word}
use Rattle.smt_values.proofs.apply.word.Word.bvshl.Goals as goal

pub returns-in-Some-clause-vector : goal.returns-in-Some-clause-vector
returns-in-Some-clause-vector c =
    shl_word c.args.self.width c.args.self.bits c.args.other.bits c.in-Some.n c.new.result.bits c.args.self.narrow c.args.self.below (at_width c.args.other.width c.args.self.width c.args.other.bits c.requires c.args.other.below) c.in-Some.ensures.near c.in-Some.ensures.some c.new.ensures.vector

pub returns-in-None-clause-vector : goal.returns-in-None-clause-vector
returns-in-None-clause-vector c =
    ap (nat2bv c.args.self.width) c.zero.ensures.bits ∙ bvshl-out c.args.self.width c.args.self.bits c.args.self.width c.args.other.bits c.args.self.below (at_width c.args.other.width c.args.self.width c.args.other.bits c.requires c.args.other.below) c.in-None.ensures.none
