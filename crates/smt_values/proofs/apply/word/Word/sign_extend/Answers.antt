use Rattle.std.proofs.Common.{◌∙◌, sym}
use Rattle.smt_terms.specs.BitVectors.{nat2bv}
use Rattle.smt_values.proofs.WordLaws.{extended}
use Rattle.smt_values.proofs.apply.word.Word.sign_extend.Goals as goal

pub returns-then-sign-clause-vector : goal.returns-then-sign-clause-vector
returns-then-sign-clause-vector c =
    extended c.args.self.width c.args.more c.bvnot.result.width c.bvnot.result.bits c.zero_extend.result.width c.zero_extend.result.bits (nat2bv c.args.self.width c.args.self.bits) c.bvnot.ensures.width c.zero_extend.ensures.width c.bvnot.ensures.vector c.zero_extend.ensures.vector c.bvnot-then-sign.result.bits c.bvnot-then-sign.ensures.vector (sym c.sign.ensures ∙ c.if-sign.true)
