use Rattle.std.proofs.Common.{◌≡◌, ◌∙◌, ◌+◌, ◌-◌, ◌<◌, arith}
use Rattle.smt_terms.specs.BitVectors.{nat2bv, extract}
use Rattle.smt_terms.proofs.BitLengths.{length-nat2bv}
use Rattle.smt_values.proofs.WordLaws.{parts_joined}
use Rattle.smt_values.proofs.Words.{rotate_left-parts}
use Rattle.smt_values.proofs.apply.word.Word.rotate_left.Goals as goal

pub returns-clause-vector : goal.returns-clause-vector
returns-clause-vector c =
    let some : 0 < c.args.places = omega arith in
    let whole : (c.args.self.width - c.args.places - 1 - 0 + 1) + (c.args.self.width - 1 - (c.args.self.width - c.args.places) + 1) ≡ c.args.self.width = omega arith in
    parts_joined c.args.self.width c.extract.result.width c.extract-2.result.width (c.args.self.width - c.args.places - 1 - 0 + 1) (c.args.self.width - 1 - (c.args.self.width - c.args.places) + 1) c.concat.result.bits c.extract.result.bits c.extract-2.result.bits (extract (c.args.self.width - c.args.places - 1) 0 (nat2bv c.args.self.width c.args.self.bits)) (extract (c.args.self.width - 1) (c.args.self.width - c.args.places) (nat2bv c.args.self.width c.args.self.bits)) c.extract.ensures.width c.extract-2.ensures.width whole c.concat.ensures.vector c.extract.ensures.vector c.extract-2.ensures.vector
    ∙ rotate_left-parts c.args.places c.args.self.width (nat2bv c.args.self.width c.args.self.bits) (length-nat2bv c.args.self.width c.args.self.bits) some c.requires
