use Rattle.std.proofs.Common.{◌==◌, sym}
use Rattle.smt_terms.specs.BitVectors.{bv2nat}
use Rattle.term_table.specs.Formulas.{kind, tree, operands}
use Rattle.simplify.proofs.ConstantNodes.{no-bits}
use Rattle.simplify.proofs.ConstantTests.{bits_constant, bits_told}
use Rattle.simplify.proofs.constants.is_bits.Goals as goal

pub returns-in-Bits : goal.returns-in-Bits
unfolding kind
returns-in-Bits c =
    let u = tree c.args.table.now c.args.id in
    let w = c.in-Bits.width in
    let n = c.in-Bits.bits in
    let there = bits_constant w n u (operands u) (c.in-Bits.ensures.table.sorted c.args.id.0 c.requires) c.in-Bits.ensures.term in
    sym (bits_told u w n there.value there.scalar.2 c.args.n)

pub returns-in_default : goal.returns-in_default
returns-in_default c = no-bits c.args.table.now c.op.result (tree c.args.table.now c.args.id) c.op.ensures.term (λ bs. bv2nat bs == c.args.n) c.in_default.not-Bits
