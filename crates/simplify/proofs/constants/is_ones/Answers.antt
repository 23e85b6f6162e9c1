use Rattle.std.proofs.Common.{length}
use Rattle.std.proofs.lemmas.Bool.Decides.{Decides-eqb}
use Rattle.smt_terms.specs.BitVectors.{bits_eq, ones}
use Rattle.smt_values.specs.declared.scalar.Scalar.TheVariants as scalar
use Rattle.term_table.specs.Formulas.{kind, tree, operands}
use Rattle.simplify.proofs.ConstantNodes.{no-bits}
use Rattle.simplify.proofs.ConstantTests.{IsConstantOf, bits_constant, ones_told}
use Rattle.simplify.proofs.constants.is_ones.Goals as goal

bits_there : (c : goal.In-Bits) → IsConstantOf (tree c.args.table.now c.args.id) (scalar.Bits c.in-Bits.width c.in-Bits.bits)
unfolding kind
bits_there c =
    let u = tree c.args.table.now c.args.id in
    bits_constant c.in-Bits.width c.in-Bits.bits u (operands u) (c.in-Bits.ensures.table.sorted c.args.id.0 c.requires) c.in-Bits.ensures.term

pub all_ones-requires-clause-some : goal.all_ones-requires-clause-some
all_ones-requires-clause-some c = (bits_there c).scalar.0

pub all_ones-requires-clause-most : goal.all_ones-requires-clause-most
all_ones-requires-clause-most c = (bits_there c).scalar.1

pub returns-in-Bits : goal.returns-in-Bits
unfolding kind
returns-in-Bits c =
    let u = tree c.args.table.now c.args.id in
    let w = c.in-Bits.width in
    let n = c.in-Bits.bits in
    let there = bits_constant w n u (operands u) (c.in-Bits.ensures.table.sorted c.args.id.0 c.requires) c.in-Bits.ensures.term in
    let tells = Decides-eqb n c.all_ones.result in
    ones_told u w n there.value there.scalar.2 c.all_ones.result c.all_ones.ensures _ tells.0 tells.1

pub returns-in_default : goal.returns-in_default
returns-in_default c = no-bits c.args.table.now c.op.result (tree c.args.table.now c.args.id) c.op.ensures.term (λ bs. bits_eq bs (ones (length bs))) c.in_default.not-Bits
