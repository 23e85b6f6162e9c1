use Rattle.std.proofs.Common.{[], ◌∷◌, ◌-◌, ◌/◌, ◌^◌}
use Rattle.std.specs.Prelude.{bit_and}
use Rattle.std.proofs.lemmas.List.Elements.{All-nil, All-cons}
use Rattle.smt_values.specs.Meaning.{IsScalar}
use Rattle.smt_values.specs.declared.scalar.Scalar.TheVariants.{Bits}
use Rattle.smt_values.proofs.WordLaws.{masked_below}
use Rattle.smt_values_tests.proofs.tests.operators.pair.Goals as goal

pub apply_scalar-requires-clause-scalars : goal.apply_scalar-requires-clause-scalars
apply_scalar-requires-clause-scalars g c =
    let mask = 340282366920938463463374607431768211455 / 2 ^ (128 - c.args.width) in
    let first = Bits c.args.width (bit_and c.args.operands.0 mask) in
    let second = Bits c.args.width (bit_and c.args.operands.1 mask) in
    All-cons IsScalar first (second ∷ []) (c.requires.some, c.requires.narrow, masked_below c.args.width c.args.operands.0 c.requires.narrow)
    (All-cons IsScalar second [] (c.requires.some, c.requires.narrow, masked_below c.args.width c.args.operands.1 c.requires.narrow) (All-nil IsScalar))
