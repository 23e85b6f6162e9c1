use Rattle.std.proofs.Common.{[], ◌-◌, ◌/◌, ◌^◌}
use Rattle.std.specs.Prelude.{bit_and}
use Rattle.std.proofs.lemmas.List.Elements.{All-nil, All-cons}
use Rattle.smt_values.specs.Meaning.{IsScalar}
use Rattle.smt_values.specs.declared.scalar.Scalar.TheVariants.{Bits}
use Rattle.smt_values.proofs.WordLaws.{masked_below}
use Rattle.smt_values_tests.proofs.tests.operators.word.Goals as goal

pub row-requires-clause-scalars : goal.row-requires-clause-scalars
row-requires-clause-scalars g c =
    let word = Bits c.args.width (bit_and c.args.bits (340282366920938463463374607431768211455 / 2 ^ (128 - c.args.width))) in
    All-cons IsScalar word [] (c.requires.some, c.requires.narrow, masked_below c.args.width c.args.bits c.requires.narrow) (All-nil IsScalar)
