use Rattle.std.proofs.Common.{◌∙◌, ap}
use Rattle.smt_values.proofs.WordLaws.{masked, masked_below}
use Rattle.smt_terms.specs.BitVectors.{nat2bv}
use Rattle.smt_values.proofs.Bits.{nat2bv-mod}
use Rattle.smt_values.proofs.apply.word.Word.new.Goals as goal

pub invariant_of-result : goal.invariant_of-result
invariant_of-result c = record { some = c.requires.some; narrow = c.requires.narrow; below = masked_below c.args.width c.args.bits c.requires.narrow }

pub returns-clause-bits : goal.returns-clause-bits
returns-clause-bits c = masked c.args.width c.args.bits c.requires.narrow

pub returns-clause-vector : goal.returns-clause-vector
returns-clause-vector c = ap (nat2bv c.args.width) (masked c.args.width c.args.bits c.requires.narrow) ∙ nat2bv-mod c.args.width c.args.bits
