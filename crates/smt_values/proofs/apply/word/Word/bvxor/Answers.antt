use Rattle.smt_values.proofs.Words.{nat2bv-xor}
use Rattle.std.proofs.lemmas.Nat.{xor_lt}
use Rattle.smt_values.proofs.WordLaws.{at_width}
use Rattle.smt_values.proofs.apply.word.Word.bvxor.Goals as goal

pub invariant_of-result : goal.invariant_of-result
invariant_of-result c = record { some = c.args.self.some; narrow = c.args.self.narrow; below = xor_lt c.args.self.width c.args.self.bits c.args.other.bits c.args.self.below (at_width c.args.other.width c.args.self.width c.args.other.bits c.requires c.args.other.below) }

pub returns-clause-vector : goal.returns-clause-vector
returns-clause-vector c = nat2bv-xor c.args.self.width c.args.self.bits c.args.other.bits
