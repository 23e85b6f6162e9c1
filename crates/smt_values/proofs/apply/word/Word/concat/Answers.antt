use Rattle.std.proofs.Common.{rules}
use Rattle.smt_values.proofs.WordLaws.{joined_below, joined_bits}
use Rattle.smt_values.proofs.apply.word.Word.concat.Goals as goal

pub invariant_of-result : goal.invariant_of-result
invariant_of-result c = record { some = search rules; narrow = c.requires; below = joined_below c.args.low.width c.args.self.width c.args.self.bits c.args.low.bits c.requires c.args.self.below c.args.low.below }

pub returns-clause-vector : goal.returns-clause-vector
returns-clause-vector c = joined_bits c.args.low.width c.args.self.width c.args.self.bits c.args.low.bits c.requires c.args.self.below c.args.low.below
