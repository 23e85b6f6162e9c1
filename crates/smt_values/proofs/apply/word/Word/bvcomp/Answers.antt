use Rattle.smt_values.proofs.WordLaws.{at_width, comp_bit}
use Rattle.smt_values.proofs.apply.word.Word.bvcomp.Goals as goal

pub returns-clause-vector : goal.returns-clause-vector
returns-clause-vector c =
    comp_bit c.args.self.width c.args.self.bits c.args.other.bits c.from.result c.new.result.bits c.args.self.below (at_width c.args.other.width c.args.self.width c.args.other.bits c.requires c.args.other.below) c.from.ensures c.new.ensures.bits
