use Rattle.std.proofs.Common.{◌∙◌}
use Rattle.smt_values.proofs.Words.{bvnot-words}
use Rattle.smt_values.proofs.WordLaws.{not_word, longest}
use Rattle.smt_values.proofs.apply.word.Word.bvnot.Goals as goal

pub returns-clause-bits : goal.returns-clause-bits
returns-clause-bits c =
    not_word c.args.self.width c.args.self.bits c.new.result.bits c.args.self.narrow c.args.self.below c.new.ensures.bits

pub returns-clause-vector : goal.returns-clause-vector
returns-clause-vector c =
    c.new.ensures.vector ∙ bvnot-words c.args.self.width c.args.self.bits c.args.self.narrow (longest c.args.self.width c.args.self.bits c.args.self.narrow c.args.self.below)
