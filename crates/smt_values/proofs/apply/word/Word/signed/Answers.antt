use Rattle.smt_values.proofs.WordLaws.{complement_below_half, below_half, negative_word, positive_word}
use Rattle.std.proofs.Common.{sym, ◌∙◌}
use Rattle.smt_values.proofs.apply.word.Word.signed.Goals as goal

pub overflow_cast-result : goal.overflow_cast-result
overflow_cast-result c =
    record { sfits = complement_below_half c.args.self.width c.args.self.bits c.bvnot.result.bits c.args.self.narrow c.args.self.some c.args.self.below (sym c.sign.ensures ∙ c.if-sign.true) c.bvnot.ensures.bits }

pub overflow_cast-result-else-sign : goal.overflow_cast-result-else-sign
overflow_cast-result-else-sign c =
    record { sfits = below_half c.args.self.width c.args.self.bits c.args.self.narrow c.args.self.some c.args.self.below (sym c.sign.ensures ∙ c.if-sign.false) }

pub returns-then-sign : goal.returns-then-sign
returns-then-sign c =
    negative_word c.args.self.width c.args.self.bits c.bvnot.result.bits c.args.self.narrow c.args.self.some c.args.self.below (sym c.sign.ensures ∙ c.if-sign.true) c.bvnot.ensures.bits

pub returns-else-sign : goal.returns-else-sign
returns-else-sign c =
    positive_word c.args.self.width c.args.self.bits c.args.self.narrow c.args.self.some c.args.self.below (sym c.sign.ensures ∙ c.if-sign.false)
