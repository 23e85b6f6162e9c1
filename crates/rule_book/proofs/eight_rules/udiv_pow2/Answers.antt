use Rattle.std.specs.Prelude.{codes}
use Rattle.std.proofs.Common.{refl, ap, sym, ◌∙◌}
use Rattle.rule_book.specs.Seen.{answer_seen}
use Rattle.rule_book.specs.EightRules.{udiv_pow2}
use Rattle.rule_book.proofs.BitRules.{udiv_pow2-sound}
use Rattle.rule_book.proofs.RuleAnswers.{answers, of_two, quotient, udiv_pow2-read}
use Rattle.rule_book.proofs.eight_rules.udiv_pow2.Goals as goal

pub returns-in_err-x : goal.returns-in_err-x
returns-in_err-x c = λ ss.
    let view = c.args.view.now in
    answers (codes "udiv-pow2") udiv_pow2 ss view c.from_residual.result udiv_pow2-sound refl
    (ap answer_seen c.from_residual.ensures ∙ sym (udiv_pow2-read ss view ∙ ap (of_two (quotient ss)) (sym c.in_err-x.ensures)))

pub returns : goal.returns
returns c = λ ss.
    let view = c.args.view.now in
    answers (codes "udiv-pow2") udiv_pow2 ss view c.shifted.result udiv_pow2-sound refl
    (c.shifted.ensures ss ∙ sym (udiv_pow2-read ss view ∙ ap (of_two (quotient ss)) (sym c.in_ok-x.ensures)))
