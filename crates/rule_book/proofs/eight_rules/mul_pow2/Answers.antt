use Rattle.std.specs.Prelude.{codes, Some}
use Rattle.std.proofs.Common.{refl, ap, sym, ◌∙◌}
use Rattle.smt_terms.specs.declared.op.Op.TheVariants.{BvShl}
use Rattle.rule_book.specs.Seen.{cell_seen, answer_seen}
use Rattle.rule_book.specs.EightRules.{or_else, over_constant, power, mul_pow2}
use Rattle.rule_book.proofs.BitRules.{mul_pow2-sound}
use Rattle.rule_book.proofs.RuleAnswers.{answers, of_two, product, mul_pow2-read}
use Rattle.rule_book.proofs.eight_rules.mul_pow2.Goals as goal

pub returns-in_err-a : goal.returns-in_err-a
returns-in_err-a c = λ ss.
    let view = c.args.view.now in
    answers (codes "mul-pow2") mul_pow2 ss view c.from_residual.result mul_pow2-sound refl
    (ap answer_seen c.from_residual.ensures ∙ sym (mul_pow2-read ss view ∙ ap (of_two (product ss)) (sym c.in_err-a.ensures)))

pub returns-in-Some : goal.returns-in-Some
returns-in-Some c = λ ss.
    let view = c.args.view.now in
    let b = c.in_ok-a.b in
    answers (codes "mul-pow2") mul_pow2 ss view (Some c.in-Some.shift) mul_pow2-sound refl
    (sym (mul_pow2-read ss view ∙ ap (of_two (product ss)) (sym c.in_ok-a.ensures)
    ∙ ap (λ r. or_else r (over_constant BvShl (cell_seen ss b) (λ k. k) (power c.in_ok-a.a.op))) (sym (c.in-Some.ensures ss))))

pub returns : goal.returns
returns c = λ ss.
    let view = c.args.view.now in
    let b = c.in_ok-a.b in
    answers (codes "mul-pow2") mul_pow2 ss view c.shifted-2.result mul_pow2-sound refl
    (c.shifted-2.ensures ss ∙ sym (mul_pow2-read ss view ∙ ap (of_two (product ss)) (sym c.in_ok-a.ensures)
    ∙ ap (λ r. or_else r (over_constant BvShl (cell_seen ss b) (λ k. k) (power c.in_ok-a.a.op))) (sym (c.in_default.ensures ss))))
