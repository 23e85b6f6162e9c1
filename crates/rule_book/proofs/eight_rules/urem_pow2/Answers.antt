use Rattle.std.specs.Prelude.{codes, ◌-◌, ◌^◌, [], ◌∷◌, Some}
use Rattle.std.proofs.Common.{refl, ap, sym, ◌∙◌}
use Rattle.smt_terms.specs.declared.op.Op.TheVariants.{Bits, BvAnd}
use Rattle.std.proofs.lemmas.Nat.{one_shl}
use Rattle.rule_book.specs.Seen.{cell_seen, answer_seen}
use Rattle.rule_book.specs.Template.{hole, literal, applied}
use Rattle.rule_book.specs.EightRules.{over_constant, urem_pow2}
use Rattle.rule_book.proofs.BitRules.{urem_pow2-sound}
use Rattle.rule_book.proofs.RuleAnswers.{answers, of_two, remainder, urem_pow2-read}
use Rattle.rule_book.proofs.eight_rules.urem_pow2.Goals as goal

pub returns-in_err-x : goal.returns-in_err-x
returns-in_err-x c = λ ss.
    let view = c.args.view.now in
    answers (codes "urem-pow2") urem_pow2 ss view c.from_residual.result urem_pow2-sound refl
    (ap answer_seen c.from_residual.ensures ∙ sym (urem_pow2-read ss view ∙ ap (of_two (remainder ss)) (sym c.in_err-x.ensures)))

pub returns-in_err-power : goal.returns-in_err-power
returns-in_err-power c = λ ss.
    let view = c.args.view.now in
    answers (codes "urem-pow2") urem_pow2 ss view c.from_residual-in_err-power.result urem_pow2-sound refl
    (ap answer_seen c.from_residual-in_err-power.ensures
    ∙ sym (urem_pow2-read ss view ∙ ap (of_two (remainder ss)) (sym c.in_ok-x.ensures) ∙ ap (over_constant BvAnd (cell_seen ss c.in_ok-x.x) (λ k. 2 ^ k - 1)) (sym c.in_err-power.ensures.value)))

pub returns : goal.returns
returns c = λ ss.
    let view = c.args.view.now in
    let power = c.in_ok-power.power in
    let shifted = one_shl power.exponent 128 c.in_ok-power.ensures.bound in
    answers (codes "urem-pow2") urem_pow2 ss view (Some c.over_bits.result) urem_pow2-sound refl
    (ap (λ p. Some p) c.over_bits.ensures ∙ ap (λ n. Some (hole c.in_ok-x.x.hole ∷ literal (Bits power.width (n - 1)) ∷ applied BvAnd 2 ∷ [])) shifted
    ∙ sym (urem_pow2-read ss view ∙ ap (of_two (remainder ss)) (sym c.in_ok-x.ensures) ∙ ap (over_constant BvAnd (cell_seen ss c.in_ok-x.x) (λ k. 2 ^ k - 1)) (sym c.in_ok-power.ensures.value)))
