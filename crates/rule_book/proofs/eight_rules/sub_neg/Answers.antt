use Rattle.std.specs.Prelude.{codes, map, Some, option_and_then}
use Rattle.std.proofs.Common.{refl, ap, sym, ◌∙◌}
use Rattle.rule_book.specs.Seen.{piece_seen, answer_seen}
use Rattle.rule_book.specs.EightRules.{sub_neg}
use Rattle.rule_book.proofs.LogicRules.{sub_neg-sound}
use Rattle.rule_book.proofs.RuleAnswers.{answers, of_two, sum_of, difference, sub_neg-read}
use Rattle.rule_book.proofs.eight_rules.sub_neg.Goals as goal

pub returns-in_err-a : goal.returns-in_err-a
returns-in_err-a c = λ ss.
    let view = c.args.view.now in
    answers (codes "sub-neg") sub_neg ss view c.from_residual.result sub_neg-sound refl
    (ap answer_seen c.from_residual.ensures ∙ sym (sub_neg-read ss view ∙ ap (of_two (difference view)) (sym c.in_err-a.ensures)))

pub returns-in_err-b : goal.returns-in_err-b
returns-in_err-b c = λ ss.
    let view = c.args.view.now in
    answers (codes "sub-neg") sub_neg ss view c.from_residual-in_err-b.result sub_neg-sound refl
    (ap answer_seen c.from_residual-in_err-b.ensures ∙ sym (sub_neg-read ss view ∙ ap (of_two (difference view)) (sym c.in_ok-a.ensures) ∙ ap (option_and_then (sum_of c.in_ok-a.a)) (sym c.in_err-b.ensures)))

pub returns : goal.returns
returns c = λ ss.
    let view = c.args.view.now in
    answers (codes "sub-neg") sub_neg ss view (Some c.template.result) sub_neg-sound refl
    (ap (λ ps. Some (map piece_seen ps)) c.template.ensures ∙ sym (sub_neg-read ss view ∙ ap (of_two (difference view)) (sym c.in_ok-a.ensures) ∙ ap (option_and_then (sum_of c.in_ok-a.a)) (sym c.in_ok-b.ensures)))
