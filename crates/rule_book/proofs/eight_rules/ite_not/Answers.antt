use Rattle.std.specs.Prelude.{codes, map, Some, option_and_then}
use Rattle.std.proofs.Common.{refl, ap, sym, ◌∙◌}
use Rattle.rule_book.specs.Seen.{piece_seen, answer_seen}
use Rattle.rule_book.specs.EightRules.{ite_not}
use Rattle.rule_book.proofs.LogicRules.{ite_not-sound}
use Rattle.rule_book.proofs.RuleAnswers.{answers, of_three, choice_by, choice, ite_not-read}
use Rattle.rule_book.proofs.eight_rules.ite_not.Goals as goal

pub returns-in_err-negated : goal.returns-in_err-negated
returns-in_err-negated c = λ ss.
    let view = c.args.view.now in
    answers (codes "ite-not") ite_not ss view c.from_residual.result ite_not-sound refl
    (ap answer_seen c.from_residual.ensures ∙ sym (ite_not-read ss view ∙ ap (of_three (choice view)) (sym c.in_err-negated.ensures)))

pub returns-in_err-condition : goal.returns-in_err-condition
returns-in_err-condition c = λ ss.
    let view = c.args.view.now in
    answers (codes "ite-not") ite_not ss view c.from_residual-in_err-condition.result ite_not-sound refl
    (ap answer_seen c.from_residual-in_err-condition.ensures
    ∙ sym (ite_not-read ss view ∙ ap (of_three (choice view)) (sym c.in_ok-negated.ensures) ∙ ap (option_and_then (choice_by c.in_ok-negated.a c.in_ok-negated.b)) (sym c.in_err-condition.ensures)))

pub returns : goal.returns
returns c = λ ss.
    let view = c.args.view.now in
    answers (codes "ite-not") ite_not ss view (Some c.template.result) ite_not-sound refl
    (ap (λ ps. Some (map piece_seen ps)) c.template.ensures
    ∙ sym (ite_not-read ss view ∙ ap (of_three (choice view)) (sym c.in_ok-negated.ensures) ∙ ap (option_and_then (choice_by c.in_ok-negated.a c.in_ok-negated.b)) (sym c.in_ok-condition.ensures)))
