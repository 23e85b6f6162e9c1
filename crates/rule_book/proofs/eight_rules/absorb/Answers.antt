use Rattle.std.specs.Prelude.{map, Some}
use Rattle.std.proofs.Common.{ap, sym, ◌∙◌}
use Rattle.rule_book.specs.Seen.{piece_seen, answer_seen}
use Rattle.rule_book.proofs.RuleAnswers.{of_two, absorption, absorbed-read, first-absorbed, second-absorbed, none-absorbed}
use Rattle.rule_book.proofs.eight_rules.absorb.Goals as goal

pub returns-in_err-a : goal.returns-in_err-a
returns-in_err-a c = λ ss.
    let view = c.args.view.now in
    ap answer_seen c.from_residual.ensures ∙ sym (absorbed-read ss c.args.outer c.args.inner view ∙ ap (of_two (absorption c.args.inner view)) (sym c.in_err-a.ensures))

pub returns-then-has_operand : goal.returns-then-has_operand
returns-then-has_operand c = λ ss.
    let view = c.args.view.now in
    ap (λ ps. Some (map piece_seen ps)) c.template.ensures
    ∙ sym (absorbed-read ss c.args.outer c.args.inner view ∙ ap (of_two (absorption c.args.inner view)) (sym c.in_ok-a.ensures) ∙ first-absorbed c.args.inner view c.in_ok-a.a c.in_ok-a.b (sym c.if-has_operand.ensures))

pub returns-then-has_operand-2 : goal.returns-then-has_operand-2
returns-then-has_operand-2 c = λ ss.
    let view = c.args.view.now in
    ap (λ ps. Some (map piece_seen ps)) c.template-then-has_operand-2.ensures
    ∙ sym (absorbed-read ss c.args.outer c.args.inner view ∙ ap (of_two (absorption c.args.inner view)) (sym c.in_ok-a.ensures) ∙ second-absorbed c.args.inner view c.in_ok-a.a c.in_ok-a.b (sym c.if-has_operand.ensures) (sym c.if-has_operand-2.ensures))

pub returns : goal.returns
returns c = λ ss.
    let view = c.args.view.now in
    sym (absorbed-read ss c.args.outer c.args.inner view ∙ ap (of_two (absorption c.args.inner view)) (sym c.in_ok-a.ensures) ∙ none-absorbed c.args.inner view c.in_ok-a.a c.in_ok-a.b (sym c.if-has_operand.ensures) (sym c.if-has_operand-2.ensures))
