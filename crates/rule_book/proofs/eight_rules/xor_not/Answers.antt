use Rattle.std.specs.Prelude.{codes, map, Some, option_and_then}
use Rattle.std.proofs.Common.{refl, ap, sym, ◌∙◌}
use Rattle.smt_terms.specs.declared.op.Op.TheVariants.{Not}
use Rattle.rule_book.specs.Seen.{piece_seen, answer_seen}
use Rattle.rule_book.specs.EightRules.{xor_not}
use Rattle.rule_book.specs.Operands.{only_below}
use Rattle.rule_book.proofs.LogicRules.{xor_not-sound}
use Rattle.rule_book.proofs.RuleAnswers.{answers, of_two, exclusive_of, exclusive, xor_not-read}
use Rattle.rule_book.proofs.eight_rules.xor_not.Goals as goal

pub returns-in_err-first : goal.returns-in_err-first
returns-in_err-first c = λ ss.
    let view = c.args.view.now in
    answers (codes "xor-not") xor_not ss view c.from_residual.result xor_not-sound refl
    (ap answer_seen c.from_residual.ensures ∙ sym (xor_not-read ss view ∙ ap (of_two (exclusive view)) (sym c.in_err-first.ensures)))

pub returns-in_err-p : goal.returns-in_err-p
returns-in_err-p c = λ ss.
    let view = c.args.view.now in
    let second = only_below Not c.in_ok-first.second.op 2 view.cells in
    answers (codes "xor-not") xor_not ss view c.from_residual-in_err-p.result xor_not-sound refl
    (ap answer_seen c.from_residual-in_err-p.ensures
    ∙ sym (xor_not-read ss view ∙ ap (of_two (exclusive view)) (sym c.in_ok-first.ensures) ∙ ap (option_and_then (λ p. option_and_then (exclusive_of p) second)) (sym c.in_err-p.ensures)))

pub returns-in_err-q : goal.returns-in_err-q
returns-in_err-q c = λ ss.
    let view = c.args.view.now in
    let second = only_below Not c.in_ok-first.second.op 2 view.cells in
    answers (codes "xor-not") xor_not ss view c.from_residual-in_err-q.result xor_not-sound refl
    (ap answer_seen c.from_residual-in_err-q.ensures
    ∙ sym (xor_not-read ss view ∙ ap (of_two (exclusive view)) (sym c.in_ok-first.ensures) ∙ ap (option_and_then (λ p. option_and_then (exclusive_of p) second)) (sym c.in_ok-p.ensures)
    ∙ ap (option_and_then (exclusive_of c.in_ok-p.p)) (sym c.in_err-q.ensures)))

pub returns : goal.returns
returns c = λ ss.
    let view = c.args.view.now in
    let second = only_below Not c.in_ok-first.second.op 2 view.cells in
    answers (codes "xor-not") xor_not ss view (Some c.template.result) xor_not-sound refl
    (ap (λ ps. Some (map piece_seen ps)) c.template.ensures
    ∙ sym (xor_not-read ss view ∙ ap (of_two (exclusive view)) (sym c.in_ok-first.ensures) ∙ ap (option_and_then (λ p. option_and_then (exclusive_of p) second)) (sym c.in_ok-p.ensures)
    ∙ ap (option_and_then (exclusive_of c.in_ok-p.p)) (sym c.in_ok-q.ensures)))
