use Rattle.std.proofs.Common.{◌≡◌, ℕ, ◌≤◌, List, length, Ok, subst, arith}
use Rattle.dimacs_link.specs.AnswerTexts.{reading, IsFaultOf}
use Rattle.smtrw_answers.specs.Endings.{longest_text}
use Rattle.smtrw_run.proofs.AnswerTexts.{answer_read, refused_so}
use Rattle.smtrw_run.proofs.linking.answer_in_text.Goals as goal

pub returns-in_err-answer : goal.returns-in_err-answer
returns-in_err-answer c =
    let short : length c.args.bytes.items ≤ longest_text = omega arith in
    let fault = c.in_err-answer.field-0.0 in
    refused_so c.args.constants c.args.bytes.items short fault c.from_residual.result (subst (λ (bytes : List ℕ). IsFaultOf c.args.constants bytes fault) c.as_slice.ensures.value c.in_err-answer.ensures.fault) c.from_residual.ensures.1

pub returns : goal.returns
returns c =
    let short : length c.args.bytes.items ≤ longest_text = omega arith in
    let found = c.in_ok-answer.answer in
    answer_read c.args.constants c.args.bytes.items short found (subst (λ (bytes : List ℕ). reading c.args.constants bytes ≡ Ok found) c.as_slice.ensures.value c.in_ok-answer.ensures.answer) c.in_ok-answer.ensures.values
