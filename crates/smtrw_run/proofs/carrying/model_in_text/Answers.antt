use Rattle.std.proofs.Common.{sym, subst, ℕ, ◌≤◌, List, length, Some, Ok, arith}
use Rattle.models.specs.LiveNumbers.{signature_of}
use Rattle.smtrw_answers.specs.Endings.{longest_text}
use Rattle.smtrw_run.specs.Carrying.{EndsAtModel, ReadsText}
use Rattle.smtrw_run.proofs.ModelTexts.{lexing_refused, refused_so, text_read}
use Rattle.smtrw_run.proofs.carrying.model_in_text.Goals as goal

pub returns-in-Err : goal.returns-in-Err
returns-in-Err c =
    let sig = signature_of c.args.table.now c.args.signature.now in
    let short : length c.args.bytes.items ≤ longest_text = omega arith in
    subst (EndsAtModel sig (Some c.args.bytes.items)) (sym c.model_unread.ensures) (lexing_refused c.args.bytes.items short sig c.in-Err.fault c.in-Err.ensures.fault)

pub returns-in_err-read_model-in-Ok : goal.returns-in_err-read_model-in-Ok
returns-in_err-read_model-in-Ok c =
    let t = c.args.table.now in
    let sig = signature_of t c.args.signature.now in
    let bytes = c.in-Ok.ensures.bytes in
    let short : length c.in-Ok.forest.bytes ≤ longest_text = subst (λ (x : List ℕ). length x ≤ longest_text) (sym bytes) (omega arith) in
    subst (λ (x : List ℕ). ReadsText t sig (Some x) c.from_residual.result) bytes
    (refused_so c.in-Ok.forest.bytes short sig t c.in_err-read_model-in-Ok.field-0.0 c.from_residual.result c.in_err-read_model-in-Ok.ensures c.from_residual.ensures.1)

pub returns-in_ok-read_model-in-Ok : goal.returns-in_ok-read_model-in-Ok
returns-in_ok-read_model-in-Ok c =
    let t = c.args.table.now in
    let sig = signature_of t c.args.signature.now in
    let bytes = c.in-Ok.ensures.bytes in
    let short : length c.in-Ok.forest.bytes ≤ longest_text = subst (λ (x : List ℕ). length x ≤ longest_text) (sym bytes) (omega arith) in
    subst (λ (x : List ℕ). ReadsText t sig (Some x) (Ok c.in_ok-read_model-in-Ok.field-0)) bytes
    (text_read c.in-Ok.forest.bytes short sig t c.in_ok-read_model-in-Ok.field-0 c.in_ok-read_model-in-Ok.ensures)
