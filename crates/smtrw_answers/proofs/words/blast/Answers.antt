use Rattle.std.proofs.lemmas.Result.{err_from_is_err_and}
use Rattle.smtrw_answers.proofs.CheckedWords.{memory_wanting, blasted}
use Rattle.smtrw_answers.proofs.words.blast.Goals as goal

pub returns-in_err-checked : goal.returns-in_err-checked
returns-in_err-checked c =
    let p = err_from_is_err_and c.from_residual.result c.from_residual.ensures.1 in
    rw (p.1, p.2) (memory_wanting _ c.in_err-checked.field-0.0 c.in_err-checked.ensures)

pub returns : goal.returns
returns c = blasted _ c.in_ok-checked.checked c.args.script c.requires c.in_ok-checked.ensures
