use Rattle.std.proofs.lemmas.Result.{err_from_is_err_and}
use Rattle.smtrw_answers.proofs.CarriedWords.{memory_wanting, answered}
use Rattle.smtrw_answers.proofs.words.answer.Goals as goal

pub returns-in_err-carried : goal.returns-in_err-carried
returns-in_err-carried c =
    let p = err_from_is_err_and c.from_residual.result c.from_residual.ensures.1 in
    rw (p.1, p.2) (memory_wanting _ c.in_err-carried.field-0.0 c.in_err-carried.ensures)

pub returns : goal.returns
returns c = answered _ c.in_ok-carried.carried c.args.script c.args.answer c.requires c.in_ok-carried.ensures
