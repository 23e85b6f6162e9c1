use Rattle.std.proofs.Common.{[], length, sym}
use Rattle.dimacs_link.specs.AnswerTexts.{reading, items, checked}
use Rattle.dimacs_link.proofs.Answered.{as_many}
use Rattle.dimacs_link.proofs.answers.read_answer.Goals as goal

pub returns-in-Ok-clause-answer : goal.returns-in-Ok-clause-answer
unfolding reading
returns-in-Ok-clause-answer c = sym (c.in-Ok.ensures.answer c.args.constants c.in_ok-progress.ensures)

pub returns-in-Err-clause-fault : goal.returns-in-Err-clause-fault
unfolding reading
returns-in-Err-clause-fault c = (sym (c.in-Err.ensures.answer c.args.constants c.in_ok-progress.ensures), c.line_of.ensures)

pub returns-in-Ok-clause-values : goal.returns-in-Ok-clause-values
returns-in-Ok-clause-values c =
    let text = c.args.bytes.now in
    as_many c.args.constants (length text) (checked [] (items c.args.constants text)) c.in-Ok.answer (sym (c.in-Ok.ensures.answer c.args.constants c.in_ok-progress.ensures))
