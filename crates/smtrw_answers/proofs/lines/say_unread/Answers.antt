use Rattle.smtrw_answers.proofs.ErrorLines.{got_prefix}
use Rattle.smtrw_answers.proofs.lines.say_unread.Goals as goal

pub returns-clause-prefix : goal.returns-clause-prefix
returns-clause-prefix g c = got_prefix c.send_unread.result _ _ _ c.send_unread.ensures.ok c.send_unread.ensures.prefix
