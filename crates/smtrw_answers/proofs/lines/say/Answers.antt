use Rattle.smtrw_answers.proofs.ErrorLines.{sent_prefix, got_line}
use Rattle.smtrw_answers.proofs.lines.say.Goals as goal

pub returns-clause-prefix : goal.returns-clause-prefix
returns-clause-prefix g c =
    got_line _ _ c.as_bytes.result.now c.args.line.now c.as_bytes.ensures.value
    (sent_prefix c.send_all.result _ _ c.as_bytes.result.now c.send_all.ensures.ok c.send_all.ensures.prefix)
