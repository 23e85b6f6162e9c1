use Rattle.std.proofs.Common.{map}
use Rattle.std.specs.Prelude.{string_bytes}
use Rattle.smtrw_answers.specs.Asked.{asked_seen}
use Rattle.smtrw_answers.specs.Words.{asked}
use Rattle.smtrw_run.proofs.Unbegun.{memory_wanting, words_asked}
use Rattle.smtrw_run.proofs.standard.unbegun.Goals as goal

pub returns-in-Ok : goal.returns-in-Ok
returns-in-Ok c = words_asked (asked (map string_bytes c.args.words.now)) (asked_seen c.in-Ok.field-0) c.in-Ok.ensures

pub returns-in-Err-Memory : goal.returns-in-Err-Memory
returns-in-Err-Memory c = memory_wanting (asked (map string_bytes c.args.words.now)) c.in-Err-Memory.field-0 c.in-Err-Memory.field-0-is c.in-Err-Memory.ensures
