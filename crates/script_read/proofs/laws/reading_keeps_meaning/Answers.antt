use Rattle.script_read.proofs.Meanings.{keeps_meaning, keeps_meaning_everywhere}
use Rattle.script_read.proofs.laws.reading_keeps_meaning.Goals as goal

pub returns-clause-points : goal.returns-clause-points
returns-clause-points c = keeps_meaning

pub returns-clause-everywhere : goal.returns-clause-everywhere
returns-clause-everywhere c = keeps_meaning_everywhere
