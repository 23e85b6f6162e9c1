use Rattle.script_read.proofs.BuiltValues.{written_meaning}
use Rattle.script_read.proofs.laws.written_operators_keep_meaning.Goals as goal

pub returns : goal.returns
returns c = written_meaning
