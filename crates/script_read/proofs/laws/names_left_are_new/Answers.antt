use Rattle.script_read.proofs.SparedScript.{names_left_new}
use Rattle.script_read.proofs.laws.names_left_are_new.Goals as goal

pub returns : goal.returns
returns c = names_left_new
