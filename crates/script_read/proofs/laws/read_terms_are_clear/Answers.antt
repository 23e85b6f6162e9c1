use Rattle.script_read.proofs.ClearScript.{read_terms_clear}
use Rattle.script_read.proofs.laws.read_terms_are_clear.Goals as goal

pub returns : goal.returns
returns c = read_terms_clear
