use Rattle.script_read.proofs.Bindings.{read_leads}
use Rattle.script_read.proofs.laws.reading_binds_names.Goals as goal

pub returns : goal.returns
returns c = read_leads
