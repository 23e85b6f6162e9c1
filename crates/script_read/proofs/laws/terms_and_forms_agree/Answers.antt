use Rattle.script_read.proofs.Agreement.{same_commands}
use Rattle.script_read.proofs.Points.{points_agree}
use Rattle.script_read.proofs.laws.terms_and_forms_agree.Goals as goal

pub returns-clause-commands : goal.returns-clause-commands
returns-clause-commands c = same_commands

pub returns-clause-points : goal.returns-clause-points
returns-clause-points c = points_agree
