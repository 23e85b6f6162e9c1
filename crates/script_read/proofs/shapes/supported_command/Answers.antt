use Rattle.script_read.specs.Outlines.{supported}
use Rattle.script_read.proofs.shapes.supported_command.Goals as goal

pub returns : goal.returns
unfolding supported
returns c = c.command_among.ensures
