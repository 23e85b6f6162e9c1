use Rattle.pass_laws.proofs.PoppedLevels.{levels-are-open}
use Rattle.pass_laws.proofs.laws.levels_are_open.Goals as goal

pub returns : goal.returns
returns c = levels-are-open
