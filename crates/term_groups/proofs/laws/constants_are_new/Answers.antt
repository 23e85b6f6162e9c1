use Rattle.term_groups.proofs.Draws.{constants-are_new}
use Rattle.term_groups.proofs.laws.constants_are_new.Goals as goal

pub returns : goal.returns
returns c = constants-are_new
