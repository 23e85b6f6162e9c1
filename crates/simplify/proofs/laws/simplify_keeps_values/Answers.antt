use Rattle.simplify.proofs.SimplifyKeeps.{simplify_keeps}
use Rattle.simplify.proofs.laws.simplify_keeps_values.Goals as goal

pub returns : goal.returns
returns c = simplify_keeps
