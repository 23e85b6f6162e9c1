use Rattle.pass_laws.proofs.ModelsStay.{passes_leave}
use Rattle.pass_laws.proofs.laws.passes_leave_models.Goals as goal

pub returns : goal.returns
returns c = passes_leave
