use Rattle.pass_laws.proofs.ModelsCarried.{passes_carry}
use Rattle.pass_laws.proofs.laws.passes_carry_models.Goals as goal

pub returns : goal.returns
returns c = passes_carry c.passes_keep_commands.ensures.list c.passes_leave_models.ensures
