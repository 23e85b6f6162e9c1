use Rattle.pass_laws.proofs.StepsTell.{steps-tell-models}
use Rattle.pass_laws.proofs.laws.steps_tell_models.Goals as goal

pub returns : goal.returns
returns c = steps-tell-models c.constants_are_new.ensures c.ite_makes_groups.ensures.groups c.cnf_makes_groups.ensures.groups
