use Rattle.pass_laws.proofs.RemovalLaws.{removals-tell-models}
use Rattle.pass_laws.proofs.laws.removals_tell_models.Goals as goal

pub returns : goal.returns
returns c = removals-tell-models c.constants_are_new.ensures c.removals_keep_models.ensures.made
