use Rattle.script_read.proofs.LiveSorts.{drawn_usable}
use Rattle.pass_laws.proofs.RemovalPasses.{removals-carry-models}
use Rattle.pass_laws.proofs.laws.removals_carry_models.Goals as goal

pub returns : goal.returns
returns c = removals-carry-models drawn_usable c.constants_are_new.ensures c.removals_keep_models.ensures.tables c.removals_keep_models.ensures.fit c.removals_keep_models.ensures.values c.removals_keep_models.ensures.made
