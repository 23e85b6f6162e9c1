use Rattle.script_read.proofs.LiveSorts.{drawn_usable}
use Rattle.pass_laws.proofs.GroupPasses.{groups-carry-models}
use Rattle.pass_laws.proofs.laws.groups_carry_models.Goals as goal

pub returns : goal.returns
returns c = groups-carry-models drawn_usable c.constants_are_new.ensures c.ite_makes_groups.ensures.groups c.cnf_makes_groups.ensures.groups
