use Rattle.ite_free.proofs.IteGroups.{ite-makes-groups}
use Rattle.ite_free.proofs.IteMade.{ite-leaves-none}
use Rattle.ite_free.proofs.laws.ite_makes_groups.Goals as goal

pub returns-clause-groups : goal.returns-clause-groups
returns-clause-groups c = ite-makes-groups c.constants_are_new.ensures

pub returns-clause-none : goal.returns-clause-none
returns-clause-none c = ite-leaves-none c.constants_are_new.ensures
