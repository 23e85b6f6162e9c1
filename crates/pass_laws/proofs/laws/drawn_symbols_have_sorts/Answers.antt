use Rattle.pass_laws.proofs.DrawnSorts.{drawn-have-sorts}
use Rattle.pass_laws.proofs.laws.drawn_symbols_have_sorts.Goals as goal

pub returns : goal.returns
returns c = drawn-have-sorts c.constants_are_new.ensures c.ite_makes_groups.ensures.groups c.cnf_makes_groups.ensures.groups
