use Rattle.ackermann.proofs.GivenValues.{values-are-models}
use Rattle.ackermann.proofs.MadeRemovals.{removals-made}
use Rattle.ackermann.proofs.TabledModels.{tables-are-models}
use Rattle.ackermann.proofs.TablesValid.{tables-fit}
use Rattle.ackermann.proofs.laws.removals_keep_models.Goals as goal

pub returns-clause-tables : goal.returns-clause-tables
returns-clause-tables c = tables-are-models c.constants_are_new.ensures

pub returns-clause-fit : goal.returns-clause-fit
returns-clause-fit c = tables-fit c.constants_are_new.ensures

pub returns-clause-values : goal.returns-clause-values
returns-clause-values c = values-are-models c.constants_are_new.ensures

pub returns-clause-made : goal.returns-clause-made
returns-clause-made c = removals-made c.constants_are_new.ensures
