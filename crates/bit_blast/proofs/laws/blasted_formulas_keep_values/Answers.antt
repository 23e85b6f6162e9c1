use Rattle.bit_blast.proofs.FlagFormulas.{gives_flag_formulas}
use Rattle.bit_blast.proofs.KeptValues.{keeps_values}
use Rattle.bit_blast.proofs.LiftedModels.{lifts}
use Rattle.bit_blast.proofs.LoweredModels.{lowers}
use Rattle.bit_blast.proofs.laws.blasted_formulas_keep_values.Goals as goal

pub returns-clause-values : goal.returns-clause-values
returns-clause-values c = keeps_values

pub returns-clause-formulas : goal.returns-clause-formulas
returns-clause-formulas c = gives_flag_formulas

pub returns-clause-lifted : goal.returns-clause-lifted
returns-clause-lifted c = lifts

pub returns-clause-lowered : goal.returns-clause-lowered
returns-clause-lowered c = lowers
