use Rattle.bit_scripts.proofs.BlastedScripts.{scripts_blasted}
use Rattle.bit_scripts.proofs.laws.scripts_are_blasted.Goals as goal

pub returns : goal.returns
returns c =
    let laws = c.blasted_formulas_keep_values.ensures in
    scripts_blasted laws.values laws.formulas laws.lifted laws.lowered
