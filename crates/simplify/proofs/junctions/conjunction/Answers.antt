use Rattle.simplify.proofs.LogicNodes.{and-formulas}
use Rattle.simplify.proofs.junctions.conjunction.Goals as goal

pub junction-requires : goal.junction-requires
junction-requires c = and-formulas c.args.table.now c.know_table.ensures c.args.ids.now c.requires
