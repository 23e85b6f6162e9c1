use Rattle.simplify.proofs.LogicNodes.{or-formulas}
use Rattle.simplify.proofs.junctions.disjunction.Goals as goal

pub junction-requires : goal.junction-requires
junction-requires c = or-formulas c.args.table.now c.know_table.ensures c.args.ids.now c.requires
