use Rattle.term_table.specs.Formulas.{tree}
use Rattle.simplify.proofs.ArraySteps.{reads-filled, selection-opaque}
use Rattle.simplify.proofs.arrays.read.Goals as goal

pub returns-in-Filled : goal.returns-in-Filled
returns-in-Filled c = reads-filled c.args.table.now c.args.array c.in-Filled.value c.in-Filled.ensures (tree c.args.table.now c.args.index)

pub returns-in-Opaque : goal.returns-in-Opaque
returns-in-Opaque c = selection-opaque (tree c.args.table.now c.args.array) (tree c.args.table.now c.args.index) c.in-Opaque.ensures
