use Rattle.std.proofs.Common.{◌<◌, get_or, arith}
use Rattle.smt_terms.specs.declared.ids.NodeId.{NodeId}
use Rattle.term_table.specs.Formulas.{tree}
use Rattle.simplify.specs.Vectors.{width_of}
use Rattle.simplify.proofs.NodesOfSorts.{vector_extracted, high_below}
use Rattle.simplify.proofs.vectors.extraction.Goals as goal

pub width_of-requires : goal.width_of-requires
width_of-requires c = vector_extracted c.args.table.now c.args.high c.args.low c.args.ids.now c.requires 0 (record { 0 = 0 }) (omega arith)

pub overflow_add-high : goal.overflow_add-high
overflow_add-high c =
    let first : NodeId = record { 0 = 0 } in
    let below : c.args.high < width_of (tree c.args.table.now (get_or c.args.ids.now 0 first)) = high_below c.args.table.now c.args.high c.args.low c.args.ids.now c.requires 0 first (omega arith) in
    omega arith
