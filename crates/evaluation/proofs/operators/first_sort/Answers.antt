use Rattle.std.proofs.Common.{arith}
use Rattle.smt_terms.specs.declared.ids.NodeId.{NodeId}
use Rattle.evaluation.proofs.AppliedNodes.{first-there, first-sort}
use Rattle.term_table.specs.Formulas.{tree}
use Rattle.smt_values.specs.SortIds.{sort_at}
use Rattle.evaluation.proofs.operators.first_sort.Goals as goal

pub bounds-kids-0 : goal.bounds-kids-0
bounds-kids-0 c =
    let some = first-there c.args.table.now c.kids.result.now (tree c.args.table.now c.args.id) c.kids.ensures.terms c.requires.there in
    omega arith

pub returns-clause-sort : goal.returns-clause-sort
returns-clause-sort c =
    let none_yet : NodeId = record { 0 = 0 } in
    first-sort c.args.table.now c.kids.result.now (tree c.args.table.now c.args.id) c.kids.ensures.terms c.requires.there none_yet (sort_at c.args.table.now.sorts c.sort_of.result) c.sort_of.ensures.sort
