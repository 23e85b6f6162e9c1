use Rattle.std.proofs.Common.{arith}
use Rattle.smt_terms.specs.declared.ids.NodeId.{NodeId}
use Rattle.term_table.specs.Formulas.{tree}
use Rattle.array_forms.proofs.OverWrites.{store-kids, never-stored}
use Rattle.array_forms.proofs.reading.last_write.Goals as goal

pub bounds-kids-0 : goal.bounds-kids-0
bounds-kids-0 c =
    let s = store-kids c.args.table.now c.args.array c.kids-kids.result.now c.op.ensures.table c.requires c.in-Store.ensures.term c.kids-kids.ensures.terms c.kids-kids.ensures.below in
    let n = s.number in
    omega arith

pub bounds-kids-1 : goal.bounds-kids-1
bounds-kids-1 c =
    let s = store-kids c.args.table.now c.args.array c.kids-kids.result.now c.op.ensures.table c.requires c.in-Store.ensures.term c.kids-kids.ensures.terms c.kids-kids.ensures.below in
    let n = s.number in
    omega arith

pub bounds-kids-2 : goal.bounds-kids-2
bounds-kids-2 c =
    let s = store-kids c.args.table.now c.args.array c.kids-kids.result.now c.op.ensures.table c.requires c.in-Store.ensures.term c.kids-kids.ensures.terms c.kids-kids.ensures.below in
    let n = s.number in
    omega arith

pub returns-in-Store : goal.returns-in-Store
returns-in-Store c =
    let s = store-kids c.args.table.now c.args.array c.kids-kids.result.now c.op.ensures.table c.requires c.in-Store.ensures.term c.kids-kids.ensures.terms c.kids-kids.ensures.below in
    let n = s.number in
    let none_yet : NodeId = record { 0 = 0 } in
    record {
      before = s.nodes 0 none_yet (omega arith);
      index = s.nodes 1 none_yet (omega arith);
      value = s.nodes 2 none_yet (omega arith);
      earlier = c.kids-kids.ensures.below 0 none_yet (omega arith);
      term = s.term none_yet;
    }

pub returns-in_default : goal.returns-in_default
returns-in_default c = never-stored c.args.table.now c.op.result (tree c.args.table.now c.args.array) c.op.ensures.term c.in_default.not-Store
