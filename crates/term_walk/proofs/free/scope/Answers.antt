use Rattle.std.proofs.Common.{◌≡◌, ◌+◌, ◌∷◌, ◌++◌, [], ◌-◌, take, length, reverse, ap, ◌∙◌, arith, length-append}
use Rattle.smt_terms.specs.Free.{free}
use Rattle.term_table.specs.Formulas.{tree, IsNode}
use Rattle.term_walk.specs.FreeLists.{IsReached}
use Rattle.term_walk.proofs.FreeScan.{begun-from, none-left, popped, known-applied, first-waits, first-reached}
use Rattle.term_walk.proofs.free.scope.Goals as goal

pub loop-id-init : goal.loop-id-init
loop-id-init c = record {
  lists = λ ms n have reached. begun-from c.args.table.now (IsReached ms n) c.args.root c.push.new.self.items c.new-met.result.keys c.new-listed.result.keys c.requires.node reached (c.in_ok-push.ensures.items ∙ ap (λ ws. ws ++ c.args.root ∷ []) c.new-waiting.ensures.items) c.new-met.ensures.empty c.new-listed.ensures.empty;
}

pub take_off-requires-clause-node : goal.take_off-requires-clause-node
take_off-requires-clause-node c = first-waits c.args.table.now (IsReached c.requires.lists.0 c.requires.lists.1) (free (tree c.args.table.now c.args.root)) c.in-Some.id (reverse c.pop.new.self.items) c.loop-id.met.keys c.loop-id.listed.keys (popped c.args.table.now (IsReached c.requires.lists.0 c.requires.lists.1) (free (tree c.args.table.now c.args.root)) c.in-Some.id c.loop-id.waiting.items c.pop.new.self.items c.loop-id.met.keys c.loop-id.listed.keys (c.loop-id.invariant.lists c.requires.lists.0 c.requires.lists.1 c.requires.lists.2 c.requires.lists.3) c.in-Some.ensures.items)

pub take_off-requires-clause-lists : goal.take_off-requires-clause-lists
take_off-requires-clause-lists c = c.requires.lists.2.each c.in-Some.id

pub take_off-requires-clause-applied : goal.take_off-requires-clause-applied
take_off-requires-clause-applied c = known-applied c.args.table.now c.args.lists.now c.requires.lists.0 c.requires.lists.1 c.in-Some.id c.requires.lists.2 (first-reached c.args.table.now (IsReached c.requires.lists.0 c.requires.lists.1) (free (tree c.args.table.now c.args.root)) c.in-Some.id (reverse c.pop.new.self.items) c.loop-id.met.keys c.loop-id.listed.keys (popped c.args.table.now (IsReached c.requires.lists.0 c.requires.lists.1) (free (tree c.args.table.now c.args.root)) c.in-Some.id c.loop-id.waiting.items c.pop.new.self.items c.loop-id.met.keys c.loop-id.listed.keys (c.loop-id.invariant.lists c.requires.lists.0 c.requires.lists.1 c.requires.lists.2 c.requires.lists.3) c.in-Some.ensures.items))

pub take_off-requires-clause-listed : goal.take_off-requires-clause-listed
take_off-requires-clause-listed c = (popped c.args.table.now (IsReached c.requires.lists.0 c.requires.lists.1) (free (tree c.args.table.now c.args.root)) c.in-Some.id c.loop-id.waiting.items c.pop.new.self.items c.loop-id.met.keys c.loop-id.listed.keys (c.loop-id.invariant.lists c.requires.lists.0 c.requires.lists.1 c.requires.lists.2 c.requires.lists.3) c.in-Some.ensures.items).symbols

pub loop-id-smaller : goal.loop-id-smaller
loop-id-smaller c =
    let node : IsNode c.args.table.now c.in-Some.id = first-waits c.args.table.now (IsReached c.requires.lists.0 c.requires.lists.1) (free (tree c.args.table.now c.args.root)) c.in-Some.id (reverse c.pop.new.self.items) c.loop-id.met.keys c.loop-id.listed.keys (popped c.args.table.now (IsReached c.requires.lists.0 c.requires.lists.1) (free (tree c.args.table.now c.args.root)) c.in-Some.id c.loop-id.waiting.items c.pop.new.self.items c.loop-id.met.keys c.loop-id.listed.keys (c.loop-id.invariant.lists c.requires.lists.0 c.requires.lists.1 c.requires.lists.2 c.requires.lists.3) c.in-Some.ensures.items) in
    let near = c.in_ok-take_off.ensures.nearer (length c.args.table.now.trees) node in
    let long : length c.loop-id.waiting.items ≡ length c.pop.new.self.items + 1 = ap length c.in-Some.ensures.items ∙ length-append c.pop.new.self.items (c.in-Some.id ∷ []) in
    omega (arith, near, long)

pub loop-id-preserved : goal.loop-id-preserved
loop-id-preserved c = record {
  lists = λ ms n have reached. c.in_ok-take_off.ensures.leads ms n (free (tree c.args.table.now c.args.root)) have
      (popped c.args.table.now (IsReached ms n) (free (tree c.args.table.now c.args.root)) c.in-Some.id c.loop-id.waiting.items c.pop.new.self.items c.loop-id.met.keys c.loop-id.listed.keys (c.loop-id.invariant.lists ms n have reached) c.in-Some.ensures.items);
}

pub returns : goal.returns
returns c =
    let left : c.pop.new.self.items ≡ [] = c.in_default.ensures.rest ∙ ap (λ n. take (n - 1) c.loop-id.waiting.items) c.in_default.ensures.cases.0 in
    let empty : c.loop-id.waiting.items ≡ [] = c.in_default.ensures.items ∙ ap (λ ws. ws ++ []) left in
    let lists = c.loop-id.invariant.lists c.requires.lists.0 c.requires.lists.1 c.requires.lists.2 c.requires.lists.3 in
    none-left c.args.table.now (IsReached c.requires.lists.0 c.requires.lists.1) (tree c.args.table.now c.args.root) c.loop-id.waiting.items c.loop-id.met.keys c.loop-id.listed.keys lists (ap length empty)
