use Rattle.term_subst.proofs.Gaining.{gains-none, gains-both}
use Rattle.term_groups.proofs.NodesDrawn.{drawn-none, drawn-more}
use Rattle.term_groups.proofs.constants.draw_constants.Goals as goal

pub loop-id-init : goal.loop-id-init
loop-id-init c = record {
  gains = gains-none c.args.table.now c.args.fresh.now;
  drawn = drawn-none c.args.table.now c.args.ids.now c.new-symbols.result c.new-nodes.result c.args.fresh.now c.new-symbols.ensures c.new-nodes.ensures;
}

pub loop-id-preserved : goal.loop-id-preserved
loop-id-preserved c = record {
  gains = gains-both c.args.table.now c.loop-id.table c.draw_constant.new.table c.args.fresh.now c.loop-id.fresh c.draw_constant.new.fresh c.loop-id.invariant.gains c.in_ok-constant.ensures.gains;
  drawn =
      drawn-more c.args.table.now c.loop-id.table c.draw_constant.new.table c.args.ids.now c.loop-id.id-index (record { 0 = 0 }) c.in_ok-constant.constant.symbol c.in_ok-constant.constant.node
      c.loop-id.symbols c.push.new.self c.loop-id.nodes c.push-in-loop-id.new.self c.args.fresh.now c.loop-id.fresh c.draw_constant.new.fresh
      c.loop-id.invariant.gains.grows c.in_ok-constant.ensures.gains.grows c.requires c.loop-id-test.true c.loop-id.invariant.drawn c.in_ok-constant.ensures.drawn
      c.in_ok-push.ensures.ok c.in_ok-push-2.ensures.ok;
}
