use Rattle.term_subst.specs.State.{Gains}
use Rattle.term_groups.proofs.NodesDrawn.{AreDrawnFor}
use Rattle.term_groups.proofs.constants.draw_constants.Given as goal

abbrev pub invariant-loop-id : goal.invariant-loop-id
invariant-loop-id l = record {
  gains : Gains l.fn.table l.table l.fn.fresh l.fresh;
  drawn : AreDrawnFor l.fn.table l.table l.ids l.id-index l.symbols l.nodes l.fn.fresh l.fresh;
}
