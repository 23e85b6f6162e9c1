use Rattle.std.proofs.Common.{◌+◌, ◌++◌, take, sym, subst, arith}
use Rattle.smt_terms.specs.declared.ids.NodeId.{NodeId}
use Rattle.term_table.specs.Formulas.{trees_at}
use Rattle.rule_book.specs.Placed.{placed, AreAt}
use Rattle.rule_book.proofs.PlacedNodes.{place-step}
use Rattle.rule_book.proofs.viewing.place_all.Goals as goal

pub loop-id-preserved : goal.loop-id-preserved
loop-id-preserved c =
    let t = c.args.table.now in
    let i = c.loop-id.id-index in
    let inv = c.loop-id.invariant in
    let d : NodeId = record { 0 = 0 } in
    let len = c.push.ensures.len in
    record {
      places = λ us at. subst (AreAt t (us ++ placed c.args.up (trees_at t (take (i + 1) c.args.kids.now)))) (sym c.push.ensures.items) (place-step t c.args.up c.args.kids.now i d c.shown_at.result us c.loop-id.places.items c.loop-id-test.true (c.requires.nodes i d c.loop-id-test.true) c.shown_at.ensures (inv.places us at));
      number = omega arith;
    }
