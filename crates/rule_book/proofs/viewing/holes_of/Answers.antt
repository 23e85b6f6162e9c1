use Rattle.std.proofs.Common.{arith}
use Rattle.rule_book.proofs.HolesInOrder.{holes-step}
use Rattle.rule_book.proofs.viewing.holes_of.Goals as goal

pub loop-place-preserved : goal.loop-place-preserved
loop-place-preserved c =
    let inv = c.loop-place.invariant in
    let put = c.put_hole.ensures in
    record {
      nodes = put.nodes;
      terms = holes-step c.args.table.now c.args.places.now c.loop-place.place-index _ c.loop-place.holes.items c.put_hole.new.holes.items c.loop-place-test.true inv.terms put.terms;
      number = omega arith;
    }
