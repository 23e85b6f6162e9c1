use Rattle.std.proofs.Common.{◌≡◌, [], length, refl, ap, sym, subst, arith}
use Rattle.term_table.specs.Formulas.{trees_at}
use Rattle.rule_book.specs.Placed.{placed, AreAt}
use Rattle.rule_book.proofs.PlacedNodes.{none-placed, below-step, below-end}
use Rattle.rule_book.proofs.viewing.places_over.Goals as goal

pub loop-k-init : goal.loop-k-init
loop-k-init c =
    let t = c.args.table.now in
    let empty = c.new-places.ensures in
    let none_yet : length c.new-places.result.items ≡ 0 = ap length empty in
    let more = c.place_all.ensures.number in
    record {
      places = (placed 0 (trees_at t c.args.kids.now), c.place_all.ensures.places [] (subst (λ ps. AreAt t [] ps) (sym empty) (none-placed t)), refl);
      number = omega arith;
    }

pub loop-k-preserved : goal.loop-k-preserved
loop-k-preserved c =
    let t = c.args.table.now in
    let inv = c.loop-k.invariant in
    let us = inv.places.0 in
    let more = c.place_below.ensures.number in
    record {
      places = below-step t c.args.kids.now c.loop-k.k _ us c.place_below.new.places.items c.loop-k-test.true (c.place_below.ensures.places us inv.places.1) inv.places.2;
      number = omega arith;
    }

pub returns : goal.returns
returns c =
    let inv = c.loop-k.invariant in
    below-end c.args.table.now c.args.kids.now c.loop-k.k inv.places.0 c.loop-k.places.items c.loop-k-test.false inv.places.1 inv.places.2
