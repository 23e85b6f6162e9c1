use Rattle.std.proofs.Common.{◌-◌, [], ◌∷◌, ◌++◌, map, slice_get, Option, ap, sym, ◌∙◌, subst, arith}
use Rattle.std.proofs.lemmas.List.{map-append}
use Rattle.indexmap.proofs.ReorderLemmas.{map-reverse}
use Rattle.ackermann.specs.declared.uses.LiveUse.{LiveUse}
use Rattle.ackermann.proofs.ReachedUses.{IsOnWay, way-begins, way-goes, way-ends, there-is, fewer-left}
use Rattle.ackermann.proofs.uses.LiveUses.places_of.Goals as goal

pub loop-left-init : goal.loop-left-init
loop-left-init c = way-begins c.args.self.now c.args.function c.reach-left.result (map (slice_get c.args.self.now) c.new-places.result.items) c.reach-left.ensures (ap (map (slice_get c.args.self.now)) c.new-places.ensures.items)

pub loop-left-smaller : goal.loop-left-smaller
loop-left-smaller c =
    let us = c.args.self.now in
    let some = c.loop-left-test.true in
    let within = c.loop-left.invariant.within in
    let there = there-is us (c.loop-left.left - 1) (omega arith) in
    let le = fewer-left us (c.loop-left.left - 1) c.earlier-left.result there.0.function (c.earlier-left.ensures there.0 there.1) in
    omega arith

pub loop-left-preserved : goal.loop-left-preserved
loop-left-preserved c =
    let us = c.args.self.now in
    let some = c.loop-left-test.true in
    let within = c.loop-left.invariant.within in
    let there = there-is us (c.loop-left.left - 1) (omega arith) in
    subst (IsOnWay us c.args.function c.earlier-left.result)
    (sym (ap (map (slice_get us)) c.in_ok-push.ensures.items ∙ map-append (slice_get us) c.loop-left.places.items ((c.loop-left.left - 1) ∷ []) ∙ ap (λ (o : Option LiveUse). map (slice_get us) c.loop-left.places.items ++ o ∷ []) there.1))
    (way-goes us c.args.function c.loop-left.left (c.loop-left.left - 1) c.earlier-left.result there.0 (map (slice_get us) c.loop-left.places.items) (omega arith) there.1 c.loop-left.invariant (c.earlier-left.ensures there.0 there.1))

pub returns : goal.returns
returns c =
    ap (map (slice_get c.args.self.now)) c.reverse.ensures.items
    ∙ map-reverse (slice_get c.args.self.now) c.loop-left.places.items
    ∙ way-ends c.args.self.now c.args.function c.loop-left.left (map (slice_get c.args.self.now) c.loop-left.places.items) (let past = c.loop-left-test.false in omega arith) c.loop-left.invariant
