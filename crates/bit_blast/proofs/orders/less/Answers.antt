use Rattle.std.proofs.Common.{◌≡◌, false, ap, ◌∙◌}
use Rattle.std.specs.Iterator.Adapters.{zip_first, zip_second}
use Rattle.std.specs.Slice.Iter.{iter_rest}
use Rattle.std.proofs.lemmas.Iterator.{empty_from_Zip}
use Rattle.bit_blast.specs.Blasted.{term_gates}
use Rattle.bit_blast.specs.Circuits.{constant}
use Rattle.bit_blast.proofs.OrderBits.{less-start, less-turn, less-end}
use Rattle.bit_blast.proofs.orders.less.Goals as goal

pub loop-x-init : goal.loop-x-init
loop-x-init c =
    let second : iter_rest (zip_second c.zip-x-items.result) ≡ c.args.b.now = c.zip-x-items.ensures.second.0 in
    less-start c.args.table.now c.truth.new.table c.args.a.now c.args.b.now (iter_rest (zip_first c.into_iter-x-iterator.result)) (iter_rest (zip_second c.into_iter-x-iterator.result)) c.in_ok-lower.lower (constant term_gates false)
    (ap (λ z. iter_rest (zip_first z)) c.into_iter-x-iterator.ensures.into_iter_gives ∙ ap iter_rest c.zip-x-items.ensures.first ∙ c.iter.ensures.rest)
    (ap (λ z. iter_rest (zip_second z)) c.into_iter-x-iterator.ensures.into_iter_gives ∙ second)
    (record { grows = c.truth.ensures.grows; symbols = c.truth.ensures.symbols; sorts = c.truth.ensures.sorts })
    c.requires.a c.requires.b c.requires.same c.in_ok-lower.ensures.formula c.in_ok-lower.ensures.term

pub loop-x-preserved : goal.loop-x-preserved
loop-x-preserved c =
    less-turn c.args.table.now c.loop-x.table c.less_with.new.table c.in-Some.x.now c.in-Some.y.now c.loop-x.lower c.in_ok-lower-2.lower
    (iter_rest (zip_first c.next.new.self)) (iter_rest (zip_second c.next.new.self)) (iter_rest (zip_first c.loop-x.x-iterator)) (iter_rest (zip_second c.loop-x.x-iterator)) _
    c.loop-x.invariant c.in-Some.ensures.steps.0 c.in-Some.ensures.steps.1
    (record { grows = c.less_with.ensures.grows; symbols = c.less_with.ensures.symbols; sorts = c.less_with.ensures.sorts })
    c.in_ok-lower-2.ensures.formula c.in_ok-lower-2.ensures.term

pub returns-clause-term : goal.returns-clause-term
returns-clause-term c =
    less-end c.args.table.now c.loop-x.table (iter_rest (zip_first c.loop-x.x-iterator)) (iter_rest (zip_second c.loop-x.x-iterator)) c.loop-x.lower _ c.loop-x.invariant
    (empty_from_Zip c.loop-x.x-iterator c.next.new.self c.next.result c.in-None.is c.next.ensures.steps c.loop-x.invariant.left.same).0
