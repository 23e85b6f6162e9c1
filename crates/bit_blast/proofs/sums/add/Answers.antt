use Rattle.std.proofs.Common.{◌≡◌, ap, ◌∙◌}
use Rattle.std.specs.Iterator.Adapters.{zip_first, zip_second}
use Rattle.std.specs.Slice.Iter.{iter_rest}
use Rattle.std.proofs.lemmas.Iterator.{empty_from_Zip}
use Rattle.bit_blast.proofs.BitLists.{sum-start, sum-turn, sum-end}
use Rattle.bit_blast.proofs.sums.add.Goals as goal

pub loop-x-init : goal.loop-x-init
loop-x-init c =
    let second : iter_rest (zip_second c.zip-x-items.result) ≡ c.args.b.now = c.zip-x-items.ensures.second.0 in
    sum-start c.args.table.now c.args.a.now c.args.b.now (iter_rest (zip_first c.into_iter-x-iterator.result)) (iter_rest (zip_second c.into_iter-x-iterator.result)) c.in_ok-bits.bits.items c.args.carry
    (ap (λ z. iter_rest (zip_first z)) c.into_iter-x-iterator.ensures.into_iter_gives ∙ ap iter_rest c.zip-x-items.ensures.first ∙ c.iter.ensures.rest)
    (ap (λ z. iter_rest (zip_second z)) c.into_iter-x-iterator.ensures.into_iter_gives ∙ second)
    c.requires.a c.requires.b c.requires.same c.requires.carry c.in_ok-bits.ensures.items

pub loop-x-preserved : goal.loop-x-preserved
loop-x-preserved c =
    sum-turn c.args.table.now c.loop-x.table c.add_bits.new.table c.in-Some.x.now c.in-Some.y.now c.in_ok-bit.bit c.loop-x.carry c.in_ok-bit.next
    (iter_rest (zip_first c.next.new.self)) (iter_rest (zip_second c.next.new.self)) (iter_rest (zip_first c.loop-x.x-iterator)) (iter_rest (zip_second c.loop-x.x-iterator)) c.loop-x.bits.items c.push.new.self.items _
    c.loop-x.invariant c.in-Some.ensures.steps.0 c.in-Some.ensures.steps.1
    (record { grows = c.add_bits.ensures.grows; symbols = c.add_bits.ensures.symbols; sorts = c.add_bits.ensures.sorts })
    c.in_ok-bit.ensures.bit c.in_ok-bit.ensures.carry c.in_ok-push.ensures.items

pub returns-clause-bits : goal.returns-clause-bits
returns-clause-bits c =
    sum-end c.args.table.now c.loop-x.table (iter_rest (zip_first c.loop-x.x-iterator)) (iter_rest (zip_second c.loop-x.x-iterator)) c.loop-x.bits.items c.loop-x.carry _ c.loop-x.invariant
    (empty_from_Zip c.loop-x.x-iterator c.next.new.self c.next.result c.in-None.is c.next.ensures.steps c.loop-x.invariant.left.same).0
