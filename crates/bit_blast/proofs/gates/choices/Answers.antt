use Rattle.std.proofs.Common.{◌≡◌, ap, ◌∙◌}
use Rattle.std.specs.Iterator.Adapters.{zip_first, zip_second}
use Rattle.std.specs.Slice.Iter.{iter_rest}
use Rattle.std.proofs.lemmas.Iterator.{empty_from_Zip}
use Rattle.term_table.specs.Formulas.{tree}
use Rattle.normal_forms.specs.Nodes.{formula_stays}
use Rattle.bit_blast.specs.Blasted.{term_gates}
use Rattle.bit_blast.specs.Circuits.{choose}
use Rattle.bit_blast.proofs.BitLists.{tree-stays, each-start, each-turn, each-end}
use Rattle.bit_blast.proofs.gates.choices.Goals as goal

pub loop-x-init : goal.loop-x-init
loop-x-init c =
    let second : iter_rest (zip_second c.zip-x-items.result) ≡ c.args.b.now = c.zip-x-items.ensures.second.0 in
    each-start (choose term_gates (tree c.args.table.now c.args.c)) c.args.table.now c.args.a.now c.args.b.now (iter_rest (zip_first c.into_iter-x-iterator.result)) (iter_rest (zip_second c.into_iter-x-iterator.result)) c.in_ok-bits.bits.items
    (ap (λ z. iter_rest (zip_first z)) c.into_iter-x-iterator.ensures.into_iter_gives ∙ ap iter_rest c.zip-x-items.ensures.first ∙ c.iter.ensures.rest)
    (ap (λ z. iter_rest (zip_second z)) c.into_iter-x-iterator.ensures.into_iter_gives ∙ second)
    c.requires.a c.requires.b c.requires.same c.in_ok-bits.ensures.items

pub choice-requires-clause-c : goal.choice-requires-clause-c
choice-requires-clause-c c = formula_stays c.args.table.now c.loop-x.table c.args.c c.loop-x.invariant.gains.grows c.requires.c

pub loop-x-preserved : goal.loop-x-preserved
loop-x-preserved c =
    each-turn (choose term_gates (tree c.args.table.now c.args.c)) c.args.table.now c.loop-x.table c.choice.new.table c.in-Some.x.now c.in-Some.y.now c.in_ok-bit.bit
    (iter_rest (zip_first c.next.new.self)) (iter_rest (zip_second c.next.new.self)) (iter_rest (zip_first c.loop-x.x-iterator)) (iter_rest (zip_second c.loop-x.x-iterator)) c.loop-x.bits.items c.push.new.self.items _
    c.loop-x.invariant c.in-Some.ensures.steps.0 c.in-Some.ensures.steps.1
    (record { grows = c.choice.ensures.grows; symbols = c.choice.ensures.symbols; sorts = c.choice.ensures.sorts })
    c.in_ok-bit.ensures.formula
    (c.in_ok-bit.ensures.term ∙ ap (λ u. choose term_gates u (tree c.loop-x.table c.in-Some.x.now) (tree c.loop-x.table c.in-Some.y.now)) (tree-stays c.args.table.now c.loop-x.table c.args.c c.loop-x.invariant.gains.grows c.requires.c))
    c.in_ok-push.ensures.items

pub returns-clause-bits : goal.returns-clause-bits
returns-clause-bits c =
    each-end (choose term_gates (tree c.args.table.now c.args.c)) c.args.table.now c.loop-x.table (iter_rest (zip_first c.loop-x.x-iterator)) (iter_rest (zip_second c.loop-x.x-iterator)) c.loop-x.bits.items _ c.loop-x.invariant
    (empty_from_Zip c.loop-x.x-iterator c.next.new.self c.next.result c.in-None.is c.next.ensures.steps c.loop-x.invariant.left.same).0
