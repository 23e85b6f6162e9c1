use Rattle.std.proofs.Common.{length, get_or, ap, sym, ◌∙◌, arith}
use Rattle.smt_terms.specs.declared.ids.NodeId.{NodeId}
use Rattle.term_table.specs.Formulas.{tree, trees_at}
use Rattle.bit_blast.specs.Blasted.{term_gates}
use Rattle.bit_blast.specs.Circuits.{chosen}
use Rattle.bit_blast.specs.ShiftWays.{moved}
use Rattle.bit_blast.proofs.ShiftNodes.{far-formulas, far-width, shifted-more}
use Rattle.bit_blast.proofs.shifts.shifted.Goals as goal

pub choices-requires-clause-a : goal.choices-requires-clause-a
choices-requires-clause-a c =
    far-formulas c.args.table.now c.loop-moves.table c.args.way c.args.bit c.args.a.now c.args.b.now c.loop-moves.moves-index c.loop-moves.distance c.loop-moves.bits.items c.requires.bit c.requires.b c.loop-moves.invariant
    c.deref-in-loop-moves.result.now
    (c.deref-in-loop-moves.ensures.value ∙ c.in_ok-far.ensures ∙ ap (moved c.args.way c.args.bit c.loop-moves.distance) c.deref.ensures.value)

pub choices-requires-clause-same : goal.choices-requires-clause-same
choices-requires-clause-same c =
    far-width c.args.table.now c.loop-moves.table c.args.way c.args.bit c.args.a.now c.args.b.now c.loop-moves.moves-index c.loop-moves.distance c.loop-moves.bits.items c.requires.bit c.requires.b c.loop-moves.invariant
    c.deref-in-loop-moves.result.now
    (c.deref-in-loop-moves.ensures.value ∙ c.in_ok-far.ensures ∙ ap (moved c.args.way c.args.bit c.loop-moves.distance) c.deref.ensures.value)
    ∙ sym (ap length c.deref-in-loop-moves-2.ensures.value)

pub loop-moves-preserved : goal.loop-moves-preserved
loop-moves-preserved c =
    let d : NodeId = record { 0 = 0 } in
    let t = c.loop-moves.table in
    let made = c.in_ok-bits-2.ensures in
    let far_is = c.deref-in-loop-moves.ensures.value in
    let bits_are = c.deref-in-loop-moves-2.ensures.value in
    let len = c.in_ok-bits.ensures.len in
    let small = c.in_ok-bits.bits.small in
    let ok = c.in_ok-bits.bits.ok in
    shifted-more c.args.table.now t c.args.way c.args.bit c.args.a.now c.args.b.now c.loop-moves.moves-index c.loop-moves.distance c.loop-moves.bits.items
    c.requires.bit c.requires.b c.loop-moves.invariant c.choices.new.table c.in_ok-far.far.items c.in_ok-bits-2.bits.items c.saturating_mul-distance.result d c.loop-moves-test.true
    (c.in_ok-far.ensures ∙ ap (moved c.args.way c.args.bit c.loop-moves.distance) c.deref.ensures.value)
    (record { grows = made.grows; symbols = made.symbols; sorts = made.sorts })
    (record { formulas = made.bits.formulas; terms = made.bits.terms ∙ (λ i. chosen term_gates (tree t (get_or c.args.b.now c.loop-moves.moves-index d)) (trees_at t (far_is i)) (trees_at t (bits_are i))) })
    (omega arith)
    c.saturating_mul-distance.ensures
