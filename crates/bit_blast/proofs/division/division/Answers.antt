use Rattle.std.proofs.Common.{◌≡◌, ◌∷◌, ◌++◌, [], suc, ◌-◌, List, length, take, get_or, replicate, ap, sym, ◌∙◌, subst, arith, length-take-le}
use Rattle.smt_terms.specs.declared.ids.NodeId.{NodeId}
use Rattle.term_table.specs.Formulas.{trees_at}
use Rattle.term_walk.proofs.Visits.{table-grows}
use Rattle.bit_blast.specs.DivisionSteps.{IsStep}
use Rattle.bit_blast.proofs.DivisionNodes.{quotients-none, rest-count, divisor-count, left-count, left-formulas, quotients-more}
use Rattle.bit_blast.proofs.division.division.Goals as goal
use Rattle.bit_blast.proofs.division.division.Goals.{After-deref-in-loop-place-2}

pub loop-place-init : goal.loop-place-init
loop-place-init c =
    let found = c.in_ok-none.ensures in
    let divisor = c.in_ok-push.ensures.items in
    let divisor_was = c.in_ok-divisor.ensures.items in
    quotients-none c.args.table.now c.truth.new.table c.in_ok-none.none c.args.a.now c.args.b.now c.push.new.self.items c.in_ok-quotient.quotient.items c.in_ok-rest.rest.items c.requires.b
    (record { grows = found.grows; symbols = found.symbols; sorts = found.sorts })
    (record { formula = found.formula; term = found.term })
    (cc)
    c.in_ok-quotient.ensures.items
    (c.in_ok-rest.ensures ∙ ap (λ n. replicate n c.in_ok-none.none) (c.len.ensures ∙ c.push.new.self.ok.0))

pub slice_bounds-extend_from_slice-end : goal.slice_bounds-extend_from_slice-end
slice_bounds-extend_from_slice-end c =
    let t = c.loop-place.table in
    let count = rest-count c.args.table.now t c.args.a.now c.args.b.now c.loop-place.place c.push.new.self.items c.loop-place.quotient.items c.loop-place.rest.items c.requires.a c.loop-place.invariant in
    let same = ap length c.deref.ensures.value in
    sym (length-take-le (length c.args.b.now) c.deref.result.now (omega (arith, count, same)))

-- ---- what is left at a step

some_node : NodeId
some_node = record { 0 = 0 }

left_is : (c : After-deref-in-loop-place-2) → c.deref-in-loop-place-2.result.now ≡ get_or c.args.a.now (c.loop-place.place - 1) some_node ∷ take (length c.args.b.now) c.loop-place.rest.items
unfolding some_node
left_is c =
    let was : c.in_ok-left.left.items ≡ get_or c.args.a.now (c.loop-place.place - 1) some_node ∷ [] = c.in_ok-left.ensures.items in
    let more : c.extend_from_slice.new.self.items ≡ c.in_ok-left.left.items ++ take (length c.args.b.now) c.deref.result.now = c.in_ok-extend_from_slice.ensures.items in
    c.deref-in-loop-place-2.ensures.value ∙ more ∙ (λ i. was i ++ take (length c.args.b.now) (c.deref.ensures.value i))

place_is : (c : After-deref-in-loop-place-2) → c.loop-place.place ≡ suc (c.loop-place.place - 1)
place_is c = let test = c.loop-place-test.true in omega (arith, test)

pub next_step-requires-clause-left : goal.next_step-requires-clause-left
next_step-requires-clause-left c =
    let t = c.loop-place.table in
    left-formulas c.args.table.now t c.args.a.now c.args.b.now c.loop-place.place c.push.new.self.items c.loop-place.quotient.items c.loop-place.rest.items c.requires.a c.loop-place.invariant
    (c.loop-place.place - 1) c.deref-in-loop-place-2.result.now some_node (place_is c) (left_is c)

pub next_step-requires-clause-same : goal.next_step-requires-clause-same
next_step-requires-clause-same c =
    let t = c.loop-place.table in
    left-count c.args.table.now t c.args.a.now c.args.b.now c.loop-place.place c.push.new.self.items c.loop-place.quotient.items c.loop-place.rest.items c.requires.a c.loop-place.invariant
    (c.loop-place.place - 1) c.deref-in-loop-place-2.result.now some_node (place_is c) (left_is c)
    ∙ sym (divisor-count c.args.table.now t c.args.a.now c.args.b.now c.loop-place.place c.push.new.self.items c.loop-place.quotient.items c.loop-place.rest.items c.requires.a c.loop-place.invariant)
    ∙ sym (ap length c.deref-in-loop-place.ensures.value)

pub returns-in_err-next-clause-grows : goal.returns-in_err-next-clause-grows
returns-in_err-next-clause-grows c = table-grows c.args.table.now c.loop-place.table c.next_step.new.table c.loop-place.invariant.gains.grows c.in_err-next.ensures.grows

pub returns-in_err-push-2-clause-grows : goal.returns-in_err-push-2-clause-grows
returns-in_err-push-2-clause-grows c = table-grows c.args.table.now c.loop-place.table c.next_step.new.table c.loop-place.invariant.gains.grows c.in_ok-next.ensures.grows

pub loop-place-preserved : goal.loop-place-preserved
loop-place-preserved c =
    let t = c.loop-place.table in
    let step = c.in_ok-next.ensures in
    let here = (goal.at.loop-place-preserved c).After-deref-in-loop-place-2 in
    let divisor = c.deref-in-loop-place.ensures.value in
    quotients-more c.args.table.now t c.args.a.now c.args.b.now c.loop-place.place c.push.new.self.items c.loop-place.quotient.items c.loop-place.rest.items c.requires.a c.loop-place.invariant
    (c.loop-place.place - 1) c.deref-in-loop-place-2.result.now some_node (place_is here) (left_is here) c.next_step.new.table
    c.in_ok-next.next c.push-in-loop-place.new.self.items
    (record { grows = step.grows; symbols = step.symbols; sorts = step.sorts })
    (subst (λ (ks : List NodeId). IsStep c.next_step.new.table c.in_ok-next.next (trees_at t ks) (trees_at t c.deref-in-loop-place-2.result.now)) divisor step.step)
    c.in_ok-push-2.ensures.items
