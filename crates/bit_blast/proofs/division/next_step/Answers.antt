use Rattle.std.proofs.Common.{List, length, refl, ap, sym, ◌∙◌}
use Rattle.smt_terms.specs.Term.{Term}
use Rattle.term_table.specs.Formulas.{tree, trees_at}
use Rattle.bit_blast.specs.Blasted.{term_gates}
use Rattle.bit_blast.specs.Circuits.{chosen}
use Rattle.bit_blast.proofs.BitsOverTables.{bits-count, trees-count}
use Rattle.bit_blast.proofs.CircuitLengths.{length-difference}
use Rattle.bit_blast.proofs.DivisionNodes.{step-made}
use Rattle.bit_blast.proofs.division.next_step.Goals as goal

pub choices-requires-clause-same : goal.choices-requires-clause-same
choices-requires-clause-same c =
    let t = c.negation.new.table in
    let s : List Term = trees_at t c.args.left.now in
    let d : List Term = trees_at t c.args.divisor.now in
    ap length c.deref.ensures.value
    ∙ bits-count c.in_ok-taken.ensures.bits
    ∙ length-difference term_gates s d (trees-count t c.args.left.now ∙ c.requires.same ∙ sym (trees-count t c.args.divisor.now))
    ∙ trees-count t c.args.left.now

pub returns-clause-step : goal.returns-clause-step
returns-clause-step c =
    let t = c.difference.new.table in
    let rest = c.in_ok-rest.ensures.bits in
    let taken_is = c.deref.ensures.value in
    step-made c.args.table.now c.less.new.table c.negation.new.table t c.choices.new.table c.args.divisor.now c.args.left.now c.requires.divisor c.requires.left
    c.in_ok-is_less.is_less c.in_ok-bit.bit c.in_ok-taken.taken.items _
    c.in_ok-is_less.ensures.grows c.in_ok-bit.ensures.grows c.in_ok-taken.ensures.grows c.in_ok-rest.ensures.grows
    c.in_ok-is_less.ensures.term c.in_ok-bit.ensures.formula c.in_ok-bit.ensures.term c.in_ok-taken.ensures.bits.terms refl
    (record { formulas = rest.formulas; terms = rest.terms ∙ (λ i. chosen term_gates (tree t c.in_ok-bit.bit) (trees_at t (taken_is i)) (trees_at t c.args.left.now)) })
