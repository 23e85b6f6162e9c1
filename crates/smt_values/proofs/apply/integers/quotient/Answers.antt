use Rattle.std.proofs.Common.{rules, ◌∙◌, sym}
use Rattle.std.specs.Int.{w128, int_div_euclid}
use Rattle.std.proofs.lemmas.Int.{to_z-of_z}
use mir.Val.{SFits}
use Rattle.smt_values.proofs.IntegerLaws.{some_number}
use Rattle.smt_values.proofs.apply.integers.quotient.Goals as goal

pub div_euclid-requires-clause-nonzero : goal.div_euclid-requires-clause-nonzero
div_euclid-requires-clause-nonzero c =
    let fits : SFits w128 c.whole_at-2.result = search rules in
    some_number c.whole_at-2.result fits (λ e. c.requires.divisor (sym c.whole_at-2.ensures.number ∙ e))

pub returns-clause-value : goal.returns-clause-value
returns-clause-value c =
    let left : SFits w128 c.whole_at.result = search rules in
    let right : SFits w128 c.whole_at-2.result = search rules in
    let fits : SFits w128 c.div_euclid.result = search rules in
    to_z-of_z w128 c.div_euclid.result fits ∙ c.div_euclid.ensures
    ∙ (λ i. int_div_euclid ((to_z-of_z w128 c.whole_at.result left ∙ c.whole_at.ensures.number) i) ((to_z-of_z w128 c.whole_at-2.result right ∙ c.whole_at-2.ensures.number) i))
