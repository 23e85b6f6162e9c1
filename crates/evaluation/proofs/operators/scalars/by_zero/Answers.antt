use Rattle.std.proofs.Common.{rules, ◌≡◌, ◌∙◌, ap, sym, pos}
use Rattle.std.specs.Int.{w128, cast_signed}
use Rattle.std.proofs.lemmas.Int.{to_z-of_z}
use mir.Val.{SFits}
use Rattle.smt_terms.specs.Models.{number_value}
use Rattle.smt_terms.specs.Values.{whole, number}
use Rattle.smt_values.specs.Operands.{operand}
use Rattle.models.specs.Division.{numbers_of}
use Rattle.evaluation.proofs.ScalarLaws.{by-zero}
use Rattle.evaluation.proofs.operators.scalars.by_zero.Goals as goal

pub returns-clause-value : goal.returns-clause-value
returns-clause-value c t =
    let fits : SFits w128 c.value_at.result = search rules in
    let small : SFits w128 c.whole_at.result = search rules in
    let zero_read : c.whole_at.result ≡ pos 0 = sym (to_z-of_z w128 c.whole_at.result small) ∙ ap (cast_signed w128) c.if-whole_at-ne0.false in
    let none : number (operand c.args.args.now 1) ≡ pos 0 = sym c.whole_at.ensures ∙ zero_read in
    let large : SFits w128 c.whole_at-2.result = search rules in
    let is : c.value_at.result ≡ number_value (numbers_of c.in_ok-part.part c.args.model.now) (number (operand c.args.args.now 0)) = c.value_at.ensures.value ∙ (λ i. number_value (c.by_zero.ensures i) ((to_z-of_z w128 c.whole_at-2.result large ∙ c.whole_at-2.ensures) i)) in
    by-zero t c.args.model.now c.in_ok-part.part c.args.op c.args.args.now c.value_at.result c.in_ok-part.ensures.part none is ∙ ap whole (sym (to_z-of_z w128 c.value_at.result fits))
