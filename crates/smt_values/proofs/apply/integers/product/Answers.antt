use Rattle.std.proofs.Common.{rules, ap, subst, sym, ◌∙◌, ◌+◌, ◌^◌, ◌<◌, lit<, drop, map}
use Rattle.std.specs.Prelude.{◌*ℤ◌, unsigned_abs}
use Rattle.std.specs.Int.{w128, cast_signed, cast_unsigned}
use Rattle.std.proofs.lemmas.Int.{to_z-of_z}
use mir.Val.{SFits}
use Rattle.smt_terms.specs.Operators.{product_of}
use Rattle.smt_values.specs.Applied.{IsWithin}
use Rattle.smt_values.specs.Meaning.{scalar_value}
use Rattle.smt_values.proofs.IntegerLaws.{product_of-drop, product_step, product_zero, product_some, none_later, product_out}
use Rattle.smt_values.proofs.apply.integers.product.Goals as goal

pub returns-then-has_zero : goal.returns-then-has_zero
returns-then-has_zero c =
    let zero = product_zero c.args.args.now (sym c.has_zero.ensures ∙ c.if-has_zero.true) in
    (sym zero, subst (λ z. unsigned_abs z < 2 ^ 127) (sym zero) (lit< tt))

pub returns-in_err-product : goal.returns-in_err-product
returns-in_err-product c =
    let number : SFits w128 c.whole.result = search rules in
    let factor = to_z-of_z w128 c.whole.result number ∙ c.whole.ensures.number in
    let rest = product_of (map scalar_value (drop (c.loop-arg.arg-index + 1) c.args.args.now)) in
    let whole = product_of (map scalar_value c.args.args.now) in
    subst (λ r. IsWithin r whole) (sym c.from_residual.ensures)
    (product_out (cast_signed w128 c.loop-arg.product-bits *ℤ cast_signed w128 (cast_unsigned w128 c.whole.result)) rest whole c.in_err-product.ensures
    (product_some (drop (c.loop-arg.arg-index + 1) c.args.args.now) (none_later c.args.args.now (c.loop-arg.arg-index + 1) (sym c.has_zero.ensures ∙ c.if-has_zero.false)))
    (product_step (cast_signed w128 c.loop-arg.product-bits) (cast_signed w128 (cast_unsigned w128 c.whole.result)) (product_of (map scalar_value (drop c.loop-arg.arg-index c.args.args.now))) rest whole
    (product_of-drop c.args.args.now c.loop-arg.arg-index c.loop-arg-test.true ∙ ap (λ z. z *ℤ rest) (sym factor)) c.loop-arg.invariant))

pub loop-arg-preserved : goal.loop-arg-preserved
loop-arg-preserved c =
    let number : SFits w128 c.whole.result = search rules in
    let factor = to_z-of_z w128 c.whole.result number ∙ c.whole.ensures.number in
    let fits : SFits w128 c.in_ok-product.product = search rules in
    let rest = product_of (map scalar_value (drop (c.loop-arg.arg-index + 1) c.args.args.now)) in
    let whole = product_of (map scalar_value c.args.args.now) in
    ap (λ z. z *ℤ rest) (to_z-of_z w128 c.in_ok-product.product fits ∙ c.in_ok-product.ensures.1)
    ∙ product_step (cast_signed w128 c.loop-arg.product-bits) (cast_signed w128 (cast_unsigned w128 c.whole.result)) (product_of (map scalar_value (drop c.loop-arg.arg-index c.args.args.now))) rest whole
    (product_of-drop c.args.args.now c.loop-arg.arg-index c.loop-arg-test.true ∙ ap (λ z. z *ℤ rest) (sym factor)) c.loop-arg.invariant
