use Rattle.std.proofs.Common.{rules, ◌<◌, ◌^◌, not, ◌∙◌, ap, subst, sym, map}
use Rattle.smt_terms.specs.Operators.{op_value, first_value, second_value, all_distinct, sum_of, product_of}
use Rattle.smt_terms.specs.Values.{truth, whole, same, is_true, number}
use Rattle.smt_values.specs.Meaning.{scalar_value, scalar_sort}
use Rattle.smt_values.specs.Applied.{TakesOperands, HasDivisor}
use Rattle.std.specs.Prelude.{unsigned_abs, pos, ◌-ℤ◌, int_le, int_lt}
use mir.Val.{SFits}
use Rattle.std.specs.Int.{w128, int_div_euclid, int_rem_euclid}
use Rattle.std.proofs.lemmas.Int.{to_z-of_z}
use Rattle.std.proofs.lemmas.List.Folds.{list_all-map}
use Rattle.smt_values.proofs.ApplyLaws.{list_any-map, words_left, whole_fits, bits_fit, equal_alike, distinct_alike, ite_three, within_value, within_beyond, negated, other_divisor}
use Rattle.smt_values.proofs.apply.apply_scalar.Goals as goal

pub equal-requires-clause-two : goal.equal-requires-clause-two
equal-requires-clause-two c =
    (equal_alike c.args.args.now (subst (λ o. TakesOperands o c.args.args.now) c.in-Equal.is c.requires.operands)).two

pub chosen-requires-clause-three : goal.chosen-requires-clause-three
chosen-requires-clause-three c =
    ite_three c.args.args.now (subst (λ o. TakesOperands o c.args.args.now) c.in-Ite.is c.requires.operands)

pub on_words-requires : goal.on_words-requires
on_words-requires c =
    record {
      words = words_left c.args.op c.args.args.now record {
        is_truth = c.in_default.not-Truth;
        is_whole = c.in_default.not-Whole;
        is_bits = c.in_default.not-Bits;
        is_not = c.in_default.not-Not;
        is_and = c.in_default.not-And;
        is_or = c.in_default.not-Or;
        is_xor = c.in_default.not-Xor;
        is_implies = c.in_default.not-Implies;
        is_equal = c.in_default.not-Equal;
        is_distinct = c.in_default.not-Distinct;
        is_ite = c.in_default.not-Ite;
        is_neg = c.in_default.not-Neg;
        is_sub = c.in_default.not-Sub;
        is_add = c.in_default.not-Add;
        is_mul = c.in_default.not-Mul;
        is_div = c.in_default.not-Div;
        is_mod = c.in_default.not-Mod;
        is_abs = c.in_default.not-Abs;
        is_le = c.in_default.not-Le;
        is_lt = c.in_default.not-Lt;
      } c.requires.operands;
      scalars = c.requires.scalars;
      operands = c.requires.operands;
    }

pub returns-in-Truth-clause-value : goal.returns-in-Truth-clause-value
unfolding op_value
returns-in-Truth-clause-value c b =
    ap (λ o. op_value b o (map scalar_sort c.args.args.now) (map scalar_value c.args.args.now)) c.in-Truth.is

pub returns-in-Whole-clause-value : goal.returns-in-Whole-clause-value
unfolding op_value
returns-in-Whole-clause-value c b =
    let fits : SFits w128 c.in-Whole.n = search rules in
    ap (λ o. op_value b o (map scalar_sort c.args.args.now) (map scalar_value c.args.args.now)) c.in-Whole.is
    ∙ ap whole (sym (to_z-of_z w128 c.in-Whole.n fits))

pub returns-in-Whole-clause-scalar : goal.returns-in-Whole-clause-scalar
returns-in-Whole-clause-scalar c =
    let fits : SFits w128 c.in-Whole.n = search rules in
    subst (λ z. unsigned_abs z < 2 ^ 127) (sym (to_z-of_z w128 c.in-Whole.n fits)) (whole_fits c.in-Whole.n c.args.args.now (subst (λ o. TakesOperands o c.args.args.now) c.in-Whole.is c.requires.operands))

pub returns-in-Bits-clause-value : goal.returns-in-Bits-clause-value
unfolding op_value
returns-in-Bits-clause-value c b =
    ap (λ o. op_value b o (map scalar_sort c.args.args.now) (map scalar_value c.args.args.now)) c.in-Bits.is

pub returns-in-Bits-clause-scalar : goal.returns-in-Bits-clause-scalar
returns-in-Bits-clause-scalar c =
    bits_fit c.in-Bits.width c.in-Bits.bits c.args.args.now (subst (λ o. TakesOperands o c.args.args.now) c.in-Bits.is c.requires.operands)

pub returns-in-Not-clause-value : goal.returns-in-Not-clause-value
unfolding op_value
returns-in-Not-clause-value c b =
    ap (λ o. op_value b o (map scalar_sort c.args.args.now) (map scalar_value c.args.args.now)) c.in-Not.is
    ∙ ap (λ t. truth (not t)) (sym c.truth_at.ensures)

pub returns-in-And-clause-value : goal.returns-in-And-clause-value
unfolding op_value
returns-in-And-clause-value c b =
    ap (λ o. op_value b o (map scalar_sort c.args.args.now) (map scalar_value c.args.args.now)) c.in-And.is
    ∙ ap truth (list_all-map is_true scalar_value c.args.args.now ∙ sym c.all_true.ensures)

pub returns-in-Or-clause-value : goal.returns-in-Or-clause-value
unfolding op_value
returns-in-Or-clause-value c b =
    ap (λ o. op_value b o (map scalar_sort c.args.args.now) (map scalar_value c.args.args.now)) c.in-Or.is
    ∙ ap truth (list_any-map is_true scalar_value c.args.args.now ∙ sym c.any_true.ensures)

pub returns-in-Xor-clause-value : goal.returns-in-Xor-clause-value
unfolding op_value
returns-in-Xor-clause-value c b =
    ap (λ o. op_value b o (map scalar_sort c.args.args.now) (map scalar_value c.args.args.now)) c.in-Xor.is
    ∙ ap truth (sym c.exclusive.ensures)

pub returns-in-Implies-clause-value : goal.returns-in-Implies-clause-value
unfolding op_value
returns-in-Implies-clause-value c b =
    ap (λ o. op_value b o (map scalar_sort c.args.args.now) (map scalar_value c.args.args.now)) c.in-Implies.is
    ∙ ap truth (sym c.implies.ensures)

pub returns-in-Equal-clause-value : goal.returns-in-Equal-clause-value
unfolding op_value
returns-in-Equal-clause-value c b =
    let alike = equal_alike c.args.args.now (subst (λ o. TakesOperands o c.args.args.now) c.in-Equal.is c.requires.operands) in
    ap (λ o. op_value b o (map scalar_sort c.args.args.now) (map scalar_value c.args.args.now)) c.in-Equal.is
    ∙ ap (λ s. truth (same s b.sizes (first_value (map scalar_value c.args.args.now)) (second_value (map scalar_value c.args.args.now)))) alike.first ∙ ap truth (sym (c.equal.ensures alike.sort b.sizes alike.all))

pub returns-in-Distinct-clause-value : goal.returns-in-Distinct-clause-value
unfolding op_value
returns-in-Distinct-clause-value c b =
    let alike = distinct_alike c.args.args.now (subst (λ o. TakesOperands o c.args.args.now) c.in-Distinct.is c.requires.operands) in
    ap (λ o. op_value b o (map scalar_sort c.args.args.now) (map scalar_value c.args.args.now)) c.in-Distinct.is
    ∙ ap (λ s. truth (all_distinct (same s b.sizes) (map scalar_value c.args.args.now))) alike.first ∙ ap truth (sym (c.are_distinct.ensures alike.sort b.sizes alike.all))

pub returns-in-Ite-clause-value : goal.returns-in-Ite-clause-value
unfolding op_value
returns-in-Ite-clause-value c b =
    ap (λ o. op_value b o (map scalar_sort c.args.args.now) (map scalar_value c.args.args.now)) c.in-Ite.is
    ∙ sym c.chosen.ensures.value

pub returns-in-Neg-clause-value : goal.returns-in-Neg-clause-value
unfolding op_value
returns-in-Neg-clause-value c b =
    let fits : SFits w128 c.whole_at.result = search rules in
    ap (λ o. op_value b o (map scalar_sort c.args.args.now) (map scalar_value c.args.args.now)) c.in-Neg.is
    ∙ ap whole (negated c.whole_at.result (number (first_value (map scalar_value c.args.args.now))) fits c.whole_at.ensures.number c.whole_at.ensures.range)

pub returns-in-Sub-clause-value : goal.returns-in-Sub-clause-value
unfolding op_value
returns-in-Sub-clause-value c =
    within_value c.args.op c.args.args.now c.difference.result (number (first_value (map scalar_value c.args.args.now)) -ℤ number (second_value (map scalar_value c.args.args.now))) c.within.result c.difference.ensures c.within.ensures.some c.within.ensures.none (λ b. ap (λ o. op_value b o (map scalar_sort c.args.args.now) (map scalar_value c.args.args.now)) c.in-Sub.is)

pub returns-in-Sub-clause-beyond : goal.returns-in-Sub-clause-beyond
unfolding op_value
returns-in-Sub-clause-beyond c =
    within_beyond c.args.op c.args.args.now c.difference.result (number (first_value (map scalar_value c.args.args.now)) -ℤ number (second_value (map scalar_value c.args.args.now))) c.within.result c.difference.ensures c.within.ensures.some c.within.ensures.none (λ b. ap (λ o. op_value b o (map scalar_sort c.args.args.now) (map scalar_value c.args.args.now)) c.in-Sub.is)

pub returns-in-Add-clause-value : goal.returns-in-Add-clause-value
unfolding op_value
returns-in-Add-clause-value c =
    within_value c.args.op c.args.args.now c.sum.result (sum_of (map scalar_value c.args.args.now)) c.within-in-Add.result c.sum.ensures c.within-in-Add.ensures.some c.within-in-Add.ensures.none (λ b. ap (λ o. op_value b o (map scalar_sort c.args.args.now) (map scalar_value c.args.args.now)) c.in-Add.is)

pub returns-in-Add-clause-beyond : goal.returns-in-Add-clause-beyond
unfolding op_value
returns-in-Add-clause-beyond c =
    within_beyond c.args.op c.args.args.now c.sum.result (sum_of (map scalar_value c.args.args.now)) c.within-in-Add.result c.sum.ensures c.within-in-Add.ensures.some c.within-in-Add.ensures.none (λ b. ap (λ o. op_value b o (map scalar_sort c.args.args.now) (map scalar_value c.args.args.now)) c.in-Add.is)

pub returns-in-Mul-clause-value : goal.returns-in-Mul-clause-value
unfolding op_value
returns-in-Mul-clause-value c =
    within_value c.args.op c.args.args.now c.product.result (product_of (map scalar_value c.args.args.now)) c.within-in-Mul.result c.product.ensures c.within-in-Mul.ensures.some c.within-in-Mul.ensures.none (λ b. ap (λ o. op_value b o (map scalar_sort c.args.args.now) (map scalar_value c.args.args.now)) c.in-Mul.is)

pub returns-in-Mul-clause-beyond : goal.returns-in-Mul-clause-beyond
unfolding op_value
returns-in-Mul-clause-beyond c =
    within_beyond c.args.op c.args.args.now c.product.result (product_of (map scalar_value c.args.args.now)) c.within-in-Mul.result c.product.ensures c.within-in-Mul.ensures.some c.within-in-Mul.ensures.none (λ b. ap (λ o. op_value b o (map scalar_sort c.args.args.now) (map scalar_value c.args.args.now)) c.in-Mul.is)

pub returns-in-Div-clause-value : goal.returns-in-Div-clause-value
unfolding op_value
returns-in-Div-clause-value c b =
    let fits : SFits w128 c.quotient.result = search rules in
    ap (λ o. op_value b o (map scalar_sort c.args.args.now) (map scalar_value c.args.args.now)) c.in-Div.is
    ∙ ap whole (other_divisor (number (second_value (map scalar_value c.args.args.now))) (b.div_by_zero (number (first_value (map scalar_value c.args.args.now)))) (int_div_euclid (number (first_value (map scalar_value c.args.args.now))) (number (second_value (map scalar_value c.args.args.now)))) (subst (λ o. HasDivisor o c.args.args.now) c.in-Div.is c.requires.divisor) ∙ sym (to_z-of_z w128 c.quotient.result fits ∙ c.quotient.ensures.value))

pub returns-in-Mod-clause-value : goal.returns-in-Mod-clause-value
unfolding op_value
returns-in-Mod-clause-value c b =
    let fits : SFits w128 c.modulus.result = search rules in
    ap (λ o. op_value b o (map scalar_sort c.args.args.now) (map scalar_value c.args.args.now)) c.in-Mod.is
    ∙ ap whole (other_divisor (number (second_value (map scalar_value c.args.args.now))) (b.mod_by_zero (number (first_value (map scalar_value c.args.args.now)))) (int_rem_euclid (number (first_value (map scalar_value c.args.args.now))) (number (second_value (map scalar_value c.args.args.now)))) (subst (λ o. HasDivisor o c.args.args.now) c.in-Mod.is c.requires.divisor) ∙ sym (to_z-of_z w128 c.modulus.result fits ∙ c.modulus.ensures.value))

pub returns-in-Abs-clause-value : goal.returns-in-Abs-clause-value
unfolding op_value
returns-in-Abs-clause-value c b =
    let fits : SFits w128 c.abs.result = search rules in
    let number_fits : SFits w128 c.whole_at-in-Abs.result = search rules in
    ap (λ o. op_value b o (map scalar_sort c.args.args.now) (map scalar_value c.args.args.now)) c.in-Abs.is
    ∙ ap whole (sym (to_z-of_z w128 c.abs.result fits ∙ c.abs.ensures.value ∙ ap (λ z. pos (unsigned_abs z)) (to_z-of_z w128 c.whole_at-in-Abs.result number_fits ∙ c.whole_at-in-Abs.ensures.number)))

pub returns-in-Le-clause-value : goal.returns-in-Le-clause-value
unfolding op_value
returns-in-Le-clause-value c b =
    let left : SFits w128 c.whole_at-in-Le.result = search rules in
    let right : SFits w128 c.whole_at-in-Le-2.result = search rules in
    ap (λ o. op_value b o (map scalar_sort c.args.args.now) (map scalar_value c.args.args.now)) c.in-Le.is
    ∙ sym (λ i. truth (int_le ((to_z-of_z w128 c.whole_at-in-Le.result left ∙ c.whole_at-in-Le.ensures.number) i) ((to_z-of_z w128 c.whole_at-in-Le-2.result right ∙ c.whole_at-in-Le-2.ensures.number) i)))

pub returns-in-Lt-clause-value : goal.returns-in-Lt-clause-value
unfolding op_value
returns-in-Lt-clause-value c b =
    let left : SFits w128 c.whole_at-in-Lt.result = search rules in
    let right : SFits w128 c.whole_at-in-Lt-2.result = search rules in
    ap (λ o. op_value b o (map scalar_sort c.args.args.now) (map scalar_value c.args.args.now)) c.in-Lt.is
    ∙ sym (λ i. truth (int_lt ((to_z-of_z w128 c.whole_at-in-Lt.result left ∙ c.whole_at-in-Lt.ensures.number) i) ((to_z-of_z w128 c.whole_at-in-Lt-2.result right ∙ c.whole_at-in-Lt-2.ensures.number) i)))
