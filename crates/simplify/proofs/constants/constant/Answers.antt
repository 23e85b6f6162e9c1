use Rattle.std.proofs.Common.{◌^◌, ◌<◌, Some, ap, sym, ◌∙◌, subst}
use Rattle.std.specs.Prelude.{unsigned_abs}
use Rattle.smt_terms.specs.Values.{whole}
use Rattle.smt_values.specs.declared.scalar.Scalar.TheVariants as scalar
use Rattle.term_table.specs.Formulas.{kind, tree, operands}
use Rattle.simplify.proofs.ConstantNodes.{in-word, no-value}
use Rattle.simplify.proofs.ConstantTests.{IsConstantOf, truth_constant, whole_constant, bits_constant, no_literal}
use Rattle.simplify.proofs.constants.constant.Goals as goal

truth_there : (c : goal.In-Truth) → IsConstantOf (tree c.args.table.now c.args.id) (scalar.Truth c.in-Truth.truth)
unfolding kind
truth_there c =
    let u = tree c.args.table.now c.args.id in
    truth_constant c.in-Truth.truth u (operands u) (c.in-Truth.ensures.table.sorted c.args.id.0 c.requires) c.in-Truth.ensures.term

whole_there : (c : goal.In-Whole) → IsConstantOf (tree c.args.table.now c.args.id) (scalar.Whole c.in-Whole.n)
unfolding kind
whole_there c =
    let u = tree c.args.table.now c.args.id in
    whole_constant c.in-Whole.n u (operands u) (c.in-Whole.ensures.table.sorted c.args.id.0 c.requires) c.in-Whole.ensures.term

bits_there : (c : goal.In-Bits) → IsConstantOf (tree c.args.table.now c.args.id) (scalar.Bits c.in-Bits.width c.in-Bits.bits)
unfolding kind
bits_there c =
    let u = tree c.args.table.now c.args.id in
    bits_constant c.in-Bits.width c.in-Bits.bits u (operands u) (c.in-Bits.ensures.table.sorted c.args.id.0 c.requires) c.in-Bits.ensures.term

pub returns-in-Truth-clause-value : goal.returns-in-Truth-clause-value
returns-in-Truth-clause-value c = sym (truth_there c).value

pub returns-in-Truth-clause-sort : goal.returns-in-Truth-clause-sort
returns-in-Truth-clause-sort c = (truth_there c).sort

pub returns-in-Whole-clause-value : goal.returns-in-Whole-clause-value
returns-in-Whole-clause-value c = ap (λ n. Some (whole n)) (in-word c.in-Whole.n (whole_there c).scalar) ∙ sym (whole_there c).value

pub returns-in-Whole-clause-scalar : goal.returns-in-Whole-clause-scalar
returns-in-Whole-clause-scalar c = subst (λ n. unsigned_abs n < 2 ^ 127) (sym (in-word c.in-Whole.n (whole_there c).scalar)) (whole_there c).scalar

pub returns-in-Whole-clause-sort : goal.returns-in-Whole-clause-sort
returns-in-Whole-clause-sort c = (whole_there c).sort

pub returns-in-Bits-clause-value : goal.returns-in-Bits-clause-value
returns-in-Bits-clause-value c = sym (bits_there c).value

pub returns-in-Bits-clause-scalar : goal.returns-in-Bits-clause-scalar
returns-in-Bits-clause-scalar c = (bits_there c).scalar

pub returns-in-Bits-clause-sort : goal.returns-in-Bits-clause-sort
returns-in-Bits-clause-sort c = (bits_there c).sort

pub returns-in_default : goal.returns-in_default
returns-in_default c = record {
  value = no-value c.args.table.now c.op.result (tree c.args.table.now c.args.id) c.op.ensures.term (no_literal c.op.result c.in_default.not-Truth c.in_default.not-Whole c.in_default.not-Bits);
  scalar = tt;
  sort = tt;
}
