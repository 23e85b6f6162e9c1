use Rattle.std.proofs.Common.{Option, Some, IfOk, ap, sym, ◌∙◌, subst}
use Rattle.smt_terms.specs.Term.{Term}
use Rattle.term_table.specs.Formulas.{trees_at}
use Rattle.simplify.specs.Folding.{one, twice}
use Rattle.simplify.specs.Reduced.{Answers}
use Rattle.simplify.specs.Simplify.{law}
use Rattle.simplify.proofs.Answered.{answers-none}
use Rattle.simplify.proofs.NoLaw.{no-law}
use Rattle.simplify.proofs.reduction.law.Goals as goal

pub returns-in-Not-clause-found : goal.returns-in-Not-clause-found
unfolding law
returns-in-Not-clause-found c =
    subst (λ (x : Option Term). Answers c.args.table.now x c.twice.result) (ap (λ o. one (twice o) (trees_at c.args.table.now c.args.ids.now)) c.in-Not.is ∙ ap (λ o. law o (trees_at c.args.table.now c.args.ids.now)) (sym c.in-Not.is)) c.twice.ensures

pub returns-in_ok-id-in-And-clause-found : goal.returns-in_ok-id-in-And-clause-found
unfolding law
returns-in_ok-id-in-And-clause-found c =
    subst (λ (x : Option Term). Answers c.conjunction.new.table x (Some c.in_ok-id-in-And.id)) (ap (λ o. law o (trees_at c.args.table.now c.args.ids.now)) (sym c.in-And.is))
    (record { node = c.in_ok-id-in-And.ensures.node; term = c.in_ok-id-in-And.ensures.term })

pub returns-in_ok-id-in-Or-clause-found : goal.returns-in_ok-id-in-Or-clause-found
unfolding law
returns-in_ok-id-in-Or-clause-found c =
    subst (λ (x : Option Term). Answers c.disjunction.new.table x (Some c.in_ok-id-in-Or.id)) (ap (λ o. law o (trees_at c.args.table.now c.args.ids.now)) (sym c.in-Or.is))
    (record { node = c.in_ok-id-in-Or.ensures.node; term = c.in_ok-id-in-Or.ensures.term })

pub returns-in-Xor-clause-found : goal.returns-in-Xor-clause-found
unfolding law
returns-in-Xor-clause-found c =
    subst (λ (x : Option Term). IfOk c.exclusive.result (Answers c.exclusive.new.table x)) (ap (λ o. law o (trees_at c.args.table.now c.args.ids.now)) (sym c.in-Xor.is)) c.exclusive.ensures.found

pub returns-in-Implies-clause-found : goal.returns-in-Implies-clause-found
unfolding law
returns-in-Implies-clause-found c =
    subst (λ (x : Option Term). IfOk c.implication.result (Answers c.implication.new.table x)) (ap (λ o. law o (trees_at c.args.table.now c.args.ids.now)) (sym c.in-Implies.is)) c.implication.ensures.found

pub returns-in-Equal-clause-found : goal.returns-in-Equal-clause-found
unfolding law
returns-in-Equal-clause-found c =
    subst (λ (x : Option Term). IfOk c.equation.result (Answers c.equation.new.table x)) (ap (λ o. law o (trees_at c.args.table.now c.args.ids.now)) (sym c.in-Equal.is)) c.equation.ensures.found

pub returns-in-Distinct-clause-found : goal.returns-in-Distinct-clause-found
unfolding law
returns-in-Distinct-clause-found c =
    subst (λ (x : Option Term). IfOk c.distinctness.result (Answers c.distinctness.new.table x)) (ap (λ o. law o (trees_at c.args.table.now c.args.ids.now)) (sym c.in-Distinct.is)) c.distinctness.ensures.found

pub returns-in-Ite-clause-found : goal.returns-in-Ite-clause-found
unfolding law
returns-in-Ite-clause-found c =
    subst (λ (x : Option Term). IfOk c.choice.result (Answers c.choice.new.table x)) (ap (λ o. law o (trees_at c.args.table.now c.args.ids.now)) (sym c.in-Ite.is)) c.choice.ensures.found

pub returns-in-Neg-clause-found : goal.returns-in-Neg-clause-found
unfolding law
returns-in-Neg-clause-found c =
    subst (λ (x : Option Term). Answers c.args.table.now x c.twice-in-Neg.result) (ap (λ o. one (twice o) (trees_at c.args.table.now c.args.ids.now)) c.in-Neg.is ∙ ap (λ o. law o (trees_at c.args.table.now c.args.ids.now)) (sym c.in-Neg.is)) c.twice-in-Neg.ensures

pub returns-in-Sub-clause-found : goal.returns-in-Sub-clause-found
unfolding law
returns-in-Sub-clause-found c =
    subst (λ (x : Option Term). IfOk c.subtraction.result (Answers c.subtraction.new.table x)) (ap (λ o. law o (trees_at c.args.table.now c.args.ids.now)) (sym c.in-Sub.is)) c.subtraction.ensures.found

pub returns-in-Add-clause-found : goal.returns-in-Add-clause-found
unfolding law
returns-in-Add-clause-found c =
    subst (λ (x : Option Term). IfOk c.addition.result (Answers c.addition.new.table x)) (ap (λ o. law o (trees_at c.args.table.now c.args.ids.now)) (sym c.in-Add.is)) c.addition.ensures.found

pub returns-in-Mul-clause-found : goal.returns-in-Mul-clause-found
unfolding law
returns-in-Mul-clause-found c =
    subst (λ (x : Option Term). IfOk c.multiplication.result (Answers c.multiplication.new.table x)) (ap (λ o. law o (trees_at c.args.table.now c.args.ids.now)) (sym c.in-Mul.is)) c.multiplication.ensures.found

pub returns-in-Div-clause-found : goal.returns-in-Div-clause-found
unfolding law
returns-in-Div-clause-found c =
    subst (λ (x : Option Term). Answers c.args.table.now x c.division.result) (ap (λ o. law o (trees_at c.args.table.now c.args.ids.now)) (sym c.in-Div.is)) c.division.ensures

pub returns-in-Mod-clause-found : goal.returns-in-Mod-clause-found
unfolding law
returns-in-Mod-clause-found c =
    subst (λ (x : Option Term). IfOk c.remainder.result (Answers c.remainder.new.table x)) (ap (λ o. law o (trees_at c.args.table.now c.args.ids.now)) (sym c.in-Mod.is)) c.remainder.ensures.found

pub returns-in-Le-clause-found : goal.returns-in-Le-clause-found
unfolding law
returns-in-Le-clause-found c =
    subst (λ (x : Option Term). IfOk c.with_itself.result (Answers c.with_itself.new.table x)) (ap (λ o. law o (trees_at c.args.table.now c.args.ids.now)) (sym c.in-Le.is)) c.with_itself.ensures.found

pub returns-in-Lt-clause-found : goal.returns-in-Lt-clause-found
unfolding law
returns-in-Lt-clause-found c =
    subst (λ (x : Option Term). IfOk c.with_itself-in-Lt.result (Answers c.with_itself-in-Lt.new.table x)) (ap (λ o. law o (trees_at c.args.table.now c.args.ids.now)) (sym c.in-Lt.is)) c.with_itself-in-Lt.ensures.found

pub returns-in-Extract-clause-found : goal.returns-in-Extract-clause-found
unfolding law
returns-in-Extract-clause-found c =
    subst (λ (x : Option Term). Answers c.args.table.now x c.extraction.result) (ap (λ o. law o (trees_at c.args.table.now c.args.ids.now)) (sym c.in-Extract.is)) c.extraction.ensures

pub returns-in-BvNot-clause-found : goal.returns-in-BvNot-clause-found
unfolding law
returns-in-BvNot-clause-found c =
    subst (λ (x : Option Term). Answers c.args.table.now x c.twice-in-BvNot.result) (ap (λ o. one (twice o) (trees_at c.args.table.now c.args.ids.now)) c.in-BvNot.is ∙ ap (λ o. law o (trees_at c.args.table.now c.args.ids.now)) (sym c.in-BvNot.is)) c.twice-in-BvNot.ensures

pub returns-in-BvNeg-clause-found : goal.returns-in-BvNeg-clause-found
unfolding law
returns-in-BvNeg-clause-found c =
    subst (λ (x : Option Term). Answers c.args.table.now x c.twice-in-BvNeg.result) (ap (λ o. one (twice o) (trees_at c.args.table.now c.args.ids.now)) c.in-BvNeg.is ∙ ap (λ o. law o (trees_at c.args.table.now c.args.ids.now)) (sym c.in-BvNeg.is)) c.twice-in-BvNeg.ensures

pub returns-in-BvAnd-clause-found : goal.returns-in-BvAnd-clause-found
unfolding law
returns-in-BvAnd-clause-found c =
    subst (λ (x : Option Term). Answers c.args.table.now x c.bit_and.result) (ap (λ o. law o (trees_at c.args.table.now c.args.ids.now)) (sym c.in-BvAnd.is)) c.bit_and.ensures

pub returns-in-BvOr-clause-found : goal.returns-in-BvOr-clause-found
unfolding law
returns-in-BvOr-clause-found c =
    subst (λ (x : Option Term). Answers c.args.table.now x c.bit_or.result) (ap (λ o. law o (trees_at c.args.table.now c.args.ids.now)) (sym c.in-BvOr.is)) c.bit_or.ensures

pub returns-in-BvXor-clause-found : goal.returns-in-BvXor-clause-found
unfolding law
returns-in-BvXor-clause-found c =
    subst (λ (x : Option Term). IfOk c.bit_exclusive.result (Answers c.bit_exclusive.new.table x)) (ap (λ o. law o (trees_at c.args.table.now c.args.ids.now)) (sym c.in-BvXor.is)) c.bit_exclusive.ensures.found

pub returns-in-BvAdd-clause-found : goal.returns-in-BvAdd-clause-found
unfolding law
returns-in-BvAdd-clause-found c =
    subst (λ (x : Option Term). Answers c.args.table.now x c.addition-in-BvAdd.result) (ap (λ o. law o (trees_at c.args.table.now c.args.ids.now)) (sym c.in-BvAdd.is)) c.addition-in-BvAdd.ensures

pub returns-in-BvMul-clause-found : goal.returns-in-BvMul-clause-found
unfolding law
returns-in-BvMul-clause-found c =
    subst (λ (x : Option Term). Answers c.args.table.now x c.multiplication-in-BvMul.result) (ap (λ o. law o (trees_at c.args.table.now c.args.ids.now)) (sym c.in-BvMul.is)) c.multiplication-in-BvMul.ensures

pub returns-in-BvSub-clause-found : goal.returns-in-BvSub-clause-found
unfolding law
returns-in-BvSub-clause-found c =
    subst (λ (x : Option Term). IfOk c.subtraction-in-BvSub.result (Answers c.subtraction-in-BvSub.new.table x)) (ap (λ o. law o (trees_at c.args.table.now c.args.ids.now)) (sym c.in-BvSub.is)) c.subtraction-in-BvSub.ensures.found

pub returns-in-BvUdiv-clause-found : goal.returns-in-BvUdiv-clause-found
unfolding law
returns-in-BvUdiv-clause-found c =
    subst (λ (x : Option Term). IfOk c.division-in-BvUdiv.result (Answers c.division-in-BvUdiv.new.table x)) (ap (λ o. law o (trees_at c.args.table.now c.args.ids.now)) (sym c.in-BvUdiv.is)) c.division-in-BvUdiv.ensures.found

pub returns-in-BvUrem-clause-found : goal.returns-in-BvUrem-clause-found
unfolding law
returns-in-BvUrem-clause-found c =
    subst (λ (x : Option Term). IfOk c.remainder-in-BvUrem.result (Answers c.remainder-in-BvUrem.new.table x)) (ap (λ o. law o (trees_at c.args.table.now c.args.ids.now)) (sym c.in-BvUrem.is)) c.remainder-in-BvUrem.ensures.found

pub returns-in-BvShl-clause-found : goal.returns-in-BvShl-clause-found
unfolding law
returns-in-BvShl-clause-found c =
    subst (λ (x : Option Term). Answers c.args.table.now x c.shift.result) (ap (λ o. law o (trees_at c.args.table.now c.args.ids.now)) (sym c.in-BvShl.is)) c.shift.ensures

pub returns-in-BvLshr-clause-found : goal.returns-in-BvLshr-clause-found
unfolding law
returns-in-BvLshr-clause-found c =
    subst (λ (x : Option Term). Answers c.args.table.now x c.shift-in-BvLshr.result) (ap (λ o. law o (trees_at c.args.table.now c.args.ids.now)) (sym c.in-BvLshr.is)) c.shift-in-BvLshr.ensures

pub returns-in-BvAshr-clause-found : goal.returns-in-BvAshr-clause-found
unfolding law
returns-in-BvAshr-clause-found c =
    subst (λ (x : Option Term). Answers c.args.table.now x c.shift-in-BvAshr.result) (ap (λ o. law o (trees_at c.args.table.now c.args.ids.now)) (sym c.in-BvAshr.is)) c.shift-in-BvAshr.ensures

pub returns-in-BvComp-clause-found : goal.returns-in-BvComp-clause-found
unfolding law
returns-in-BvComp-clause-found c =
    subst (λ (x : Option Term). IfOk c.comparison.result (Answers c.comparison.new.table x)) (ap (λ o. law o (trees_at c.args.table.now c.args.ids.now)) (sym c.in-BvComp.is)) c.comparison.ensures.found

pub returns-in-BvUlt-clause-found : goal.returns-in-BvUlt-clause-found
unfolding law
returns-in-BvUlt-clause-found c =
    subst (λ (x : Option Term). IfOk c.with_itself-in-BvUlt.result (Answers c.with_itself-in-BvUlt.new.table x)) (ap (λ o. law o (trees_at c.args.table.now c.args.ids.now)) (sym c.in-BvUlt.is)) c.with_itself-in-BvUlt.ensures.found

pub returns-in-BvUle-clause-found : goal.returns-in-BvUle-clause-found
unfolding law
returns-in-BvUle-clause-found c =
    subst (λ (x : Option Term). IfOk c.with_itself-in-BvUle.result (Answers c.with_itself-in-BvUle.new.table x)) (ap (λ o. law o (trees_at c.args.table.now c.args.ids.now)) (sym c.in-BvUle.is)) c.with_itself-in-BvUle.ensures.found

pub returns-in-BvSlt-clause-found : goal.returns-in-BvSlt-clause-found
unfolding law
returns-in-BvSlt-clause-found c =
    subst (λ (x : Option Term). IfOk c.with_itself-in-BvSlt.result (Answers c.with_itself-in-BvSlt.new.table x)) (ap (λ o. law o (trees_at c.args.table.now c.args.ids.now)) (sym c.in-BvSlt.is)) c.with_itself-in-BvSlt.ensures.found

pub returns-in-BvSle-clause-found : goal.returns-in-BvSle-clause-found
unfolding law
returns-in-BvSle-clause-found c =
    subst (λ (x : Option Term). IfOk c.with_itself-in-BvSle.result (Answers c.with_itself-in-BvSle.new.table x)) (ap (λ o. law o (trees_at c.args.table.now c.args.ids.now)) (sym c.in-BvSle.is)) c.with_itself-in-BvSle.ensures.found

pub returns-in-ZeroExt-clause-found : goal.returns-in-ZeroExt-clause-found
unfolding law
returns-in-ZeroExt-clause-found c =
    subst (λ (x : Option Term). Answers c.args.table.now x c.movement.result) (ap (λ o. law o (trees_at c.args.table.now c.args.ids.now)) (sym c.in-ZeroExt.is)) c.movement.ensures

pub returns-in-SignExt-clause-found : goal.returns-in-SignExt-clause-found
unfolding law
returns-in-SignExt-clause-found c =
    subst (λ (x : Option Term). Answers c.args.table.now x c.movement-in-SignExt.result) (ap (λ o. law o (trees_at c.args.table.now c.args.ids.now)) (sym c.in-SignExt.is)) c.movement-in-SignExt.ensures

pub returns-in-RotL-clause-found : goal.returns-in-RotL-clause-found
unfolding law
returns-in-RotL-clause-found c =
    subst (λ (x : Option Term). Answers c.args.table.now x c.movement-in-RotL.result) (ap (λ o. law o (trees_at c.args.table.now c.args.ids.now)) (sym c.in-RotL.is)) c.movement-in-RotL.ensures

pub returns-in-RotR-clause-found : goal.returns-in-RotR-clause-found
unfolding law
returns-in-RotR-clause-found c =
    subst (λ (x : Option Term). Answers c.args.table.now x c.movement-in-RotR.result) (ap (λ o. law o (trees_at c.args.table.now c.args.ids.now)) (sym c.in-RotR.is)) c.movement-in-RotR.ensures

pub returns-in-Select-clause-found : goal.returns-in-Select-clause-found
unfolding law
returns-in-Select-clause-found c =
    subst (λ (x : Option Term). IfOk c.selection.result (Answers c.selection.new.table x)) (ap (λ o. law o (trees_at c.args.table.now c.args.ids.now)) (sym c.in-Select.is)) c.selection.ensures.found

pub returns-in-Store-clause-found : goal.returns-in-Store-clause-found
unfolding law
returns-in-Store-clause-found c =
    subst (λ (x : Option Term). IfOk c.storing.result (Answers c.storing.new.table x)) (ap (λ o. law o (trees_at c.args.table.now c.args.ids.now)) (sym c.in-Store.is)) c.storing.ensures.found

pub returns-in_default-clause-found : goal.returns-in_default-clause-found
returns-in_default-clause-found c = answers-none c.args.table.now (law c.args.op (trees_at c.args.table.now c.args.ids.now)) (no-law c.args.op (trees_at c.args.table.now c.args.ids.now) (record {
  is_not = c.in_default.not-Not;
  is_and = c.in_default.not-And;
  is_or = c.in_default.not-Or;
  is_xor = c.in_default.not-Xor;
  is_implies = c.in_default.not-Implies;
  is_equal = c.in_default.not-Equal;
  is_distinct = c.in_default.not-Distinct;
  is_ite = c.in_default.not-Ite;
  is_neg = c.in_default.not-Neg;
  is_sub = c.in_default.not-Sub;
  is_add = c.in_default.not-Add;
  is_mul = c.in_default.not-Mul;
  is_div = c.in_default.not-Div;
  is_mod = c.in_default.not-Mod;
  is_le = c.in_default.not-Le;
  is_lt = c.in_default.not-Lt;
  is_extract = c.in_default.not-Extract;
  is_bv_not = c.in_default.not-BvNot;
  is_bv_neg = c.in_default.not-BvNeg;
  is_bv_and = c.in_default.not-BvAnd;
  is_bv_or = c.in_default.not-BvOr;
  is_bv_xor = c.in_default.not-BvXor;
  is_bv_add = c.in_default.not-BvAdd;
  is_bv_mul = c.in_default.not-BvMul;
  is_bv_sub = c.in_default.not-BvSub;
  is_bv_udiv = c.in_default.not-BvUdiv;
  is_bv_urem = c.in_default.not-BvUrem;
  is_bv_shl = c.in_default.not-BvShl;
  is_bv_lshr = c.in_default.not-BvLshr;
  is_bv_ashr = c.in_default.not-BvAshr;
  is_bv_comp = c.in_default.not-BvComp;
  is_bv_ult = c.in_default.not-BvUlt;
  is_bv_ule = c.in_default.not-BvUle;
  is_bv_slt = c.in_default.not-BvSlt;
  is_bv_sle = c.in_default.not-BvSle;
  is_zero_ext = c.in_default.not-ZeroExt;
  is_sign_ext = c.in_default.not-SignExt;
  is_rot_l = c.in_default.not-RotL;
  is_rot_r = c.in_default.not-RotR;
  is_select = c.in_default.not-Select;
  is_store = c.in_default.not-Store;
}))
