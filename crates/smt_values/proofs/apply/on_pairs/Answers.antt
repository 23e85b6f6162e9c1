use Rattle.std.proofs.Common.{◌∙◌, ap, map}
use Rattle.smt_terms.specs.Operators.{op_value}
use Rattle.smt_terms.specs.BitVectors.{bvand, bvor, bvxor, bvadd, bvmul, bvsub, bvudiv, bvurem, bvsdiv, bvsrem, bvsmod, bvshl, bvlshr, bvashr, bvcomp, bvult, bvule, bvslt, bvsle}
use Rattle.smt_values.specs.Meaning.{scalar_value, scalar_sort}
use Rattle.smt_values.proofs.ApplyLaws.{takes_pair, pair_value, pair_truth, no_pair_left}
use Rattle.smt_values.proofs.apply.on_pairs.Goals as goal

pub pair_at-requires-clause-pair : goal.pair_at-requires-clause-pair
pair_at-requires-clause-pair c = takes_pair c.args.op c.args.args.now c.requires.pair c.requires.operands

pub unreachable-requires : goal.unreachable-requires
unreachable-requires c =
    no_pair_left c.args.op record { bvand = c.in_default.not-BvAnd; bvor = c.in_default.not-BvOr; bvxor = c.in_default.not-BvXor; bvadd = c.in_default.not-BvAdd; bvmul = c.in_default.not-BvMul; bvsub = c.in_default.not-BvSub; bvudiv = c.in_default.not-BvUdiv; bvurem = c.in_default.not-BvUrem; bvsdiv = c.in_default.not-BvSdiv; bvsrem = c.in_default.not-BvSrem; bvsmod = c.in_default.not-BvSmod; bvshl = c.in_default.not-BvShl; bvlshr = c.in_default.not-BvLshr; bvashr = c.in_default.not-BvAshr; bvcomp = c.in_default.not-BvComp; bvult = c.in_default.not-BvUlt; bvule = c.in_default.not-BvUle; bvslt = c.in_default.not-BvSlt; bvsle = c.in_default.not-BvSle } c.requires.pair

pub returns-in-BvAnd-clause-value : goal.returns-in-BvAnd-clause-value
unfolding op_value
returns-in-BvAnd-clause-value c b =
    ap (λ o. op_value b o (map scalar_sort c.args.args.now) (map scalar_value c.args.args.now)) c.in-BvAnd.is
    ∙ pair_value bvand c.args.args.now c.pair_at.result.0.width c.pair_at.result.0.bits c.pair_at.result.1.width c.pair_at.result.1.bits c.bvand.result.width c.pair_at.result.0.width c.bvand.result.bits c.scalar.result c.pair_at.ensures.first c.pair_at.ensures.second c.pair_at.ensures.width c.scalar.ensures c.bvand.ensures.width c.bvand.ensures.vector

pub returns-in-BvOr-clause-value : goal.returns-in-BvOr-clause-value
unfolding op_value
returns-in-BvOr-clause-value c b =
    ap (λ o. op_value b o (map scalar_sort c.args.args.now) (map scalar_value c.args.args.now)) c.in-BvOr.is
    ∙ pair_value bvor c.args.args.now c.pair_at.result.0.width c.pair_at.result.0.bits c.pair_at.result.1.width c.pair_at.result.1.bits c.bvor.result.width c.pair_at.result.0.width c.bvor.result.bits c.scalar-in-BvOr.result c.pair_at.ensures.first c.pair_at.ensures.second c.pair_at.ensures.width c.scalar-in-BvOr.ensures c.bvor.ensures.width c.bvor.ensures.vector

pub returns-in-BvXor-clause-value : goal.returns-in-BvXor-clause-value
unfolding op_value
returns-in-BvXor-clause-value c b =
    ap (λ o. op_value b o (map scalar_sort c.args.args.now) (map scalar_value c.args.args.now)) c.in-BvXor.is
    ∙ pair_value bvxor c.args.args.now c.pair_at.result.0.width c.pair_at.result.0.bits c.pair_at.result.1.width c.pair_at.result.1.bits c.bvxor.result.width c.pair_at.result.0.width c.bvxor.result.bits c.scalar-in-BvXor.result c.pair_at.ensures.first c.pair_at.ensures.second c.pair_at.ensures.width c.scalar-in-BvXor.ensures c.bvxor.ensures.width c.bvxor.ensures.vector

pub returns-in-BvAdd-clause-value : goal.returns-in-BvAdd-clause-value
unfolding op_value
returns-in-BvAdd-clause-value c b =
    ap (λ o. op_value b o (map scalar_sort c.args.args.now) (map scalar_value c.args.args.now)) c.in-BvAdd.is
    ∙ pair_value bvadd c.args.args.now c.pair_at.result.0.width c.pair_at.result.0.bits c.pair_at.result.1.width c.pair_at.result.1.bits c.bvadd.result.width c.pair_at.result.0.width c.bvadd.result.bits c.scalar-in-BvAdd.result c.pair_at.ensures.first c.pair_at.ensures.second c.pair_at.ensures.width c.scalar-in-BvAdd.ensures c.bvadd.ensures.width c.bvadd.ensures.vector

pub returns-in-BvMul-clause-value : goal.returns-in-BvMul-clause-value
unfolding op_value
returns-in-BvMul-clause-value c b =
    ap (λ o. op_value b o (map scalar_sort c.args.args.now) (map scalar_value c.args.args.now)) c.in-BvMul.is
    ∙ pair_value bvmul c.args.args.now c.pair_at.result.0.width c.pair_at.result.0.bits c.pair_at.result.1.width c.pair_at.result.1.bits c.bvmul.result.width c.pair_at.result.0.width c.bvmul.result.bits c.scalar-in-BvMul.result c.pair_at.ensures.first c.pair_at.ensures.second c.pair_at.ensures.width c.scalar-in-BvMul.ensures c.bvmul.ensures.width c.bvmul.ensures.vector

pub returns-in-BvSub-clause-value : goal.returns-in-BvSub-clause-value
unfolding op_value
returns-in-BvSub-clause-value c b =
    ap (λ o. op_value b o (map scalar_sort c.args.args.now) (map scalar_value c.args.args.now)) c.in-BvSub.is
    ∙ pair_value bvsub c.args.args.now c.pair_at.result.0.width c.pair_at.result.0.bits c.pair_at.result.1.width c.pair_at.result.1.bits c.bvsub.result.width c.pair_at.result.0.width c.bvsub.result.bits c.scalar-in-BvSub.result c.pair_at.ensures.first c.pair_at.ensures.second c.pair_at.ensures.width c.scalar-in-BvSub.ensures c.bvsub.ensures.width c.bvsub.ensures.vector

pub returns-in-BvUdiv-clause-value : goal.returns-in-BvUdiv-clause-value
unfolding op_value
returns-in-BvUdiv-clause-value c b =
    ap (λ o. op_value b o (map scalar_sort c.args.args.now) (map scalar_value c.args.args.now)) c.in-BvUdiv.is
    ∙ pair_value bvudiv c.args.args.now c.pair_at.result.0.width c.pair_at.result.0.bits c.pair_at.result.1.width c.pair_at.result.1.bits c.bvudiv.result.width c.pair_at.result.0.width c.bvudiv.result.bits c.scalar-in-BvUdiv.result c.pair_at.ensures.first c.pair_at.ensures.second c.pair_at.ensures.width c.scalar-in-BvUdiv.ensures c.bvudiv.ensures.width c.bvudiv.ensures.vector

pub returns-in-BvUrem-clause-value : goal.returns-in-BvUrem-clause-value
unfolding op_value
returns-in-BvUrem-clause-value c b =
    ap (λ o. op_value b o (map scalar_sort c.args.args.now) (map scalar_value c.args.args.now)) c.in-BvUrem.is
    ∙ pair_value bvurem c.args.args.now c.pair_at.result.0.width c.pair_at.result.0.bits c.pair_at.result.1.width c.pair_at.result.1.bits c.bvurem.result.width c.pair_at.result.0.width c.bvurem.result.bits c.scalar-in-BvUrem.result c.pair_at.ensures.first c.pair_at.ensures.second c.pair_at.ensures.width c.scalar-in-BvUrem.ensures c.bvurem.ensures.width c.bvurem.ensures.vector

pub returns-in-BvSdiv-clause-value : goal.returns-in-BvSdiv-clause-value
unfolding op_value
returns-in-BvSdiv-clause-value c b =
    ap (λ o. op_value b o (map scalar_sort c.args.args.now) (map scalar_value c.args.args.now)) c.in-BvSdiv.is
    ∙ pair_value bvsdiv c.args.args.now c.pair_at.result.0.width c.pair_at.result.0.bits c.pair_at.result.1.width c.pair_at.result.1.bits c.bvsdiv.result.width c.pair_at.result.0.width c.bvsdiv.result.bits c.scalar-in-BvSdiv.result c.pair_at.ensures.first c.pair_at.ensures.second c.pair_at.ensures.width c.scalar-in-BvSdiv.ensures c.bvsdiv.ensures.width c.bvsdiv.ensures.vector

pub returns-in-BvSrem-clause-value : goal.returns-in-BvSrem-clause-value
unfolding op_value
returns-in-BvSrem-clause-value c b =
    ap (λ o. op_value b o (map scalar_sort c.args.args.now) (map scalar_value c.args.args.now)) c.in-BvSrem.is
    ∙ pair_value bvsrem c.args.args.now c.pair_at.result.0.width c.pair_at.result.0.bits c.pair_at.result.1.width c.pair_at.result.1.bits c.bvsrem.result.width c.pair_at.result.0.width c.bvsrem.result.bits c.scalar-in-BvSrem.result c.pair_at.ensures.first c.pair_at.ensures.second c.pair_at.ensures.width c.scalar-in-BvSrem.ensures c.bvsrem.ensures.width c.bvsrem.ensures.vector

pub returns-in-BvSmod-clause-value : goal.returns-in-BvSmod-clause-value
unfolding op_value
returns-in-BvSmod-clause-value c b =
    ap (λ o. op_value b o (map scalar_sort c.args.args.now) (map scalar_value c.args.args.now)) c.in-BvSmod.is
    ∙ pair_value bvsmod c.args.args.now c.pair_at.result.0.width c.pair_at.result.0.bits c.pair_at.result.1.width c.pair_at.result.1.bits c.bvsmod.result.width c.pair_at.result.0.width c.bvsmod.result.bits c.scalar-in-BvSmod.result c.pair_at.ensures.first c.pair_at.ensures.second c.pair_at.ensures.width c.scalar-in-BvSmod.ensures c.bvsmod.ensures.width c.bvsmod.ensures.vector

pub returns-in-BvShl-clause-value : goal.returns-in-BvShl-clause-value
unfolding op_value
returns-in-BvShl-clause-value c b =
    ap (λ o. op_value b o (map scalar_sort c.args.args.now) (map scalar_value c.args.args.now)) c.in-BvShl.is
    ∙ pair_value bvshl c.args.args.now c.pair_at.result.0.width c.pair_at.result.0.bits c.pair_at.result.1.width c.pair_at.result.1.bits c.bvshl.result.width c.pair_at.result.0.width c.bvshl.result.bits c.scalar-in-BvShl.result c.pair_at.ensures.first c.pair_at.ensures.second c.pair_at.ensures.width c.scalar-in-BvShl.ensures c.bvshl.ensures.width c.bvshl.ensures.vector

pub returns-in-BvLshr-clause-value : goal.returns-in-BvLshr-clause-value
unfolding op_value
returns-in-BvLshr-clause-value c b =
    ap (λ o. op_value b o (map scalar_sort c.args.args.now) (map scalar_value c.args.args.now)) c.in-BvLshr.is
    ∙ pair_value bvlshr c.args.args.now c.pair_at.result.0.width c.pair_at.result.0.bits c.pair_at.result.1.width c.pair_at.result.1.bits c.bvlshr.result.width c.pair_at.result.0.width c.bvlshr.result.bits c.scalar-in-BvLshr.result c.pair_at.ensures.first c.pair_at.ensures.second c.pair_at.ensures.width c.scalar-in-BvLshr.ensures c.bvlshr.ensures.width c.bvlshr.ensures.vector

pub returns-in-BvAshr-clause-value : goal.returns-in-BvAshr-clause-value
unfolding op_value
returns-in-BvAshr-clause-value c b =
    ap (λ o. op_value b o (map scalar_sort c.args.args.now) (map scalar_value c.args.args.now)) c.in-BvAshr.is
    ∙ pair_value bvashr c.args.args.now c.pair_at.result.0.width c.pair_at.result.0.bits c.pair_at.result.1.width c.pair_at.result.1.bits c.bvashr.result.width c.pair_at.result.0.width c.bvashr.result.bits c.scalar-in-BvAshr.result c.pair_at.ensures.first c.pair_at.ensures.second c.pair_at.ensures.width c.scalar-in-BvAshr.ensures c.bvashr.ensures.width c.bvashr.ensures.vector

pub returns-in-BvComp-clause-value : goal.returns-in-BvComp-clause-value
unfolding op_value
returns-in-BvComp-clause-value c b =
    ap (λ o. op_value b o (map scalar_sort c.args.args.now) (map scalar_value c.args.args.now)) c.in-BvComp.is
    ∙ pair_value bvcomp c.args.args.now c.pair_at.result.0.width c.pair_at.result.0.bits c.pair_at.result.1.width c.pair_at.result.1.bits c.bvcomp.result.width 1 c.bvcomp.result.bits c.scalar-in-BvComp.result c.pair_at.ensures.first c.pair_at.ensures.second c.pair_at.ensures.width c.scalar-in-BvComp.ensures c.bvcomp.ensures.width c.bvcomp.ensures.vector

pub returns-in-BvUlt-clause-value : goal.returns-in-BvUlt-clause-value
unfolding op_value
returns-in-BvUlt-clause-value c b =
    ap (λ o. op_value b o (map scalar_sort c.args.args.now) (map scalar_value c.args.args.now)) c.in-BvUlt.is
    ∙ pair_truth bvult c.args.args.now c.pair_at.result.0.width c.pair_at.result.0.bits c.pair_at.result.1.width c.pair_at.result.1.bits c.bvult.result c.pair_at.ensures.first c.pair_at.ensures.second c.pair_at.ensures.width c.bvult.ensures

pub returns-in-BvUle-clause-value : goal.returns-in-BvUle-clause-value
unfolding op_value
returns-in-BvUle-clause-value c b =
    ap (λ o. op_value b o (map scalar_sort c.args.args.now) (map scalar_value c.args.args.now)) c.in-BvUle.is
    ∙ pair_truth bvule c.args.args.now c.pair_at.result.0.width c.pair_at.result.0.bits c.pair_at.result.1.width c.pair_at.result.1.bits c.bvule.result c.pair_at.ensures.first c.pair_at.ensures.second c.pair_at.ensures.width c.bvule.ensures

pub returns-in-BvSlt-clause-value : goal.returns-in-BvSlt-clause-value
unfolding op_value
returns-in-BvSlt-clause-value c b =
    ap (λ o. op_value b o (map scalar_sort c.args.args.now) (map scalar_value c.args.args.now)) c.in-BvSlt.is
    ∙ pair_truth bvslt c.args.args.now c.pair_at.result.0.width c.pair_at.result.0.bits c.pair_at.result.1.width c.pair_at.result.1.bits c.bvslt.result c.pair_at.ensures.first c.pair_at.ensures.second c.pair_at.ensures.width c.bvslt.ensures

pub returns-in-BvSle-clause-value : goal.returns-in-BvSle-clause-value
unfolding op_value
returns-in-BvSle-clause-value c b =
    ap (λ o. op_value b o (map scalar_sort c.args.args.now) (map scalar_value c.args.args.now)) c.in-BvSle.is
    ∙ pair_truth bvsle c.args.args.now c.pair_at.result.0.width c.pair_at.result.0.bits c.pair_at.result.1.width c.pair_at.result.1.bits c.bvsle.result c.pair_at.ensures.first c.pair_at.ensures.second c.pair_at.ensures.width c.bvsle.ensures
