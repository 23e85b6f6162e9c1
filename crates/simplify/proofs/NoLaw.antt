-- Operators without a law.
use Rattle.std.proofs.Common.{◌≡◌, ℕ, List, None, refl}
use Rattle.smt_terms.specs.declared.op.Op.{Op}
use Rattle.smt_terms.specs.declared.op.Op.TheVariants.{Not, And, Or, Xor, Implies, Equal, Distinct, Ite, Neg, Sub, Add, Mul, Div, Mod, Le, Lt, Extract, BvNot, BvNeg, BvAnd, BvOr, BvXor, BvAdd, BvMul, BvSub, BvUdiv, BvUrem, BvShl, BvLshr, BvAshr, BvComp, BvUlt, BvUle, BvSlt, BvSle, ZeroExt, SignExt, RotL, RotR, Select, Store}
use Rattle.smt_terms.specs.Term.{Term}
use Rattle.simplify.specs.Simplify.{law}

-- none of those that have one
pub record HasNoLaw (o : Op) : Type 0 where
  pub is_not : o ≡ Not → ⊥
  pub is_and : o ≡ And → ⊥
  pub is_or : o ≡ Or → ⊥
  pub is_xor : o ≡ Xor → ⊥
  pub is_implies : o ≡ Implies → ⊥
  pub is_equal : o ≡ Equal → ⊥
  pub is_distinct : o ≡ Distinct → ⊥
  pub is_ite : o ≡ Ite → ⊥
  pub is_neg : o ≡ Neg → ⊥
  pub is_sub : o ≡ Sub → ⊥
  pub is_add : o ≡ Add → ⊥
  pub is_mul : o ≡ Mul → ⊥
  pub is_div : o ≡ Div → ⊥
  pub is_mod : o ≡ Mod → ⊥
  pub is_le : o ≡ Le → ⊥
  pub is_lt : o ≡ Lt → ⊥
  pub is_extract : (high low : ℕ) → o ≡ Extract high low → ⊥
  pub is_bv_not : o ≡ BvNot → ⊥
  pub is_bv_neg : o ≡ BvNeg → ⊥
  pub is_bv_and : o ≡ BvAnd → ⊥
  pub is_bv_or : o ≡ BvOr → ⊥
  pub is_bv_xor : o ≡ BvXor → ⊥
  pub is_bv_add : o ≡ BvAdd → ⊥
  pub is_bv_mul : o ≡ BvMul → ⊥
  pub is_bv_sub : o ≡ BvSub → ⊥
  pub is_bv_udiv : o ≡ BvUdiv → ⊥
  pub is_bv_urem : o ≡ BvUrem → ⊥
  pub is_bv_shl : o ≡ BvShl → ⊥
  pub is_bv_lshr : o ≡ BvLshr → ⊥
  pub is_bv_ashr : o ≡ BvAshr → ⊥
  pub is_bv_comp : o ≡ BvComp → ⊥
  pub is_bv_ult : o ≡ BvUlt → ⊥
  pub is_bv_ule : o ≡ BvUle → ⊥
  pub is_bv_slt : o ≡ BvSlt → ⊥
  pub is_bv_sle : o ≡ BvSle → ⊥
  pub is_zero_ext : (i : ℕ) → o ≡ ZeroExt i → ⊥
  pub is_sign_ext : (i : ℕ) → o ≡ SignExt i → ⊥
  pub is_rot_l : (i : ℕ) → o ≡ RotL i → ⊥
  pub is_rot_r : (i : ℕ) → o ≡ RotR i → ⊥
  pub is_select : o ≡ Select → ⊥
  pub is_store : o ≡ Store → ⊥

pub no-law : (o : Op) (ts : List Term) → HasNoLaw o → law o ts ≡ None
unfolding law
no-law Not ts h = absurd (h.is_not refl)
no-law And ts h = absurd (h.is_and refl)
no-law Or ts h = absurd (h.is_or refl)
no-law Xor ts h = absurd (h.is_xor refl)
no-law Implies ts h = absurd (h.is_implies refl)
no-law Equal ts h = absurd (h.is_equal refl)
no-law Distinct ts h = absurd (h.is_distinct refl)
no-law Ite ts h = absurd (h.is_ite refl)
no-law Neg ts h = absurd (h.is_neg refl)
no-law Sub ts h = absurd (h.is_sub refl)
no-law Add ts h = absurd (h.is_add refl)
no-law Mul ts h = absurd (h.is_mul refl)
no-law Div ts h = absurd (h.is_div refl)
no-law Mod ts h = absurd (h.is_mod refl)
no-law Le ts h = absurd (h.is_le refl)
no-law Lt ts h = absurd (h.is_lt refl)
no-law (Extract high low) ts h = absurd (h.is_extract high low refl)
no-law BvNot ts h = absurd (h.is_bv_not refl)
no-law BvNeg ts h = absurd (h.is_bv_neg refl)
no-law BvAnd ts h = absurd (h.is_bv_and refl)
no-law BvOr ts h = absurd (h.is_bv_or refl)
no-law BvXor ts h = absurd (h.is_bv_xor refl)
no-law BvAdd ts h = absurd (h.is_bv_add refl)
no-law BvMul ts h = absurd (h.is_bv_mul refl)
no-law BvSub ts h = absurd (h.is_bv_sub refl)
no-law BvUdiv ts h = absurd (h.is_bv_udiv refl)
no-law BvUrem ts h = absurd (h.is_bv_urem refl)
no-law BvShl ts h = absurd (h.is_bv_shl refl)
no-law BvLshr ts h = absurd (h.is_bv_lshr refl)
no-law BvAshr ts h = absurd (h.is_bv_ashr refl)
no-law BvComp ts h = absurd (h.is_bv_comp refl)
no-law BvUlt ts h = absurd (h.is_bv_ult refl)
no-law BvUle ts h = absurd (h.is_bv_ule refl)
no-law BvSlt ts h = absurd (h.is_bv_slt refl)
no-law BvSle ts h = absurd (h.is_bv_sle refl)
no-law (ZeroExt i) ts h = absurd (h.is_zero_ext i refl)
no-law (SignExt i) ts h = absurd (h.is_sign_ext i refl)
no-law (RotL i) ts h = absurd (h.is_rot_l i refl)
no-law (RotR i) ts h = absurd (h.is_rot_r i refl)
no-law Select ts h = absurd (h.is_select refl)
no-law Store ts h = absurd (h.is_store refl)
no-law _ ts h = refl
