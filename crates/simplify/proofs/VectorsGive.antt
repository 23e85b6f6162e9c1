-- The laws of the operators on bit vectors give terms of the same value.
use Rattle.std.proofs.Common.{◌≡◌, ℕ, ◌-◌, ◌^◌, ◌<◌, true, [], ◌∷◌, length, pow_pos, refl, ap, sym, ◌∙◌, subst, arith}
use Rattle.std.specs.Prelude.{IfSome, unwrap_or}
use Rattle.smt_terms.specs.declared.op.Op.{Op}
use Rattle.smt_terms.specs.declared.op.Op.TheVariants.{BvAnd, BvOr, BvXor, BvAdd, BvMul, BvSub, BvUdiv, BvUrem, BvShl, BvLshr, BvAshr, BvComp}
use Rattle.smt_terms.specs.Sorts.{bool, bit_vector}
use Rattle.smt_terms.specs.Term.{op, Term, apply, none, ◌⨾◌}
use Rattle.smt_terms.specs.BitVectors.{BitVector, nat2bv, zeros, ones, bvand, bvor, bvxor, bvsub}
use Rattle.smt_terms.specs.Constants.{bits_term}
use Rattle.smt_terms.specs.Equal.{term_eq}
use Rattle.smt_terms.specs.Laws.{IsEnv}
use Rattle.smt_terms.specs.Models.{Model, IsModel}
use Rattle.smt_terms.specs.Operators.{op_value}
use Rattle.smt_terms.specs.Rank.{width}
use Rattle.smt_terms.specs.Val.{Env, val}
use Rattle.smt_terms.specs.Values.{bits_of}
use Rattle.smt_terms.proofs.BitLaws.{nat2bv-zero, nat2bv-ones, and-zeros, zeros-and, and-ones, ones-and, and-itself, or-zeros, zeros-or, or-ones, ones-or, or-itself, xor-itself, xor-zeros, zeros-xor, add-none, none-add, sub-none, sub-itself, mul-none, none-mul, mul-one_bits, one-mul_bits, udiv-none, udiv-one, urem-none, urem-one, shl-none, lshr-none, ashr-none}
use Rattle.smt_terms.proofs.Equal.{Decides-term_eq}
use Rattle.smt_terms.proofs.Same.{Decides-bits_eq}
use Rattle.simplify.specs.Folding.{is_bits, is_ones}
use Rattle.simplify.specs.Vectors as vectors
use Rattle.simplify.proofs.Gives.{Operand, Gives, by_if, gives_bits, bits_operand, vector_sort, width_value, bits_value, zero_value, ones_value}

abbrev pub node : Op → Term → Term → Term
node o s t = apply (op o) (s ⨾ t ⨾ none)

pub width_of-vector : (w : ℕ) (t : Term) → Operand (bit_vector w) t → vectors.width_of t ≡ w
width_of-vector w t o = ap (λ r. width (unwrap_or r bool)) o.has

zero_small : (w : ℕ) → 0 < 2 ^ w
zero_small w = pow_pos w

zero_operand : (w : ℕ) (t : Term) → Operand (bit_vector w) t → Operand (bit_vector w) (vectors.zero_like t)
zero_operand w t o = subst (λ u. Operand (bit_vector w) (bits_term u 0)) (sym (width_of-vector w t o)) (bits_operand w 0 (vector_sort w t o) (zero_small w))

zero_like-value : (w : ℕ) (t : Term) → Operand (bit_vector w) t → (m : Model) (e : Env) → bits_of (val m (vectors.zero_like t) e) ≡ zeros w
unfolding op_value
zero_like-value w t o m e = ap (λ u. nat2bv u 0) (width_of-vector w t o) ∙ nat2bv-zero w

ones_operand : (w : ℕ) (t : Term) → Operand (bit_vector w) t → Operand (bit_vector w) (vectors.ones_like t)
ones_operand w t o =
    let some : 0 < 2 ^ w = pow_pos w in
    let small : 2 ^ w - 1 < 2 ^ w = omega arith in
    subst (λ u. Operand (bit_vector w) (bits_term u (2 ^ u - 1))) (sym (width_of-vector w t o)) (bits_operand w (2 ^ w - 1) (vector_sort w t o) small)

ones_like-value : (w : ℕ) (t : Term) → Operand (bit_vector w) t → (m : Model) (e : Env) → bits_of (val m (vectors.ones_like t) e) ≡ ones w
unfolding op_value
ones_like-value w t o m e = ap (λ u. nat2bv u (2 ^ u - 1)) (width_of-vector w t o) ∙ nat2bv-ones w

module _ (w : ℕ) (s t : Term) (p : Operand (bit_vector w) s) (q : Operand (bit_vector w) t) where
  -- the bits of both operands, and equal ones
  abbrev B : (m : Model) → Env → Term → BitVector
  B m e u = bits_of (val m u e)

  equal_bits : term_eq s t ≡ true → (m : Model) (e : Env) → B m e t ≡ B m e s
  equal_bits h m e = ap (λ u. B m e u) (sym ((Decides-term_eq s t).0 h))

  equal_widths : (m : Model) (e : Env) → IsModel m → IsEnv m.sizes e → length (B m e t) ≡ length (B m e s)
  equal_widths m e model env = width_value w t q m e model env ∙ sym (width_value w s p m e model env)

  pub bit_and_gives : IfSome (vectors.bit_and s t) (λ r. Gives (bit_vector w) (node BvAnd s t) r)
  unfolding op_value
  bit_and_gives =
      by_if (λ r. Gives (bit_vector w) (node BvAnd s t) r) (is_bits 0 s) s _ (λ h. gives_bits w (node BvAnd s t) s p (λ m e model env.
      let z = zero_value w s p m e model env h in (λ i. bvand (z i) (B m e t)) ∙ and-zeros w (B m e t) (width_value w t q m e model env) ∙ sym z))
      (by_if (λ r. Gives (bit_vector w) (node BvAnd s t) r) (is_bits 0 t) t _ (λ h. gives_bits w (node BvAnd s t) t q (λ m e model env.
      let z = zero_value w t q m e model env h in (λ i. bvand (B m e s) (z i)) ∙ zeros-and w (B m e s) (width_value w s p m e model env) ∙ sym z))
      (by_if (λ r. Gives (bit_vector w) (node BvAnd s t) r) (is_ones s) t _ (λ h. gives_bits w (node BvAnd s t) t q (λ m e model env.
      let z = ones_value w s p m e model env h in (λ i. bvand (z i) (B m e t)) ∙ and-ones w (B m e t) (width_value w t q m e model env)))
      (by_if (λ r. Gives (bit_vector w) (node BvAnd s t) r) (is_ones t) s _ (λ h. gives_bits w (node BvAnd s t) s p (λ m e model env.
      let z = ones_value w t q m e model env h in (λ i. bvand (B m e s) (z i)) ∙ ones-and w (B m e s) (width_value w s p m e model env)))
      (by_if (λ r. Gives (bit_vector w) (node BvAnd s t) r) (term_eq s t) s _ (λ h. gives_bits w (node BvAnd s t) s p (λ m e model env.
      (λ i. bvand (B m e s) (equal_bits h m e i)) ∙ and-itself (B m e s)))
      tt))))

  pub bit_or_gives : IfSome (vectors.bit_or s t) (λ r. Gives (bit_vector w) (node BvOr s t) r)
  unfolding op_value
  bit_or_gives =
      by_if (λ r. Gives (bit_vector w) (node BvOr s t) r) (is_ones s) s _ (λ h. gives_bits w (node BvOr s t) s p (λ m e model env.
      let z = ones_value w s p m e model env h in (λ i. bvor (z i) (B m e t)) ∙ or-ones w (B m e t) (width_value w t q m e model env) ∙ sym z))
      (by_if (λ r. Gives (bit_vector w) (node BvOr s t) r) (is_ones t) t _ (λ h. gives_bits w (node BvOr s t) t q (λ m e model env.
      let z = ones_value w t q m e model env h in (λ i. bvor (B m e s) (z i)) ∙ ones-or w (B m e s) (width_value w s p m e model env) ∙ sym z))
      (by_if (λ r. Gives (bit_vector w) (node BvOr s t) r) (is_bits 0 s) t _ (λ h. gives_bits w (node BvOr s t) t q (λ m e model env.
      let z = zero_value w s p m e model env h in (λ i. bvor (z i) (B m e t)) ∙ or-zeros w (B m e t) (width_value w t q m e model env)))
      (by_if (λ r. Gives (bit_vector w) (node BvOr s t) r) (is_bits 0 t) s _ (λ h. gives_bits w (node BvOr s t) s p (λ m e model env.
      let z = zero_value w t q m e model env h in (λ i. bvor (B m e s) (z i)) ∙ zeros-or w (B m e s) (width_value w s p m e model env)))
      (by_if (λ r. Gives (bit_vector w) (node BvOr s t) r) (term_eq s t) s _ (λ h. gives_bits w (node BvOr s t) s p (λ m e model env.
      (λ i. bvor (B m e s) (equal_bits h m e i)) ∙ or-itself (B m e s)))
      tt))))

  pub bit_exclusive_gives : IfSome (vectors.bit_exclusive s t) (λ r. Gives (bit_vector w) (node BvXor s t) r)
  unfolding op_value
  bit_exclusive_gives =
      by_if (λ r. Gives (bit_vector w) (node BvXor s t) r) (term_eq s t) (vectors.zero_like s) _ (λ h. gives_bits w (node BvXor s t) (vectors.zero_like s) (zero_operand w s p) (λ m e model env.
      (λ i. bvxor (B m e s) (equal_bits h m e i)) ∙ xor-itself (B m e s) ∙ ap zeros (width_value w s p m e model env) ∙ sym (zero_like-value w s p m e)))
      (by_if (λ r. Gives (bit_vector w) (node BvXor s t) r) (is_bits 0 s) t _ (λ h. gives_bits w (node BvXor s t) t q (λ m e model env.
      let z = zero_value w s p m e model env h in (λ i. bvxor (z i) (B m e t)) ∙ xor-zeros w (B m e t) (width_value w t q m e model env)))
      (by_if (λ r. Gives (bit_vector w) (node BvXor s t) r) (is_bits 0 t) s _ (λ h. gives_bits w (node BvXor s t) s p (λ m e model env.
      let z = zero_value w t q m e model env h in (λ i. bvxor (B m e s) (z i)) ∙ zeros-xor w (B m e s) (width_value w s p m e model env)))
      tt))

  pub addition_gives : IfSome (vectors.addition s t) (λ r. Gives (bit_vector w) (node BvAdd s t) r)
  unfolding op_value
  addition_gives =
      by_if (λ r. Gives (bit_vector w) (node BvAdd s t) r) (is_bits 0 s) t _ (λ h. gives_bits w (node BvAdd s t) t q (λ m e model env.
      none-add (B m e s) (B m e t) (equal_widths m e model env) (bits_value w s p m e model env 0 h)))
      (by_if (λ r. Gives (bit_vector w) (node BvAdd s t) r) (is_bits 0 t) s _ (λ h. gives_bits w (node BvAdd s t) s p (λ m e model env.
      add-none (B m e s) (B m e t) (bits_value w t q m e model env 0 h)))
      tt)

  pub subtraction_gives : IfSome (vectors.subtraction s t) (λ r. Gives (bit_vector w) (node BvSub s t) r)
  unfolding op_value
  subtraction_gives =
      by_if (λ r. Gives (bit_vector w) (node BvSub s t) r) (is_bits 0 t) s _ (λ h. gives_bits w (node BvSub s t) s p (λ m e model env.
      sub-none (B m e s) (B m e t) (bits_value w t q m e model env 0 h)))
      (by_if (λ r. Gives (bit_vector w) (node BvSub s t) r) (term_eq s t) (vectors.zero_like s) _ (λ h. gives_bits w (node BvSub s t) (vectors.zero_like s) (zero_operand w s p) (λ m e model env.
      (λ i. bvsub (B m e s) (equal_bits h m e i)) ∙ sub-itself (B m e s) ∙ ap zeros (width_value w s p m e model env) ∙ sym (zero_like-value w s p m e)))
      tt)

  pub multiplication_gives : IfSome (vectors.multiplication s t) (λ r. Gives (bit_vector w) (node BvMul s t) r)
  unfolding op_value
  multiplication_gives =
      by_if (λ r. Gives (bit_vector w) (node BvMul s t) r) (is_bits 0 s) s _ (λ h. gives_bits w (node BvMul s t) s p (λ m e model env.
      none-mul (B m e s) (B m e t) (bits_value w s p m e model env 0 h)))
      (by_if (λ r. Gives (bit_vector w) (node BvMul s t) r) (is_bits 0 t) t _ (λ h. gives_bits w (node BvMul s t) t q (λ m e model env.
      mul-none (B m e s) (B m e t) (equal_widths m e model env) (bits_value w t q m e model env 0 h)))
      (by_if (λ r. Gives (bit_vector w) (node BvMul s t) r) (is_bits 1 s) t _ (λ h. gives_bits w (node BvMul s t) t q (λ m e model env.
      one-mul_bits (B m e s) (B m e t) (equal_widths m e model env) (bits_value w s p m e model env 1 h)))
      (by_if (λ r. Gives (bit_vector w) (node BvMul s t) r) (is_bits 1 t) s _ (λ h. gives_bits w (node BvMul s t) s p (λ m e model env.
      mul-one_bits (B m e s) (B m e t) (bits_value w t q m e model env 1 h)))
      tt)))

  pub division_gives : IfSome (vectors.division s t) (λ r. Gives (bit_vector w) (node BvUdiv s t) r)
  unfolding op_value
  division_gives =
      by_if (λ r. Gives (bit_vector w) (node BvUdiv s t) r) (is_bits 0 t) (vectors.ones_like t) _ (λ h. gives_bits w (node BvUdiv s t) (vectors.ones_like t) (ones_operand w t q) (λ m e model env.
      udiv-none (B m e s) (B m e t) (bits_value w t q m e model env 0 h) ∙ ap ones (width_value w s p m e model env) ∙ sym (ones_like-value w t q m e)))
      (by_if (λ r. Gives (bit_vector w) (node BvUdiv s t) r) (is_bits 1 t) s _ (λ h. gives_bits w (node BvUdiv s t) s p (λ m e model env.
      udiv-one (B m e s) (B m e t) (bits_value w t q m e model env 1 h)))
      tt)

  pub remainder_gives : IfSome (vectors.remainder s t) (λ r. Gives (bit_vector w) (node BvUrem s t) r)
  unfolding op_value
  remainder_gives =
      by_if (λ r. Gives (bit_vector w) (node BvUrem s t) r) (is_bits 0 t) s _ (λ h. gives_bits w (node BvUrem s t) s p (λ m e model env.
      urem-none (B m e s) (B m e t) (bits_value w t q m e model env 0 h)))
      (by_if (λ r. Gives (bit_vector w) (node BvUrem s t) r) (is_bits 1 t) (vectors.zero_like t) _ (λ h. gives_bits w (node BvUrem s t) (vectors.zero_like t) (zero_operand w t q) (λ m e model env.
      urem-one (B m e s) (B m e t) (bits_value w t q m e model env 1 h) ∙ ap zeros (width_value w s p m e model env) ∙ sym (zero_like-value w t q m e)))
      tt)

  pub shift_left_gives : IfSome (vectors.shift s t) (λ r. Gives (bit_vector w) (node BvShl s t) r)
  unfolding op_value
  shift_left_gives = by_if (λ r. Gives (bit_vector w) (node BvShl s t) r) (is_bits 0 t) s _ (λ h. gives_bits w (node BvShl s t) s p (λ m e model env. shl-none (B m e s) (B m e t) (bits_value w t q m e model env 0 h))) tt

  pub shift_right_gives : IfSome (vectors.shift s t) (λ r. Gives (bit_vector w) (node BvLshr s t) r)
  unfolding op_value
  shift_right_gives = by_if (λ r. Gives (bit_vector w) (node BvLshr s t) r) (is_bits 0 t) s _ (λ h. gives_bits w (node BvLshr s t) s p (λ m e model env. lshr-none (B m e s) (B m e t) (bits_value w t q m e model env 0 h))) tt

  pub shift_signed_gives : IfSome (vectors.shift s t) (λ r. Gives (bit_vector w) (node BvAshr s t) r)
  unfolding op_value
  shift_signed_gives = by_if (λ r. Gives (bit_vector w) (node BvAshr s t) r) (is_bits 0 t) s _ (λ h. gives_bits w (node BvAshr s t) s p (λ m e model env. ashr-none (B m e s) (B m e t) (bits_value w t q m e model env 0 h))) tt

  pub comparison_gives : IfSome (vectors.comparison s t) (λ r. Gives (bit_vector 1) (node BvComp s t) r)
  unfolding op_value
  comparison_gives = by_if (λ r. Gives (bit_vector 1) (node BvComp s t) r) (term_eq s t) (bits_term 1 1) _ (λ h. gives_bits 1 (node BvComp s t) (bits_term 1 1) one_bit (λ m e model env.
      ap (λ b. b ∷ []) ((Decides-bits_eq (B m e s) (B m e t)).1 (sym (equal_bits h m e))))) tt
    where
      one_bit : Operand (bit_vector 1) (bits_term 1 1)
      one_bit = let small : 1 < 2 ^ 1 = omega arith in bits_operand 1 1 refl small
