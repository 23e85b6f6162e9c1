-- Sums and products of operands, from a place on.
use Rattle.std.proofs.Common.{◌≡◌, ℕ, zero, suc, ◌+◌, ◌*◌, ◌^◌, ◌<◌, ◌≤◌, List, [], ◌∷◌, map, drop, length, get_or, refl, ap, sym, ◌∙◌, arith, add-one, drop-cons, true≢false, subst, nat_lt}
use Rattle.std.specs.Prelude.{ℤ, pos, negsuc, neg_ℤ, ◌+ℤ◌, ◌*ℤ◌, unsigned_abs, Bool, true, false, ◌||◌}
use Rattle.std.proofs.lemmas.Int.{ints, to_z-of_z, unsigned_abs-mul, fits_signed_from_abs}
use Rattle.std.proofs.Math.IntN.{*ℤ_comm, zero-*ℤ, *ℤ-zero, neg_ℤ-neg_ℤ}
use Rattle.std.proofs.Math.Nat.{mul_assoc}
use Rattle.std.specs.List.{list_any}
use Rattle.std.specs.Int.{w128, cast_signed, cast_unsigned, IsNonZero}
use Rattle.std.specs.Ordering.{int_eq}
use Rattle.std.proofs.lemmas.Bool.Decides.{nat_tests, Decides-int_eq, Decides-ltb}
use Rattle.std.proofs.lemmas.Nat.{mul-le}
use mir.Val.{SFits}
use Rattle.smt_terms.proofs.Tests.{both_false}
use Rattle.smt_values.specs.Operands.{is_zero}
use Rattle.smt_terms.specs.Values.{number}
use Rattle.smt_terms.specs.Operators.{sum_of, product_of}
use Rattle.smt_values.specs.Meaning.{scalar_value}
use Rattle.smt_values.specs.declared.scalar.Scalar.{Scalar}
use Rattle.smt_values.specs.declared.scalar.Scalar.TheVariants.{Truth}

-- the number of the operand at a place
abbrev pub number_at : List Scalar → ℕ → ℤ
number_at args i = number (scalar_value (get_or args i (Truth false)))

pub drop_more : (args : List Scalar) (i : ℕ) → i < length args → drop i args ≡ get_or args i (Truth false) ∷ drop (i + 1) args
drop_more args i lt = rw (add-one, drop-cons args i (Truth false))

pub sum_of-drop : (args : List Scalar) (i : ℕ) → i < length args → sum_of (map scalar_value (drop i args)) ≡ number_at args i +ℤ sum_of (map scalar_value (drop (i + 1) args))
sum_of-drop args i lt = ap (λ xs. sum_of (map scalar_value xs)) (drop_more args i lt)

pub product_of-drop : (args : List Scalar) (i : ℕ) → i < length args → product_of (map scalar_value (drop i args)) ≡ number_at args i *ℤ product_of (map scalar_value (drop (i + 1) args))
product_of-drop args i lt = ap (λ xs. product_of (map scalar_value xs)) (drop_more args i lt)

pub sum_step : (a n s t rest whole : ℤ) (up down above below : ℕ) → s +ℤ pos (up * 2 ^ 128) ≡ (a +ℤ n) +ℤ pos (down * 2 ^ 128) → t ≡ n +ℤ rest → (a +ℤ pos (above * 2 ^ 128)) +ℤ t ≡ whole +ℤ pos (below * 2 ^ 128)
    → (s +ℤ pos ((above + up) * 2 ^ 128)) +ℤ rest ≡ whole +ℤ pos ((below + down) * 2 ^ 128)
sum_step a n s t rest whole up down above below e f g = omega (arith, ints)

-- ---- products

neg-times : (a b : ℤ) → neg_ℤ a *ℤ b ≡ neg_ℤ (a *ℤ b)
neg-times (pos zero) b = zero-*ℤ b ∙ ap neg_ℤ (sym (zero-*ℤ b))
neg-times (pos (suc n)) (pos m) = refl
neg-times (pos (suc n)) (negsuc m) = sym (neg_ℤ-neg_ℤ (pos (suc n * suc m)))
neg-times (negsuc n) (pos m) = sym (neg_ℤ-neg_ℤ (pos (suc n * m)))
neg-times (negsuc n) (negsuc m) = refl

times-neg : (a b : ℤ) → a *ℤ neg_ℤ b ≡ neg_ℤ (a *ℤ b)
times-neg a b = *ℤ_comm a (neg_ℤ b) ∙ neg-times b a ∙ ap neg_ℤ (*ℤ_comm b a)

assoc_natural : (a b : ℕ) (z : ℤ) → (pos a *ℤ pos b) *ℤ z ≡ pos a *ℤ (pos b *ℤ z)
assoc_natural a b (pos c) = ap pos (mul_assoc a b c)
assoc_natural a b (negsuc c) =
    times-neg (pos a *ℤ pos b) (pos (suc c)) ∙ ap (λ n. neg_ℤ (pos n)) (mul_assoc a b (suc c))
    ∙ sym (times-neg (pos a) (pos b *ℤ pos (suc c))) ∙ ap (λ z. pos a *ℤ z) (sym (times-neg (pos b) (pos (suc c))))

assoc_first : (a : ℕ) (y z : ℤ) → (pos a *ℤ y) *ℤ z ≡ pos a *ℤ (y *ℤ z)
assoc_first a (pos b) z = assoc_natural a b z
assoc_first a (negsuc b) z =
    ap (λ x. x *ℤ z) (times-neg (pos a) (pos (suc b))) ∙ neg-times (pos a *ℤ pos (suc b)) z ∙ ap neg_ℤ (assoc_natural a (suc b) z)
    ∙ sym (times-neg (pos a) (pos (suc b) *ℤ z)) ∙ ap (λ x. pos a *ℤ x) (sym (neg-times (pos (suc b)) z))

times_assoc : (x y z : ℤ) → (x *ℤ y) *ℤ z ≡ x *ℤ (y *ℤ z)
times_assoc (pos a) y z = assoc_first a y z
times_assoc (negsuc a) y z =
    ap (λ x. x *ℤ z) (neg-times (pos (suc a)) y) ∙ neg-times (pos (suc a) *ℤ y) z ∙ ap neg_ℤ (assoc_first (suc a) y z)
    ∙ sym (neg-times (pos (suc a)) (y *ℤ z))

pub product_step : (p n t rest whole : ℤ) → t ≡ n *ℤ rest → p *ℤ t ≡ whole → (p *ℤ n) *ℤ rest ≡ whole
product_step p n t rest whole e f = times_assoc p n rest ∙ ap (λ x. p *ℤ x) (sym e) ∙ f

-- a zero among the operands, and none
pub product_zero : (args : List Scalar) → list_any is_zero args ≡ true → product_of (map scalar_value args) ≡ pos 0
product_zero [] h = absurd (true≢false (sym h))
product_zero (a ∷ bs) h = by (λ h. product_zero bs h) (is_zero a) refl h
  where
    by : (list_any is_zero bs ≡ true → product_of (map scalar_value bs) ≡ pos 0) → (c : Bool) → is_zero a ≡ c → (c || list_any is_zero bs) ≡ true → product_of (map scalar_value (a ∷ bs)) ≡ pos 0
    by rest true e h = ap (λ z. z *ℤ product_of (map scalar_value bs)) ((Decides-int_eq (number (scalar_value a)) (pos 0)).0 e) ∙ zero-*ℤ (product_of (map scalar_value bs))
    by rest false e h = ap (λ z. number (scalar_value a) *ℤ z) (rest h) ∙ *ℤ-zero (number (scalar_value a))

abs_some : (z : ℤ) → int_eq z (pos 0) ≡ false → 1 ≤ unsigned_abs z
abs_some (pos zero) h = absurd (true≢false h)
abs_some (pos (suc n)) h = omega arith
abs_some (negsuc n) h = omega arith

times_some : (m n k : ℕ) → k ≤ m → 1 ≤ n → k ≤ m * n
times_some m n k a b = omega (arith, mul-le k 1 m n a b)

pub product_some : (args : List Scalar) → list_any is_zero args ≡ false → 1 ≤ unsigned_abs (product_of (map scalar_value args))
product_some [] h = omega arith
product_some (a ∷ bs) h =
    let parts = both_false (is_zero a) (list_any is_zero bs) h in
    let n = number (scalar_value a) in
    let rest = product_of (map scalar_value bs) in
    subst (λ k. 1 ≤ k) (sym (unsigned_abs-mul n rest)) (times_some (unsigned_abs n) (unsigned_abs rest) 1 (abs_some n parts.0) (product_some bs parts.1))

pub none_later : (args : List Scalar) (i : ℕ) → list_any is_zero args ≡ false → list_any is_zero (drop i args) ≡ false
none_later args zero h = h
none_later [] (suc i) h = refl
none_later (a ∷ bs) (suc i) h = none_later bs i (both_false (is_zero a) (list_any is_zero bs) h).1

-- a product outside 128 bits stays outside
pub product_out : (p rest whole : ℤ) → (SFits w128 p → ⊥) → 1 ≤ unsigned_abs rest → p *ℤ rest ≡ whole → 2 ^ 127 ≤ unsigned_abs whole
product_out p rest whole h some e = by (nat_lt (unsigned_abs p) (2 ^ 127)) refl
  where
    by : (c : Bool) → nat_lt (unsigned_abs p) (2 ^ 127) ≡ c → 2 ^ 127 ≤ unsigned_abs whole
    by true t = absurd (h (fits_signed_from_abs w128 p ((Decides-ltb (unsigned_abs p) (2 ^ 127)).0 t)))
    by false t =
        let out : 2 ^ 127 ≤ unsigned_abs p = grind (arith, nat_tests) in
        subst (λ k. 2 ^ 127 ≤ k) (sym (unsigned_abs-mul p rest) ∙ ap unsigned_abs e) (times_some (unsigned_abs p) (unsigned_abs rest) (2 ^ 127) out some)

-- ---- divisors

pub some_number : (z : ℤ) → SFits w128 z → (z ≡ pos 0 → ⊥) → IsNonZero w128 (cast_signed w128 (cast_unsigned w128 z))
some_number z f h = subst (IsNonZero w128) (sym (to_z-of_z w128 z f)) (by z f h)
  where
    by : (z : ℤ) → SFits w128 z → (z ≡ pos 0 → ⊥) → IsNonZero w128 z
    by (pos zero) f h = absurd (h refl)
    by (pos (suc k)) f h = omega arith
    by (negsuc k) f h = omega (arith, f.sfits)
