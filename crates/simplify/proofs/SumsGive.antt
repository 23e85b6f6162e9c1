-- The laws of `+` and `*` over all their operands, and of `distinct`, give terms of the same value.
use Rattle.std.proofs.Common.{◌≡◌, ℕ, zero, suc, ◌^◌, ◌<◌, ◌≤◌, Bool, true, false, not, cond, inl, inr, ℤ, pos, ◌+ℤ◌, ◌*ℤ◌, nat_abs, List, [], ◌∷◌, ◌++◌, replicate, Option, Some, None, refl, ap, sym, ◌∙◌, subst, arith}
use Rattle.std.specs.Prelude.{IfSome, filter, is_some, neg_ℤ, negsuc, ◌*◌}
use Rattle.std.specs.List.{list_any}
use Rattle.std.specs.Ordering.{int_eq}
use Rattle.std.proofs.Math.IntN.{+ℤ_assoc, +ℤ_comm, +ℤ_idl, +ℤ_idr, *ℤ_comm, *ℤ-one, *ℤ-zero, zero-*ℤ, one}
use Rattle.std.proofs.Math.Nat.{mul_assoc, mul-zero, zero-mul}
use Rattle.std.proofs.lemmas.Bool.{ltb-true}
use Rattle.std.proofs.lemmas.Bool.Decides.{Decides-int_eq}
use Rattle.smt_terms.specs.declared.op.Op.{Op}
use Rattle.smt_terms.specs.declared.op.Op.TheVariants.{Add, Mul}
use Rattle.smt_terms.specs.Sorts.{bool, int, bit_vector}
use Rattle.smt_terms.specs.Term.{op, Term, apply, Terms, none, ◌⨾◌, list, terms}
use Rattle.smt_terms.specs.Constants.{whole_term, literal_value, constant_value, is_constant}
use Rattle.smt_terms.specs.Models.{Model}
use Rattle.smt_terms.specs.Operators.{op_value, sum_of, product_of}
use Rattle.smt_terms.specs.Rank.{shape, width, most_bits}
use Rattle.smt_terms.specs.Takes.{Takes}
use Rattle.smt_terms.specs.Val.{Env, val, vals, within_range}
use Rattle.smt_terms.specs.Values.{Value, number}
use Rattle.smt_terms.proofs.ConstantTerms.{IsConstant, a_truth, a_whole, a_vector, constants, truth_sort, vector_sort}
use Rattle.smt_terms.proofs.Tests.{true_or_false, either_true}
use Rattle.simplify.specs.Folding.{is_whole, over_left}
use Rattle.simplify.specs.Numbers as numbers
use Rattle.simplify.proofs.Gives.{Operand, Gives, by_if, gives_number, whole_operand, whole_read}
use Rattle.simplify.proofs.Lists.{Each, filter-each, list-terms, left_operand}

-- ---- a commutative operation with a neutral number

record Monoid (f : ℤ → ℤ → ℤ) (n : ℤ) : Type 0 where
  assoc : (a b c : ℤ) → f (f a b) c ≡ f a (f b c)
  comm : (a b : ℤ) → f a b ≡ f b a
  left : (a : ℤ) → f n a ≡ a
  right : (a : ℤ) → f a n ≡ a

sums : Monoid ◌+ℤ◌ (pos 0)
sums = record { assoc = +ℤ_assoc; comm = +ℤ_comm; left = +ℤ_idl; right = +ℤ_idr }

-- a sign, set for minus, and a magnitude
signed : Bool → ℕ → ℤ
signed false n = pos n
signed true n = neg_ℤ (pos n)

differ : Bool → Bool → Bool
differ false t = t
differ true t = not t

no_sign : (t : Bool) (n : ℕ) → n ≡ 0 → pos 0 ≡ signed t n
unfolding signed
no_sign false n e = ap pos (sym e)
no_sign true n e = ap (λ k. neg_ℤ (pos k)) (sym e)

signed-product : (s t : Bool) (a b : ℕ) → signed s a *ℤ signed t b ≡ signed (differ s t) (a * b)
unfolding signed differ
signed-product false false a b = refl
signed-product false true a zero = ap pos (mul-zero a) ∙ no_sign true (a * zero) (mul-zero a)
signed-product false true a (suc b) = refl
signed-product true false zero b = ap pos (zero-mul b) ∙ no_sign true (zero * b) (zero-mul b)
signed-product true false (suc a) b = refl
signed-product true true zero zero = refl
signed-product true true zero (suc b) = ap (λ k. neg_ℤ (pos k)) (zero-mul (suc b)) ∙ ap pos (sym (zero-mul (suc b)))
signed-product true true (suc a) zero = ap (λ k. neg_ℤ (pos k)) (mul-zero (suc a)) ∙ ap pos (sym (mul-zero (suc a)))
signed-product true true (suc a) (suc b) = refl

differ-assoc : (r s t : Bool) → differ (differ r s) t ≡ differ r (differ s t)
unfolding differ
differ-assoc false s t = refl
differ-assoc true false t = refl
differ-assoc true true true = refl
differ-assoc true true false = refl

record IsSigned (z : ℤ) : Type 0 where
  sign : Bool
  size : ℕ
  whole : z ≡ signed sign size

is_signed : (z : ℤ) → IsSigned z
unfolding signed
is_signed (pos n) = record { sign = false; size = n; whole = refl }
is_signed (negsuc n) = record { sign = true; size = suc n; whole = refl }

*ℤ_assoc : (a b c : ℤ) → (a *ℤ b) *ℤ c ≡ a *ℤ (b *ℤ c)
*ℤ_assoc a b c =
    let x = is_signed a in
    let y = is_signed b in
    let z = is_signed c in
    (λ i. (x.whole i *ℤ y.whole i) *ℤ z.whole i)
    ∙ ap (λ k. k *ℤ signed z.sign z.size) (signed-product x.sign y.sign x.size y.size)
    ∙ signed-product (differ x.sign y.sign) z.sign (x.size * y.size) z.size
    ∙ (λ i. signed (differ-assoc x.sign y.sign z.sign i) (mul_assoc x.size y.size z.size i))
    ∙ sym (signed-product x.sign (differ y.sign z.sign) x.size (y.size * z.size))
    ∙ ap (λ k. signed x.sign x.size *ℤ k) (sym (signed-product y.sign z.sign y.size z.size))
    ∙ sym (λ i. x.whole i *ℤ (y.whole i *ℤ z.whole i))

one-right : (a : ℤ) → a *ℤ pos 1 ≡ a
unfolding one
one-right a = *ℤ-one a

one-left : (a : ℤ) → pos 1 *ℤ a ≡ a
one-left a = *ℤ_comm (pos 1) a ∙ one-right a

products : Monoid ◌*ℤ◌ (pos 1)
products = record { assoc = *ℤ_assoc; comm = *ℤ_comm; left = one-left; right = one-right }

-- the numbers of terms taken together
abbrev folded_over : (ℤ → ℤ → ℤ) → ℤ → (Term → ℤ) → List Term → ℤ
folded_over f n g [] = n
folded_over f n g (t ∷ ts) = f (g t) (folded_over f n g ts)

-- a constant's number is its value's
constant_number : (n : ℤ) (t : Term) (m : Model) (e : Env) → Operand int t → is_constant t ≡ true → numbers.number_or n (constant_value t) ≡ number (val m t e)
unfolding literal_value op_value
constant_number n t m e o h = by_kind t (constants t h) o
  where
    by_kind : (t : Term) → IsConstant t → Operand int t → numbers.number_or n (constant_value t) ≡ number (val m t e)
    by_kind t (a_whole k) p = refl
    by_kind t (a_truth b) p = let apart : int ≡ bool = truth_sort b int p.has in absurd cc
    by_kind t (a_vector w k) p = let apart : int ≡ bit_vector w = (vector_sort w k int p.has).1 in absurd cc

no_number : (n : ℤ) (o : Option Value) → is_some o ≡ false → numbers.number_or n o ≡ n
no_number n None h = refl
no_number n (Some v) h = absurd cc

module _ (f : ℤ → ℤ → ℤ) (n : ℤ) (law : Monoid f n) (m : Model) (e : Env) where
  abbrev N : Term → ℤ
  N t = number (val m t e)

  exchange : (a b c : ℤ) → f a (f b c) ≡ f b (f a c)
  exchange a b c = sym (law.assoc a b c) ∙ ap (λ x. f x c) (law.comm a b) ∙ law.assoc b a c

  -- constants on one side, the others on the other
  apart : (ts : List Term) → Each int ts → folded_over f n N ts ≡ f (folded_over f n N (filter (λ t. not (is_constant t)) ts)) (numbers.together f n ts)
  apart [] p = sym (law.left n)
  apart (t ∷ ts) p = elim (true_or_false (is_constant t)) [
    | inl constant ↦
        ap (f (N t)) (apart ts p.1)
        ∙ exchange (N t) (folded_over f n N (filter (λ t. not (is_constant t)) ts)) (numbers.together f n ts)
        ∙ ap (λ k. f (folded_over f n N (filter (λ t. not (is_constant t)) ts)) (f k (numbers.together f n ts))) (sym (constant_number n t m e p.0 constant))
        ∙ sym (ap (λ b. f (folded_over f n N (cond (not b) (t ∷ filter (λ t. not (is_constant t)) ts) (filter (λ t. not (is_constant t)) ts))) (f (numbers.number_or n (constant_value t)) (numbers.together f n ts))) constant)
    | inr other ↦
        ap (f (N t)) (apart ts p.1)
        ∙ sym (law.assoc (N t) (folded_over f n N (filter (λ t. not (is_constant t)) ts)) (numbers.together f n ts))
        ∙ ap (f (f (N t) (folded_over f n N (filter (λ t. not (is_constant t)) ts)))) (sym (law.left (numbers.together f n ts)) ∙ ap (λ k. f k (numbers.together f n ts)) (sym (no_number n (constant_value t) other)))
        ∙ sym (ap (λ b. f (folded_over f n N (cond (not b) (t ∷ filter (λ t. not (is_constant t)) ts) (filter (λ t. not (is_constant t)) ts))) (f (numbers.number_or n (constant_value t)) (numbers.together f n ts))) other)
  ]

  both_lists : (ts us : List Term) → folded_over f n N (ts ++ us) ≡ f (folded_over f n N ts) (folded_over f n N us)
  both_lists [] us = sym (law.left (folded_over f n N us))
  both_lists (t ∷ ts) us = ap (f (N t)) (both_lists ts us) ∙ sym (law.assoc (N t) (folded_over f n N ts) (folded_over f n N us))

  constant_reads : (k : ℤ) → N (whole_term k) ≡ k
  unfolding op_value
  constant_reads k = refl

  unless : (k : ℤ) → folded_over f n N (numbers.unless_neutral n k) ≡ k
  unless k = elim (true_or_false (int_eq k n)) [
    | inl neutral ↦ ap (λ b. folded_over f n N (cond b [] (whole_term k ∷ []))) neutral ∙ sym ((Decides-int_eq k n).0 neutral)
    | inr other ↦ ap (λ b. folded_over f n N (cond b [] (whole_term k ∷ []))) other ∙ law.right (N (whole_term k)) ∙ constant_reads k
  ]

  -- the others and the constants' number
  gathered-value : (ts : List Term) → Each int ts → folded_over f n N (filter (λ t. not (is_constant t)) ts ++ numbers.unless_neutral n (numbers.together f n ts)) ≡ folded_over f n N ts
  gathered-value ts p =
      both_lists (filter (λ t. not (is_constant t)) ts) (numbers.unless_neutral n (numbers.together f n ts))
      ∙ ap (f (folded_over f n N (filter (λ t. not (is_constant t)) ts))) (unless (numbers.together f n ts))
      ∙ sym (apart ts p)

-- ---- the node

record Sums (o : Op) (f : ℤ → ℤ → ℤ) (n : ℤ) : Type 0 where
  law : Monoid f n
  neutral : Operand int (whole_term n)
  takes : (k : ℕ) → Takes (shape o) (int ∷ int ∷ replicate k int) int
  values : (m : Model) (e : Env) (us : Terms) → number (val m (apply (op o) us) e) ≡ folded_over f n (λ t. number (val m t e)) (list us)

sum-values : (m : Model) (e : Env) (us : Terms) → sum_of (vals m us e) ≡ folded_over ◌+ℤ◌ (pos 0) (λ t. number (val m t e)) (list us)
sum-values m e none = refl
sum-values m e (u ⨾ us) = ap (λ k. number (val m u e) +ℤ k) (sum-values m e us)

product-values : (m : Model) (e : Env) (us : Terms) → product_of (vals m us e) ≡ folded_over ◌*ℤ◌ (pos 1) (λ t. number (val m t e)) (list us)
product-values m e none = refl
product-values m e (u ⨾ us) = ap (λ k. number (val m u e) *ℤ k) (product-values m e us)

additions : Sums Add ◌+ℤ◌ (pos 0)
unfolding shape op_value
additions = record { law = sums; neutral = (let small : nat_abs (pos 0) < 2 ^ 127 = omega arith in whole_operand (pos 0) small); takes = λ k. (k, refl, refl); values = sum-values }

multiplications : Sums Mul ◌*ℤ◌ (pos 1)
unfolding shape op_value
multiplications = record { law = products; neutral = (let small : nat_abs (pos 1) < 2 ^ 127 = omega arith in whole_operand (pos 1) small); takes = λ k. (k, refl, refl); values = product-values }

append-each : (ts us : List Term) → Each int ts → Each int us → Each int (ts ++ us)
append-each [] us p q = q
append-each (t ∷ ts) us p q = (p.0, append-each ts us p.1 q)

unless-each : (n k : ℤ) → within_range k ≡ true → Each int (numbers.unless_neutral n k)
unless-each n k small = elim (true_or_false (int_eq k n)) [
  | inl neutral ↦ subst (λ b. Each int (cond b [] (whole_term k ∷ []))) (sym neutral) tt
  | inr other ↦ subst (λ b. Each int (cond b [] (whole_term k ∷ []))) (sym other) (whole_operand k (ltb-true (nat_abs k) (2 ^ 127) small), tt)
]

module _ (o : Op) (f : ℤ → ℤ → ℤ) (n : ℤ) (j : Sums o f n) where
  left_value : (m : Model) (e : Env) (ts : List Term) → number (val m (over_left o (whole_term n) ts) e) ≡ folded_over f n (λ t. number (val m t e)) ts
  left_value m e [] = constant_reads f n j.law m e n
  left_value m e (t ∷ []) = sym (j.law.right (number (val m t e)))
  left_value m e (t ∷ u ∷ ts) = j.values m e (t ⨾ u ⨾ terms ts) ∙ ap (λ us. folded_over f n (λ t. number (val m t e)) (t ∷ u ∷ us)) (list-terms ts)

  gathered_gives : (us : Terms) → Each int (list us) → IfSome (numbers.gathered o n (numbers.together f n (list us)) (list us)) (λ r. Gives int (apply (op o) us) r)
  gathered_gives us p =
      let k = numbers.together f n (list us) in
      let kept = filter (λ t. not (is_constant t)) (list us) ++ numbers.unless_neutral n k in
      by_if (λ r. Gives int (apply (op o) us) r) (within_range k) (over_left o (whole_term n) kept) None
      (λ small.
      let narrow : width int ≤ most_bits = omega arith in
      let each = append-each (filter (λ t. not (is_constant t)) (list us)) (numbers.unless_neutral n k) (filter-each int (λ t. not (is_constant t)) (list us) p) (unless-each n k small) in
      gives_number (apply (op o) us) (over_left o (whole_term n) kept) (left_operand int o (whole_term n) j.neutral j.takes narrow kept each) (λ m e model env.
      j.values m e us ∙ sym (gathered-value f n j.law m e (list us) p) ∙ sym (left_value m e kept)))
      tt

pub addition_gives : (us : Terms) → Each int (list us) → IfSome (numbers.addition (list us)) (λ r. Gives int (apply (op Add) us) r)
addition_gives us p = gathered_gives Add ◌+ℤ◌ (pos 0) additions us p

-- a factor 0
zero_factor : (m : Model) (e : Env) (ts : List Term) → list_any (is_whole (pos 0)) ts ≡ true → folded_over ◌*ℤ◌ (pos 1) (λ t. number (val m t e)) ts ≡ pos 0
zero_factor m e [] h = absurd cc
zero_factor m e (t ∷ ts) h = elim (either_true (is_whole (pos 0) t) (list_any (is_whole (pos 0)) ts) h) [
  | inl here ↦ ap (λ k. k *ℤ folded_over ◌*ℤ◌ (pos 1) (λ t. number (val m t e)) ts) (whole_read (pos 0) t here m e) ∙ zero-*ℤ (folded_over ◌*ℤ◌ (pos 1) (λ t. number (val m t e)) ts)
  | inr behind ↦ ap (λ k. number (val m t e) *ℤ k) (zero_factor m e ts behind) ∙ *ℤ-zero (number (val m t e))
]

pub multiplication_gives : (us : Terms) → Each int (list us) → IfSome (numbers.multiplication (list us)) (λ r. Gives int (apply (op Mul) us) r)
multiplication_gives us p =
    by_if (λ r. Gives int (apply (op Mul) us) r) (list_any (is_whole (pos 0)) (list us)) (whole_term (pos 0)) _
    (λ h. gives_number (apply (op Mul) us) (whole_term (pos 0)) additions.neutral (λ m e model env.
    product-value m e ∙ zero_factor m e (list us) h ∙ sym (constant_reads ◌*ℤ◌ (pos 1) products m e (pos 0))))
    (gathered_gives Mul ◌*ℤ◌ (pos 1) multiplications us p)
  where
    product-value : (m : Model) (e : Env) → number (val m (apply (op Mul) us) e) ≡ folded_over ◌*ℤ◌ (pos 1) (λ t. number (val m t e)) (list us)
    product-value m e = multiplications.values m e us
