-- Different constants of one sort have values that aren't the same.
use Rattle.std.proofs.Common.{◌≡◌, ℕ, zero, suc, ◌+◌, ◌*◌, ◌/◌, ◌%◌, ◌^◌, ◌<◌, Bool, true, false, not, ◌&&◌, ◌==◌, ℤ, Some, refl, ap, sym, ◌∙◌, subst, inl, inr, arith}
use Rattle.std.proofs.Math.Nat.{mod-add-div, mod-lt, pow-suc, div-lt_iff_lt-mul}
use Rattle.smt_terms.specs.declared.op.Op.TheVariants.{Truth, Whole, Bits}
use Rattle.smt_terms.specs.Sorts.{Sort, bool, int, bit_vector}
use Rattle.smt_terms.specs.Term.{op, symbol, const_array, Term, apply, quantified, none, ◌⨾◌}
use Rattle.smt_terms.specs.BitVectors.{bit_number, bv2nat, nat2bv}
use Rattle.smt_terms.specs.Connectives.{truth_term}
use Rattle.smt_terms.specs.Constants.{whole_term, bits_term, literal_value, is_constant, are_different_constants}
use Rattle.smt_terms.specs.Equal.{term_eq}
use Rattle.smt_terms.specs.Rank.{shape, sort_of}
use Rattle.smt_terms.specs.Values.{truth, whole, bits, same}
use Rattle.smt_terms.specs.Operators.{op_value}
use Rattle.smt_terms.specs.Models.{Model}
use Rattle.smt_terms.specs.Val.{Env, val}
use Rattle.smt_terms.proofs.Tests.{both_true, true_or_false, not_true}
use Rattle.smt_terms.proofs.Equal.{Decides-term_eq}
use Rattle.smt_terms.proofs.Ranked.{rank-takes}
use Rattle.smt_terms.proofs.Respects.{truths_alike, numbers_alike, bits_alike}
use Rattle.smt_terms.proofs.Sorted.{applied}

-- ---- bits of a number that they can hold

digit : (r : ℕ) → r < 2 → bit_number (r == 1) ≡ r
digit zero less = refl
digit (suc zero) less = refl
digit (suc (suc r)) less = absurd (omega arith)

bit_of : (n : ℕ) → bit_number (n % 2 == 1) ≡ n % 2
bit_of n = let some : 0 < 2 = omega arith in digit (n % 2) (mod-lt n some)

pub bv2nat-nat2bv : (w n : ℕ) → n < 2 ^ w → bv2nat (nat2bv w n) ≡ n
bv2nat-nat2bv zero n small = omega arith
bv2nat-nat2bv (suc w) n small =
    let some : 0 < 2 = omega arith in
    let whole_power : 2 ^ suc w ≡ 2 ^ w * 2 = pow-suc 2 w in
    let less : n < 2 ^ w * 2 = subst (λ k. n < k) whole_power small in
    let half : n / 2 < 2 ^ w = (div-lt_iff_lt-mul some).1 less in
    let behind : bv2nat (nat2bv w (n / 2)) ≡ n / 2 = bv2nat-nat2bv w (n / 2) half in
    (λ i. bit_of n i + 2 * behind i) ∙ mod-add-div n 2

-- ---- which constants there are

pub data IsConstant : Term → Type 0 where
  a_truth : (b : Bool) → IsConstant (truth_term b)
  a_whole : (n : ℤ) → IsConstant (whole_term n)
  a_vector : (w n : ℕ) → IsConstant (bits_term w n)

pub constants : (t : Term) → is_constant t ≡ true → IsConstant t
unfolding literal_value
constants (quantified q xs t) h = absurd cc
constants (apply (symbol f) ts) h = absurd cc
constants (apply (const_array s) ts) h = absurd cc
constants (apply (op (Truth b)) none) h = a_truth b
constants (apply (op (Whole n)) none) h = a_whole n
constants (apply (op (Bits w n)) none) h = a_vector w n
constants (apply (op o) (t ⨾ ts)) h = absurd cc
constants (apply (op o) none) h = absurd cc

-- ---- their sorts

pub truth_sort : (b : Bool) (r : Sort) → sort_of (truth_term b) ≡ Some r → r ≡ bool
unfolding shape
truth_sort b r has =
    let parts = applied (op (Truth b)) none r has in
    (rank-takes (op (Truth b)) parts.sorts r parts.rank).1

pub whole_sort : (n : ℤ) (r : Sort) → sort_of (whole_term n) ≡ Some r → r ≡ int
unfolding shape
whole_sort n r has =
    let parts = applied (op (Whole n)) none r has in
    (rank-takes (op (Whole n)) parts.sorts r parts.rank).2

pub vector_sort : (w n : ℕ) (r : Sort) → sort_of (bits_term w n) ≡ Some r → (n < 2 ^ w) × (r ≡ bit_vector w)
unfolding shape
vector_sort w n r has =
    let parts = applied (op (Bits w n)) none r has in
    let taken = rank-takes (op (Bits w n)) parts.sorts r parts.rank in
    (taken.2, taken.3)

-- ---- constants of one sort whose values are the same

same_constant : (s t : Term) → IsConstant s → IsConstant t → (r : Sort) → sort_of s ≡ Some r → sort_of t ≡ Some r → (m : Model) (e : Env) → same r m.sizes (val m s e) (val m t e) ≡ true → s ≡ t
unfolding op_value
same_constant s t (a_truth b) (a_truth c) r p q m e h =
    ap truth_term (truths_alike m.sizes (truth b) (truth c) (subst (λ u. same u m.sizes (truth b) (truth c) ≡ true) (truth_sort b r p) h))
same_constant s t (a_whole k) (a_whole n) r p q m e h =
    ap whole_term (numbers_alike m.sizes (whole k) (whole n) (subst (λ u. same u m.sizes (whole k) (whole n) ≡ true) (whole_sort k r p) h))
same_constant s t (a_vector v k) (a_vector w n) r p q m e h =
    let left = vector_sort v k r p in
    let right = vector_sort w n r q in
    let sort : bit_vector v ≡ bit_vector w = sym left.1 ∙ right.1 in
    let width : v ≡ w = cc in
    let alike : nat2bv v k ≡ nat2bv w n = bits_alike v m.sizes (bits (nat2bv v k)) (bits (nat2bv w n)) (subst (λ u. same u m.sizes (bits (nat2bv v k)) (bits (nat2bv w n)) ≡ true) left.1 h) in
    let number : k ≡ n = sym (bv2nat-nat2bv v k left.0) ∙ ap bv2nat alike ∙ bv2nat-nat2bv w n right.0 in
    λ i. bits_term (width i) (number i)
same_constant s t (a_truth b) (a_whole n) r p q m e h = let apart : bool ≡ int = sym (truth_sort b r p) ∙ whole_sort n r q in absurd cc
same_constant s t (a_whole n) (a_truth b) r p q m e h = let apart : bool ≡ int = sym (truth_sort b r q) ∙ whole_sort n r p in absurd cc
same_constant s t (a_truth b) (a_vector w n) r p q m e h = let apart : bool ≡ bit_vector w = sym (truth_sort b r p) ∙ (vector_sort w n r q).1 in absurd cc
same_constant s t (a_vector w n) (a_truth b) r p q m e h = let apart : bool ≡ bit_vector w = sym (truth_sort b r q) ∙ (vector_sort w n r p).1 in absurd cc
same_constant s t (a_whole k) (a_vector w n) r p q m e h = let apart : int ≡ bit_vector w = sym (whole_sort k r p) ∙ (vector_sort w n r q).1 in absurd cc
same_constant s t (a_vector w n) (a_whole k) r p q m e h = let apart : int ≡ bit_vector w = sym (whole_sort k r q) ∙ (vector_sort w n r p).1 in absurd cc

pub constants_apart : (s t : Term) (r : Sort) → are_different_constants s t ≡ true → sort_of s ≡ Some r → sort_of t ≡ Some r → (m : Model) (e : Env) → same r m.sizes (val m s e) (val m t e) ≡ false
constants_apart s t r h p q m e =
    let parts = both_true (is_constant s) (is_constant t && not (term_eq s t)) h in
    let rest = both_true (is_constant t) (not (term_eq s t)) parts.1 in
    let apart : term_eq s t ≡ false = not_true (term_eq s t) rest.1 in
    elim (true_or_false (same r m.sizes (val m s e) (val m t e))) [
      | inl alike ↦
          let equal : term_eq s t ≡ true = (Decides-term_eq s t).1 (same_constant s t (constants s parts.0) (constants t rest.0) r p q m e alike) in
          absurd cc
      | inr other ↦ other
    ]
