-- A test of all values of a finite sort, by their numbers.
use Rattle.std.proofs.Common.{◌≡◌, ℕ, zero, suc, ◌+◌, ◌-◌, ◌/◌, ◌^◌, ◌<◌, ◌≤◌, ◌==◌, Bool, true, false, List, [], ◌∷◌, length, get_or, Some, None, refl, ap, sym, ◌∙◌, subst, arith, true≢false}
use Rattle.std.specs.List.{position_or_len}
use Rattle.std.proofs.lemmas.Bool.Decides.{nat_tests, Decides-eqb, Decides-ltb}
use Rattle.std.proofs.lemmas.List.Sums.{position_or_len_is}
use Rattle.std.proofs.lemmas.Nat.{pow_pos}
use Rattle.smt_terms.specs.declared.ids.SortId.{SortId}
use Rattle.smt_terms.specs.Sorts.{Name, Sort, bool, int, bit_vector, array, free_sort}
use Rattle.smt_terms.specs.Term.{universal}
use Rattle.smt_terms.specs.Equal.{sort_eq}
use Rattle.smt_terms.specs.BitVectors.{BitVector, nat2bv, bv2nat, zeros}
use Rattle.smt_terms.specs.Values.{Value, truth, bits, element, Sizes, over_bits, over_elements, over_values, is_value, default_value}
use Rattle.smt_terms.proofs.Equal.{Decides-sort_eq}
use Rattle.smt_terms.proofs.Tests.{both_true, and_true}
use Rattle.smt_values.specs.SortIds.{sort_numbered, sort_at, IsSortList, is_free}
use Rattle.smt_values.specs.SizeTable.{size_at, sizes_by}
use Rattle.smt_values.specs.Numbered.{numbered, numbered_at, last_number, IsNumberAt}
use Rattle.smt_values.proofs.SortIds.{sort_placed, sort_basic, basic}
use Rattle.std.specs.Prelude.{unwrap_or, is_some}
use Rattle.std.proofs.lemmas.Nat.Bits.{ones_shr}
use Rattle.smt_terms.proofs.BitLengths.{length-nat2bv}
use Rattle.smt_values.proofs.Bits.{nat2bv-bv2nat, bv2nat_below}

-- ---- bits by their numbers

bits_all : (w : ℕ) (test : BitVector → Bool) (bs : BitVector) → over_bits universal w test ≡ true → length bs ≡ w → test bs ≡ true
unfolding over_bits
bits_all zero test [] h e = h
bits_all zero test (b ∷ bs) h e = absurd (omega arith)
bits_all (suc w) test [] h e = absurd (omega arith)
bits_all (suc w) test (false ∷ bs) h e =
    let e' : length bs ≡ w = omega arith in
    bits_all w (λ bs. test (false ∷ bs)) bs (both_true (over_bits universal w (λ bs. test (false ∷ bs))) (over_bits universal w (λ bs. test (true ∷ bs))) h).0 e'
bits_all (suc w) test (true ∷ bs) h e =
    let e' : length bs ≡ w = omega arith in
    bits_all w (λ bs. test (true ∷ bs)) bs (both_true (over_bits universal w (λ bs. test (false ∷ bs))) (over_bits universal w (λ bs. test (true ∷ bs))) h).1 e'

bits_from : (w : ℕ) (test : BitVector → Bool) → ((bs : BitVector) → length bs ≡ w → test bs ≡ true) → over_bits universal w test ≡ true
unfolding over_bits
bits_from zero test f = f [] refl
bits_from (suc w) test f =
    and_true (over_bits universal w (λ bs. test (false ∷ bs))) (over_bits universal w (λ bs. test (true ∷ bs)))
    (bits_from w (λ bs. test (false ∷ bs)) (λ bs e. f (false ∷ bs) (ap suc e)))
    (bits_from w (λ bs. test (true ∷ bs)) (λ bs e. f (true ∷ bs) (ap suc e)))

elements_all : (n : ℕ) (test : ℕ → Bool) (i : ℕ) → over_elements universal n test ≡ true → i < n → test i ≡ true
unfolding over_elements
elements_all zero test i h lt = absurd (omega arith)
elements_all (suc n) test i h lt = by (both_true (over_elements universal n test) (test n) h) (λ h lt. elements_all n test i h lt) (i == n) refl
  where
    by : (over_elements universal n test ≡ true) × (test n ≡ true) → (over_elements universal n test ≡ true → i < n → test i ≡ true) → (b : Bool) → (i == n) ≡ b → test i ≡ true
    by parts rest true e = ap test ((Decides-eqb i n).0 e) ∙ parts.1
    by parts rest false e = rest parts.0 (grind (arith, nat_tests))

elements_from : (n : ℕ) (test : ℕ → Bool) → ((i : ℕ) → i < n → test i ≡ true) → over_elements universal n test ≡ true
unfolding over_elements
elements_from zero test f = refl
elements_from (suc n) test f =
    let last : n < suc n = omega arith in
    and_true (over_elements universal n test) (test n) (elements_from n test (λ i lt. let lt' : i < suc n = omega arith in f i lt')) (f n last)

-- ---- values by their numbers

some_is : (m n : ℕ) → Some m ≡ Some n → m ≡ n
some_is m n e = ap (λ o. unwrap_or o 0) e

pub over_numbers : (s : Sort) (sizes : Sizes) (test : Value → Bool) (last n : ℕ) → ((name : Name) → s ≡ free_sort name → 0 < sizes name) → last_number s sizes ≡ Some last → over_values universal s sizes test ≡ true → n ≤ last → test (numbered s n) ≡ true
over_numbers bool sizes test last n some e h le = by (both_true (test (truth false)) (test (truth true)) h) (n == 1)
  where
    by : (test (truth false) ≡ true) × (test (truth true) ≡ true) → (b : Bool) → test (truth b) ≡ true
    by parts true = parts.1
    by parts false = parts.0
over_numbers (bit_vector w) sizes test last n some e h le = bits_all w (λ bs. test (bits bs)) (nat2bv w n) h (length-nat2bv w n)
over_numbers (free_sort s) sizes test last n some e h le =
    let top : sizes s - 1 ≡ last = some_is (sizes s - 1) last e in
    let lt : n < sizes s = omega (arith, some s refl) in
    elements_all (sizes s) (λ i. test (element i)) n h lt
over_numbers int sizes test last n some e h le = absurd (true≢false (sym h))
over_numbers (array i j) sizes test last n some e h le = absurd (true≢false (sym h))

bits_numbered : (w last : ℕ) (test : Value → Bool) → Some (2 ^ w - 1) ≡ Some last → ((n : ℕ) → n ≤ last → test (bits (nat2bv w n)) ≡ true) → (bs : BitVector) → length bs ≡ w → test (bits bs) ≡ true
bits_numbered w last test e f bs wide =
    let top : 2 ^ w - 1 ≡ last = some_is (2 ^ w - 1) last e in
    let lt : bv2nat bs < 2 ^ w = subst (λ k. bv2nat bs < 2 ^ k) wide (bv2nat_below bs) in
    let le : bv2nat bs ≤ last = omega arith in
    let same : nat2bv w (bv2nat bs) ≡ bs = ap (λ k. nat2bv k (bv2nat bs)) (sym wide) ∙ nat2bv-bv2nat bs in
    sym (ap (λ cs. test (bits cs)) same) ∙ f (bv2nat bs) le

pub over_numbered : (s : Sort) (sizes : Sizes) (test : Value → Bool) (last : ℕ) → last_number s sizes ≡ Some last → ((n : ℕ) → n ≤ last → test (numbered s n) ≡ true) → over_values universal s sizes test ≡ true
over_numbered bool sizes test last e f =
    let top : 1 ≡ last = some_is 1 last e in
    let zero_in : 0 ≤ last = omega arith in
    let one_in : 1 ≤ last = omega arith in
    and_true (test (truth false)) (test (truth true)) (f 0 zero_in) (f 1 one_in)
over_numbered (bit_vector w) sizes test last e f = bits_from w (λ bs. test (bits bs)) (bits_numbered w last test e f)
over_numbered (free_sort s) sizes test last e f =
    let top : sizes s - 1 ≡ last = some_is (sizes s - 1) last e in
    elements_from (sizes s) (λ i. test (element i)) (λ i lt. let le : i ≤ last = omega arith in f i le)
over_numbered int sizes test last e f = absurd (is_none e)
  where
    is_none : None ≡ Some last → ⊥
    is_none e = true≢false (sym (ap is_some e))
over_numbered (array i j) sizes test last e f = absurd (is_none e)
  where
    is_none : None ≡ Some last → ⊥
    is_none e = true≢false (sym (ap is_some e))

pub over_no_numbers : (s : Sort) (sizes : Sizes) (test : Value → Bool) → last_number s sizes ≡ None → over_values universal s sizes test ≡ false
over_no_numbers bool sizes test e = absurd (true≢false (ap is_some e))
over_no_numbers (bit_vector w) sizes test e = absurd (true≢false (ap is_some e))
over_no_numbers (free_sort s) sizes test e = absurd (true≢false (ap is_some e))
over_no_numbers int sizes test e = refl
over_no_numbers (array i j) sizes test e = refl

-- ---- the numbers of sorts

-- each sort of the table has its number
pub number_of-sort : (ss : List Sort) → IsSortList ss → (k : ℕ) → k < length ss → 130 + position_or_len (sort_eq (get_or ss k bool)) ss ≡ 130 + k
number_of-sort ss table k lt = ap (λ n. 130 + n) (position_or_len_is (sort_eq (get_or ss k bool)) ss k bool (omega arith) before (λ _. (Decides-sort_eq (get_or ss k bool) (get_or ss k bool)).1 refl))
  where
    before : (j : ℕ) → j < k → sort_eq (get_or ss k bool) (get_or ss j bool) ≡ false
    before j below = by (sort_eq (get_or ss k bool) (get_or ss j bool)) refl
      where
        by : (b : Bool) → sort_eq (get_or ss k bool) (get_or ss j bool) ≡ b → b ≡ false
        by false e = refl
        by true e =
            let lt' : j < length ss = omega arith in
            let one : k ≡ j = table.distinct k j lt lt' ((Decides-sort_eq (get_or ss k bool) (get_or ss j bool)).0 e) in
            absurd (omega arith)

-- the size of a declared sort
pub sizes_by-sort : (ss : List Sort) (es : List (SortId × ℕ)) → IsSortList ss → (s : SortId) (name : Name) → 129 < s.0 → s.0 < 130 + length ss → sort_at ss s ≡ free_sort name → sizes_by ss es name ≡ size_at es s
unfolding sizes_by
sizes_by-sort ss es table s name high within e =
    let k : s.0 - 130 < length ss = omega arith in
    let place : 130 + (s.0 - 130) ≡ s.0 = omega arith in
    let sort : get_or ss (s.0 - 130) bool ≡ free_sort name = sym (sort_placed ss (s.0 - 130)) ∙ ap (sort_numbered ss) place ∙ e in
    ap (λ n. size_at es (record { 0 = n })) (ap (λ t. 130 + position_or_len (sort_eq t) ss) (sym sort) ∙ number_of-sort ss table (s.0 - 130) k ∙ place)

pub last-word : (ss : List Sort) (sizes : Sizes) (n : ℕ) → 2 ≤ n → n ≤ 129 → Some (340282366920938463463374607431768211455 / 2 ^ (129 - n)) ≡ last_number (sort_numbered ss n) sizes
unfolding basic
last-word ss sizes n low high =
    let k : 129 - n ≤ 128 = omega arith in
    let lt : n < 130 = omega arith in
    let width : 128 - (129 - n) ≡ n - 1 = omega arith in
    let sort : basic n ≡ bit_vector (n - 1) = grind (arith, nat_tests) in
    ap Some (ones_shr 128 (129 - n) k ∙ ap (λ w. 2 ^ w - 1) width) ∙ sym (ap (λ s. last_number s sizes) (sort_basic ss n lt ∙ sort))

-- what holds of the numbers of a finite sort
pub record Numbers (ss : List Sort) (sizes : Sizes) (s last : ℕ) : Type 0 where
  pub numbers : (n : ℕ) → n ≤ last → IsNumberAt s n
  pub values : (n : ℕ) → n ≤ last → is_value (sort_numbered ss s) sizes (numbered (sort_numbered ss s) n) ≡ true
  pub same : (n : ℕ) → numbered_at s n ≡ numbered (sort_numbered ss s) n

numbers_bool : (ss : List Sort) (sizes : Sizes) (last : ℕ) → Numbers ss sizes 0 last
numbers_bool ss sizes last = record {
  numbers = λ n le. record { word = λ h. absurd (omega arith); element = λ h. absurd (omega arith) };
  values = λ n le. refl;
  same = λ n. refl;
}

numbers_word : (ss : List Sort) (sizes : Sizes) (s last : ℕ) → 1 < s → s < 130 → last_number (sort_numbered ss s) sizes ≡ Some last → Numbers ss sizes s last
unfolding basic
numbers_word ss sizes s last low high e =
    let basic_is : basic s ≡ bit_vector (s - 1) = grind (arith, nat_tests) in
    let sort : sort_numbered ss s ≡ bit_vector (s - 1) = sort_basic ss s high ∙ basic_is in
    let top : 2 ^ (s - 1) - 1 ≡ last = some_is (2 ^ (s - 1) - 1) last (ap (λ t. last_number t sizes) (sym sort) ∙ e) in
    let positive = pow_pos (s - 1) in
    let at : (n : ℕ) → numbered_at s n ≡ bits (nat2bv (s - 1) n) = λ n. grind (arith, nat_tests) in
    record {
      numbers = λ n le. record { word = λ _ _. (low, omega arith); element = λ h. absurd (omega arith) };
      values = λ n le. ap (λ t. is_value t sizes (numbered t n)) sort ∙ (Decides-eqb (length (nat2bv (s - 1) n)) (s - 1)).1 (length-nat2bv (s - 1) n);
      same = λ n. at n ∙ sym (ap (λ t. numbered t n) sort);
    }

numbers_free : (ss : List Sort) (sizes : Sizes) (s last : ℕ) (name : Name) → 129 < s → sort_numbered ss s ≡ free_sort name → last < 2 ^ 64 → 0 < sizes name → last_number (sort_numbered ss s) sizes ≡ Some last → Numbers ss sizes s last
numbers_free ss sizes s last name high sort small some e =
    let top : sizes name - 1 ≡ last = some_is (sizes name - 1) last (ap (λ t. last_number t sizes) (sym sort) ∙ e) in
    let at : (n : ℕ) → numbered_at s n ≡ element n = λ n. grind (arith, nat_tests) in
    record {
      numbers = λ n le. record { word = λ _ h. absurd (omega arith); element = λ _. omega arith };
      values = λ n le. ap (λ t. is_value t sizes (numbered t n)) sort ∙ (Decides-ltb n (sizes name)).1 (omega arith);
      same = λ n. at n ∙ sym (ap (λ t. numbered t n) sort);
    }

pub bool-numbers : (ss : List Sort) (sizes : Sizes) (s last : ℕ) → s ≡ 0 → Numbers ss sizes s last
bool-numbers ss sizes s last e = subst (λ n. Numbers ss sizes n last) (sym e) (numbers_bool ss sizes last)

pub word_sort-numbers : (ss : List Sort) (sizes : Sizes) (n : ℕ) → 2 ≤ n → n ≤ 129 → Numbers ss sizes n (340282366920938463463374607431768211455 / 2 ^ (129 - n))
word_sort-numbers ss sizes n low high =
    let lt : n < 130 = omega arith in
    let one : 1 < n = omega arith in
    numbers_word ss sizes n (340282366920938463463374607431768211455 / 2 ^ (129 - n)) one lt (sym (last-word ss sizes n low high))

pub free-numbers : (ss : List Sort) (es : List (SortId × ℕ)) → IsSortList ss → (s : SortId) (name : Name) (size : ℕ) → 129 < s.0 → s.0 < 130 + length ss → sort_at ss s ≡ free_sort name → size ≡ size_at es s → 0 < size → size < 2 ^ 64
    → (Some (size - 1) ≡ last_number (sort_at ss s) (sizes_by ss es)) × (0 < sizes_by ss es name) × Numbers ss (sizes_by ss es) s.0 (size - 1)
free-numbers ss es table s name size high within sort e some small =
    let is : sizes_by ss es name ≡ size = sizes_by-sort ss es table s name high within sort ∙ sym e in
    let top : Some (size - 1) ≡ last_number (sort_at ss s) (sizes_by ss es) = ap (λ n. Some (n - 1)) (sym is) ∙ sym (ap (λ t. last_number t (sizes_by ss es)) sort) in
    let positive : 0 < sizes_by ss es name = omega arith in
    let below : size - 1 < 2 ^ 64 = omega arith in
    (top, positive, numbers_free ss (sizes_by ss es) s.0 (size - 1) name high sort below positive (sym top))

-- no number of a basic sort is that of a declared one
pub not_declared : (ss : List Sort) (s : ℕ) (name : Name) → s < 130 → sort_numbered ss s ≡ free_sort name → ⊥
unfolding basic
not_declared ss s name lt e =
    let plain : is_free (basic s) ≡ false = grind (arith, nat_tests) in
    true≢false (sym (ap is_free (sym (sort_basic ss s lt) ∙ e)) ∙ plain)

zero_bits : (w : ℕ) → nat2bv w 0 ≡ zeros w
zero_bits zero = refl
zero_bits (suc w) = ap (λ bs. false ∷ bs) (zero_bits w)

-- the zero bits of a bit-vector sort are its default value
pub default_word : (ss : List Sort) (n : ℕ) → 2 ≤ n → n ≤ 129 → bits (nat2bv (n - 1) 0) ≡ default_value (sort_numbered ss n)
unfolding basic
default_word ss n low high =
    let lt : n < 130 = omega arith in
    let sort : basic n ≡ bit_vector (n - 1) = grind (arith, nat_tests) in
    ap bits (zero_bits (n - 1)) ∙ sym (ap default_value (sort_basic ss n lt ∙ sort))
