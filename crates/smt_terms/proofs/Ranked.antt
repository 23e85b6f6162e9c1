-- `rank` answers a sort exactly where the relation `Takes` holds and the sort is narrow enough.
use Rattle.std.proofs.Common.{◌≡◌, ℕ, zero, suc, ◌+◌, ◌-◌, ◌^◌, ◌<◌, ◌≤◌, Bool, true, false, cond, ◌||◌, ◌==◌, inl, inr, nat_lt, nat_le, nat_abs, List, [], ◌∷◌, map, length, replicate, Option, Some, None, Result, Ok, Err, refl, ap, sym, ◌∙◌, subst, arith}
use Rattle.std.proofs.lemmas.Bool.{ltb-true, leb-true}
use Rattle.std.proofs.lemmas.Bool.Decides.{Decides-eqb, nat_tests}
use Rattle.smt_terms.specs.Sorts.{Sort, bool, int, bit_vector, array}
use Rattle.smt_terms.specs.Term.{Head}
use Rattle.smt_terms.specs.Equal.{sort_eq}
use Rattle.smt_terms.specs.Rank.{Fault, wrong_arity, width_limit, Shape, fixed, several, equation, distinctness, choice, whole_number, bit_constant, concatenation, extraction, extension, rotation, bitwise, bitwise_pair, bits_comparison, selection, storing, filling, no_head, shape_of, admits, arity, only, any_width, any_array, like_first, element_place, places, misfit, before, first_misfit, most_bits, width, element_sort, operand, in_range, result_of, accepted, rank}
use Rattle.smt_terms.specs.Takes.{Takes}
use Rattle.smt_terms.proofs.Tests.{both_true, and_true, either_true, right_true, true_or_false}
use Rattle.smt_terms.proofs.Equal.{Decides-sort_eq}

-- what `rank` has tested where it answers a sort
record Passed (h : Shape) (ss : List Sort) (s : Sort) : Type 0 where
  number : admits (arity h) (length ss) ≡ true
  sorts : first_misfit 0 (places h ss) ss ≡ None
  range : in_range h ss ≡ true
  narrow : nat_le (width s) most_bits ≡ true
  result : s ≡ result_of h ss

record Accepts (m : Option Fault) (r : Bool) (t s : Sort) : Type 0 where
  sorts : m ≡ None
  range : r ≡ true
  narrow : nat_le (width t) most_bits ≡ true
  result : s ≡ t

cond_ok : (b : Bool) (t s : Sort) (f : Fault) → cond b (Ok t) (Err f) ≡ Ok s → (b ≡ true) × (s ≡ t)
cond_ok true t s f h = (refl, cc)
cond_ok false t s f h = absurd cc

accepts : (m : Option Fault) (r : Bool) (t s : Sort) → accepted m r t ≡ Ok s → Accepts m r t s
accepts (Some f) r t s h = absurd cc
accepts None false t s h = absurd cc
accepts None true t s h =
    let told = cond_ok (nat_le (width t) most_bits) t s width_limit h in
    record { sorts = refl; range = refl; narrow = told.0; result = told.1 }

cond_rank : (b : Bool) (x : Result Sort Fault) (s : Sort) → cond b x (Err wrong_arity) ≡ Ok s → (b ≡ true) × (x ≡ Ok s)
cond_rank true x s h = (refl, h)
cond_rank false x s h = absurd cc

passed : (h : Head) (ss : List Sort) (s : Sort) → rank h ss ≡ Ok s → Passed (shape_of h) ss s
unfolding rank
passed h ss s e =
    let told = cond_rank (admits (arity (shape_of h)) (length ss)) (accepted (first_misfit 0 (places (shape_of h) ss) ss) (in_range (shape_of h) ss) (result_of (shape_of h) ss)) s e in
    let all = accepts (first_misfit 0 (places (shape_of h) ss) ss) (in_range (shape_of h) ss) (result_of (shape_of h) ss) s told.1 in
    record {
      number = told.0;
      sorts = all.sorts;
      range = all.range;
      narrow = subst (λ t. nat_le (width t) most_bits ≡ true) (sym all.result) all.narrow;
      result = all.result;
    }

passed_ok : (h : Head) (ss : List Sort) (s : Sort) → Passed (shape_of h) ss s → rank h ss ≡ Ok s
unfolding rank
passed_ok h ss s p =
    let narrow : nat_le (width (result_of (shape_of h) ss)) most_bits ≡ true = subst (λ t. nat_le (width t) most_bits ≡ true) p.result p.narrow in
    let number : admits (arity (shape_of h)) (length ss) ≡ true = p.number in
    let sorts : first_misfit 0 (places (shape_of h) ss) ss ≡ None = p.sorts in
    let range : in_range (shape_of h) ss ≡ true = p.range in
    let result : s ≡ result_of (shape_of h) ss = p.result in
    (λ i. cond (number i) (accepted (sorts i) (range i) (result_of (shape_of h) ss)) (Err wrong_arity))
    ∙ (λ i. cond (narrow i) (Ok (result_of (shape_of h) ss)) (Err width_limit))
    ∙ ap (λ t. Ok t) (sym result)

-- ---- places that are filled

before_none : (x y : Option Fault) → before x y ≡ None → (x ≡ None) × (y ≡ None)
before_none None y h = (refl, h)
before_none (Some f) y h = absurd cc

only_none : (k : ℕ) (t s : Sort) → misfit k (only t) s ≡ None → s ≡ t
only_none k t s h =
    elim (true_or_false (sort_eq s t)) [
      | inl e ↦ (Decides-sort_eq s t).0 e
      | inr d ↦ absurd cc
    ]

width_none : (k : ℕ) (s : Sort) → misfit k any_width s ≡ None → (w : ℕ) × (s ≡ bit_vector w)
width_none k (bit_vector w) h = (w, refl)
width_none k _ h = absurd cc

array_none : (k : ℕ) (s : Sort) → misfit k any_array s ≡ None → (i : Sort) × (e : Sort) × (s ≡ array i e)
array_none k (array i e) h = (i, e, refl)
array_none k _ h = absurd cc

-- every operand has this sort
alike_none : (k : ℕ) (t : Sort) (ss us : List Sort) → length us ≡ length ss → first_misfit k (map (λ _. only t) us) ss ≡ None → ss ≡ replicate (length ss) t
alike_none k t [] us e h = refl
alike_none k t (s ∷ ss) [] e h = absurd (omega arith)
alike_none k t (s ∷ ss) (u ∷ us) e h =
    let parts = before_none (misfit k (only t) s) (first_misfit (suc k) (map (λ _. only t) us) ss) h in
    let here : s ≡ t = only_none k t s parts.0 in
    let behind : ss ≡ replicate (length ss) t = alike_none (suc k) t ss us (omega arith) parts.1 in
    cc

fixed_none : (k : ℕ) (args ss : List Sort) → length ss ≡ length args → first_misfit k (map only args) ss ≡ None → ss ≡ args
fixed_none k [] [] e h = refl
fixed_none k [] (s ∷ ss) e h = absurd (omega arith)
fixed_none k (a ∷ args) [] e h = absurd (omega arith)
fixed_none k (a ∷ args) (s ∷ ss) e h =
    let parts = before_none (misfit k (only a) s) (first_misfit (suc k) (map only args) ss) h in
    let here : s ≡ a = only_none k a s parts.0 in
    let behind : ss ≡ args = fixed_none (suc k) args ss (omega arith) parts.1 in
    cc

-- ---- the operands of each shape

pair_in : (ss : List Sort) → length ss ≡ 2 → first_misfit 0 (like_first ss) ss ≡ None → (t : Sort) × (ss ≡ t ∷ t ∷ [])
pair_in [] e h = absurd (omega arith)
pair_in (t ∷ []) e h = absurd (omega arith)
pair_in (t ∷ u ∷ []) e h =
    let second : u ≡ t = only_none 1 t u (before_none (misfit 1 (only t) u) None h).0 in
    (t, ap (λ v. t ∷ v ∷ []) second)
pair_in (t ∷ u ∷ v ∷ ss) e h = absurd (omega arith)

several_in : (t : Sort) (ss : List Sort) → 2 ≤ length ss → first_misfit 0 (map (λ _. only t) ss) ss ≡ None → (n : ℕ) × (ss ≡ t ∷ t ∷ replicate n t)
several_in t [] e h = absurd (omega arith)
several_in t (u ∷ []) e h = absurd (omega arith)
several_in t (u ∷ v ∷ ss) e h = (length ss, alike_none 0 t (u ∷ v ∷ ss) (u ∷ v ∷ ss) refl h)

distinct_in : (ss : List Sort) → 2 ≤ length ss → first_misfit 0 (like_first ss) ss ≡ None → (t : Sort) × (n : ℕ) × (ss ≡ t ∷ t ∷ replicate n t)
distinct_in [] e h = absurd (omega arith)
distinct_in (t ∷ []) e h = absurd (omega arith)
distinct_in (t ∷ u ∷ ss) e h =
    let behind : u ∷ ss ≡ t ∷ replicate (length ss) t = alike_none 1 t (u ∷ ss) (u ∷ ss) refl h in
    (t, length ss, ap (λ vs. t ∷ vs) behind)

choice_in : (ss : List Sort) → length ss ≡ 3 → first_misfit 0 (places choice ss) ss ≡ None → (t : Sort) × (ss ≡ bool ∷ t ∷ t ∷ [])
choice_in [] e h = absurd (omega arith)
choice_in (c ∷ []) e h = absurd (omega arith)
choice_in (c ∷ t ∷ []) e h = absurd (omega arith)
choice_in (c ∷ t ∷ u ∷ []) e h =
    let parts = before_none (misfit 0 (only bool) c) (before (misfit 2 (only t) u) None) h in
    let first : c ≡ bool = only_none 0 bool c parts.0 in
    let third : u ≡ t = only_none 2 t u (before_none (misfit 2 (only t) u) None parts.1).0 in
    (t, λ i. first i ∷ t ∷ third i ∷ [])
choice_in (c ∷ t ∷ u ∷ v ∷ ss) e h = absurd (omega arith)

one_width_in : (ss : List Sort) → length ss ≡ 1 → first_misfit 0 (any_width ∷ []) ss ≡ None → (w : ℕ) × (ss ≡ bit_vector w ∷ [])
one_width_in [] e h = absurd (omega arith)
one_width_in (s ∷ []) e h =
    let found = width_none 0 s (before_none (misfit 0 any_width s) None h).0 in
    (found.0, ap (λ t. t ∷ []) found.1)
one_width_in (s ∷ t ∷ ss) e h = absurd (omega arith)

two_widths_in : (ss : List Sort) → length ss ≡ 2 → first_misfit 0 (any_width ∷ any_width ∷ []) ss ≡ None → (v : ℕ) × (w : ℕ) × (ss ≡ bit_vector v ∷ bit_vector w ∷ [])
two_widths_in [] e h = absurd (omega arith)
two_widths_in (s ∷ []) e h = absurd (omega arith)
two_widths_in (s ∷ t ∷ []) e h =
    let parts = before_none (misfit 0 any_width s) (before (misfit 1 any_width t) None) h in
    let first = width_none 0 s parts.0 in
    let second = width_none 1 t (before_none (misfit 1 any_width t) None parts.1).0 in
    (first.0, second.0, λ i. first.1 i ∷ second.1 i ∷ [])
two_widths_in (s ∷ t ∷ u ∷ ss) e h = absurd (omega arith)

one_width_twice_in : (ss : List Sort) → length ss ≡ 2 → first_misfit 0 (places bitwise_pair ss) ss ≡ None → (w : ℕ) × (ss ≡ bit_vector w ∷ bit_vector w ∷ [])
one_width_twice_in [] e h = absurd (omega arith)
one_width_twice_in (s ∷ []) e h = absurd (omega arith)
one_width_twice_in (s ∷ t ∷ []) e h =
    let parts = before_none (misfit 0 any_width s) (before (misfit 1 (only s) t) None) h in
    let first = width_none 0 s parts.0 in
    let second : t ≡ s = only_none 1 s t (before_none (misfit 1 (only s) t) None parts.1).0 in
    (first.0, (λ i. s ∷ second i ∷ []) ∙ (λ i. first.1 i ∷ first.1 i ∷ []))
one_width_twice_in (s ∷ t ∷ u ∷ ss) e h = absurd (omega arith)

selection_in : (ss : List Sort) → length ss ≡ 2 → first_misfit 0 (places selection ss) ss ≡ None → (i : Sort) × (e : Sort) × (ss ≡ array i e ∷ i ∷ [])
selection_in [] l h = absurd (omega arith)
selection_in (s ∷ []) l h = absurd (omega arith)
selection_in (array i e ∷ t ∷ []) l h =
    let second : t ≡ i = only_none 1 i t (before_none (misfit 1 (only i) t) None h).0 in
    (i, e, ap (λ u. array i e ∷ u ∷ []) second)
selection_in (_ ∷ t ∷ []) l h = absurd cc
selection_in (s ∷ t ∷ u ∷ ss) l h = absurd (omega arith)

storing_in : (ss : List Sort) → length ss ≡ 3 → first_misfit 0 (places storing ss) ss ≡ None → (i : Sort) × (e : Sort) × (ss ≡ array i e ∷ i ∷ e ∷ [])
storing_in [] l h = absurd (omega arith)
storing_in (s ∷ []) l h = absurd (omega arith)
storing_in (s ∷ t ∷ []) l h = absurd (omega arith)
storing_in (array i e ∷ t ∷ u ∷ []) l h =
    let parts = before_none (misfit 1 (only i) t) (before (misfit 2 (only e) u) None) h in
    let second : t ≡ i = only_none 1 i t parts.0 in
    let third : u ≡ e = only_none 2 e u (before_none (misfit 2 (only e) u) None parts.1).0 in
    (i, e, λ x. array i e ∷ second x ∷ third x ∷ [])
storing_in (_ ∷ t ∷ u ∷ []) l h = absurd cc
storing_in (s ∷ t ∷ u ∷ v ∷ ss) l h = absurd (omega arith)

filling_in : (r : Sort) (ss : List Sort) → length ss ≡ 1 → first_misfit 0 (places (filling r) ss) ss ≡ None → (i : Sort) × (e : Sort) × (r ≡ array i e) × (ss ≡ e ∷ [])
filling_in r [] l h = absurd (omega arith)
filling_in (array i e) (s ∷ []) l h =
    let only_one : s ≡ e = only_none 0 e s (before_none (misfit 0 (only e) s) None h).0 in
    (i, e, refl, ap (λ t. t ∷ []) only_one)
filling_in _ (s ∷ []) l h = absurd cc
filling_in r (s ∷ t ∷ ss) l h = absurd (omega arith)

none_in : (ss : List Sort) → length ss ≡ 0 → ss ≡ []
none_in [] h = refl
none_in (a ∷ ss) h = absurd (omega arith)

-- ---- from the tests to the relation

exact : (ss : List Sort) (n : ℕ) → (length ss == n) ≡ true → length ss ≡ n
exact ss n h = (Decides-eqb (length ss) n).0 h

takes : (sh : Shape) (ss : List Sort) (s : Sort) → Passed sh ss s → Takes sh ss s
takes (fixed args r) ss s p = (fixed_none 0 args ss (exact ss (length args) p.number) p.sorts, p.result)
takes (several t) ss s p =
    let found = several_in t ss (leb-true 2 (length ss) p.number) p.sorts in
    (found.0, found.1, p.result)
takes equation ss s p =
    let found = pair_in ss (exact ss 2 p.number) p.sorts in
    (found.0, found.1, p.result)
takes distinctness ss s p =
    let found = distinct_in ss (leb-true 2 (length ss) p.number) p.sorts in
    (found.0, found.1, found.2, p.result)
takes choice ss s p =
    let found = choice_in ss (exact ss 3 p.number) p.sorts in
    (found.0, found.1, p.result ∙ ap (operand 1) found.1)
takes (whole_number n) ss s p = (none_in ss (exact ss 0 p.number), ltb-true (nat_abs n) (2 ^ 127) p.range, p.result)
takes (bit_constant w bits) ss s p =
    let ranges = both_true (nat_lt 0 w) (nat_lt most_bits w || nat_lt bits (2 ^ w)) p.range in
    let narrow : w ≤ most_bits = leb-true w most_bits (subst (λ t. nat_le (width t) most_bits ≡ true) p.result p.narrow) in
    let low : bits < 2 ^ w = elim (either_true (nat_lt most_bits w) (nat_lt bits (2 ^ w)) ranges.1) [
      | inl wide ↦ let above : most_bits < w = ltb-true most_bits w wide in absurd (omega arith)
      | inr fine ↦ ltb-true bits (2 ^ w) fine
    ] in
    (none_in ss (exact ss 0 p.number), ltb-true 0 w ranges.0, low, p.result)
takes concatenation ss s p =
    let found = two_widths_in ss (exact ss 2 p.number) p.sorts in
    (found.0, found.1, found.2, p.result ∙ ap (λ us. bit_vector (width (operand 0 us) + width (operand 1 us))) found.2)
takes (extraction high low) ss s p =
    let found = one_width_in ss (exact ss 1 p.number) p.sorts in
    let ranges = both_true (nat_lt high (width (operand 0 ss))) (nat_le low high) p.range in
    let below : high < found.0 = subst (λ us. high < width (operand 0 us)) found.1 (ltb-true high (width (operand 0 ss)) ranges.0) in
    (found.0, found.1, leb-true low high ranges.1, below, p.result)
takes (extension i) ss s p =
    let found = one_width_in ss (exact ss 1 p.number) p.sorts in
    (found.0, found.1, p.result ∙ ap (λ us. bit_vector (width (operand 0 us) + i)) found.1)
takes (rotation i) ss s p =
    let found = one_width_in ss (exact ss 1 p.number) p.sorts in
    let below : i < found.0 = subst (λ us. i < width (operand 0 us)) found.1 (ltb-true i (width (operand 0 ss)) p.range) in
    (found.0, found.1, below, p.result ∙ ap (operand 0) found.1)
takes bitwise ss s p =
    let found = one_width_in ss (exact ss 1 p.number) p.sorts in
    (found.0, found.1, p.result ∙ ap (operand 0) found.1)
takes bitwise_pair ss s p =
    let found = one_width_twice_in ss (exact ss 2 p.number) p.sorts in
    (found.0, found.1, p.result ∙ ap (operand 0) found.1)
takes (bits_comparison r) ss s p =
    let found = one_width_twice_in ss (exact ss 2 p.number) p.sorts in
    (found.0, found.1, p.result)
takes selection ss s p =
    let found = selection_in ss (exact ss 2 p.number) p.sorts in
    let result : s ≡ found.1 = p.result ∙ ap (λ us. element_sort (operand 0 us)) found.2 in
    (found.0, found.2 ∙ ap (λ e. array found.0 e ∷ found.0 ∷ []) (sym result))
takes storing ss s p =
    let found = storing_in ss (exact ss 3 p.number) p.sorts in
    (found.0, found.1, found.2, p.result ∙ ap (operand 0) found.2)
takes (filling r) ss s p =
    let found = filling_in r ss (exact ss 1 p.number) p.sorts in
    (found.0, found.1, found.2, found.3, p.result)
takes no_head ss s p = absurd (false_range p.range)
  where
    false_range : false ≡ true → ⊥
    false_range e = cc

-- an operator takes what `rank` accepts, and gives its answer
pub rank-takes : (h : Head) (ss : List Sort) (s : Sort) → rank h ss ≡ Ok s → Takes (shape_of h) ss s
rank-takes h ss s e = takes (shape_of h) ss s (passed h ss s e)

pub rank-narrow : (h : Head) (ss : List Sort) (s : Sort) → rank h ss ≡ Ok s → width s ≤ most_bits
rank-narrow h ss s e = leb-true (width s) most_bits (passed h ss s e).narrow

-- ---- from the relation to the tests

only_fits : (k : ℕ) (t : Sort) → misfit k (only t) t ≡ None
only_fits k t = let itself : sort_eq t t ≡ true = (Decides-sort_eq t t).1 refl in cc

alike_fits : (k : ℕ) (t : Sort) (n : ℕ) → first_misfit k (map (λ _. only t) (replicate n t)) (replicate n t) ≡ None
alike_fits k t zero = refl
alike_fits k t (suc n) =
    let here : misfit k (only t) t ≡ None = only_fits k t in
    let behind : first_misfit (suc k) (map (λ _. only t) (replicate n t)) (replicate n t) ≡ None = alike_fits (suc k) t n in
    cc

fixed_fits : (k : ℕ) (args : List Sort) → first_misfit k (map only args) args ≡ None
fixed_fits k [] = refl
fixed_fits k (a ∷ args) =
    let here : misfit k (only a) a ≡ None = only_fits k a in
    let behind : first_misfit (suc k) (map only args) args ≡ None = fixed_fits (suc k) args in
    cc

-- an operand of the sort that is wanted in second place
second_fits : (t : Sort) → first_misfit 1 (only t ∷ []) (t ∷ []) ≡ None
second_fits t = let here : misfit 1 (only t) t ≡ None = only_fits 1 t in cc

pub le_true : (m n : ℕ) → m ≤ n → nat_le m n ≡ true
le_true m n h = grind (arith, nat_tests)

pub lt_true : (m n : ℕ) → m < n → nat_lt m n ≡ true
lt_true m n h = grind (arith, nat_tests)

-- the tests at given operands and result, but for the width
record Fitting (sh : Shape) (us : List Sort) (r : Sort) : Type 0 where
  number : admits (arity sh) (length us) ≡ true
  sorts : first_misfit 0 (places sh us) us ≡ None
  range : in_range sh us ≡ true
  result : r ≡ result_of sh us

at : (sh : Shape) (ss : List Sort) (s : Sort) (us : List Sort) (r : Sort) → ss ≡ us → s ≡ r → width s ≤ most_bits → Fitting sh us r → Passed sh ss s
at sh ss s us r operands result narrow fit = record {
  number = subst (λ vs. admits (arity sh) (length vs) ≡ true) (sym operands) fit.number;
  sorts = subst (λ vs. first_misfit 0 (places sh vs) vs ≡ None) (sym operands) fit.sorts;
  range = subst (λ vs. in_range sh vs ≡ true) (sym operands) fit.range;
  narrow = le_true (width s) most_bits narrow;
  result = result ∙ fit.result ∙ ap (result_of sh) (sym operands);
}

gives : (sh : Shape) (ss : List Sort) (s : Sort) → Takes sh ss s → width s ≤ most_bits → Passed sh ss s
gives (fixed args r) ss s t h = at (fixed args r) ss s args r t.0 t.1 h (record {
  number = (Decides-eqb (length args) (length args)).1 refl;
  sorts = fixed_fits 0 args;
  range = refl;
  result = refl;
})
gives (several u) ss s t h = at (several u) ss s (u ∷ u ∷ replicate t.0 u) u t.1 t.2 h (record {
  number = le_true 2 (length (u ∷ u ∷ replicate t.0 u)) (omega arith);
  sorts = alike_fits 0 u (suc (suc t.0));
  range = refl;
  result = refl;
})
gives equation ss s t h = at equation ss s (t.0 ∷ t.0 ∷ []) bool t.1 t.2 h (record { number = refl; sorts = second_fits t.0; range = refl; result = refl })
gives distinctness ss s t h = at distinctness ss s (t.0 ∷ t.0 ∷ replicate t.1 t.0) bool t.2 t.3 h (record {
  number = le_true 2 (length (t.0 ∷ t.0 ∷ replicate t.1 t.0)) (omega arith);
  sorts = alike_fits 1 t.0 (suc t.1);
  range = refl;
  result = refl;
})
gives choice ss s t h = at choice ss s (bool ∷ t.0 ∷ t.0 ∷ []) t.0 t.1 t.2 h (record {
  number = refl;
  sorts = let here : misfit 2 (only t.0) t.0 ≡ None = only_fits 2 t.0 in cc;
  range = refl;
  result = refl;
})
gives (whole_number n) ss s t h = at (whole_number n) ss s [] int t.0 t.2 h (record { number = refl; sorts = refl; range = lt_true (nat_abs n) (2 ^ 127) t.1; result = refl })
gives (bit_constant w bits) ss s t h = at (bit_constant w bits) ss s [] (bit_vector w) t.0 t.3 h (record {
  number = refl;
  sorts = refl;
  range = and_true (nat_lt 0 w) (nat_lt most_bits w || nat_lt bits (2 ^ w)) (lt_true 0 w t.1) (right_true (nat_lt most_bits w) (nat_lt bits (2 ^ w)) (lt_true bits (2 ^ w) t.2));
  result = refl;
})
gives concatenation ss s t h = at concatenation ss s (bit_vector t.0 ∷ bit_vector t.1 ∷ []) (bit_vector (t.0 + t.1)) t.2 t.3 h (record { number = refl; sorts = refl; range = refl; result = refl })
gives (extraction high low) ss s t h = at (extraction high low) ss s (bit_vector t.0 ∷ []) (bit_vector (high - low + 1)) t.1 t.4 h (record {
  number = refl;
  sorts = refl;
  range = and_true (nat_lt high t.0) (nat_le low high) (lt_true high t.0 t.3) (le_true low high t.2);
  result = refl;
})
gives (extension i) ss s t h = at (extension i) ss s (bit_vector t.0 ∷ []) (bit_vector (t.0 + i)) t.1 t.2 h (record { number = refl; sorts = refl; range = refl; result = refl })
gives (rotation i) ss s t h = at (rotation i) ss s (bit_vector t.0 ∷ []) (bit_vector t.0) t.1 t.3 h (record { number = refl; sorts = refl; range = lt_true i t.0 t.2; result = refl })
gives bitwise ss s t h = at bitwise ss s (bit_vector t.0 ∷ []) (bit_vector t.0) t.1 t.2 h (record { number = refl; sorts = refl; range = refl; result = refl })
gives bitwise_pair ss s t h = at bitwise_pair ss s (bit_vector t.0 ∷ bit_vector t.0 ∷ []) (bit_vector t.0) t.1 t.2 h (record { number = refl; sorts = second_fits (bit_vector t.0); range = refl; result = refl })
gives (bits_comparison r) ss s t h = at (bits_comparison r) ss s (bit_vector t.0 ∷ bit_vector t.0 ∷ []) r t.1 t.2 h (record { number = refl; sorts = second_fits (bit_vector t.0); range = refl; result = refl })
gives selection ss s t h = at selection ss s (array t.0 s ∷ t.0 ∷ []) s t.1 refl h (record { number = refl; sorts = second_fits t.0; range = refl; result = refl })
gives storing ss s t h = at storing ss s (array t.0 t.1 ∷ t.0 ∷ t.1 ∷ []) (array t.0 t.1) t.2 t.3 h (record {
  number = refl;
  sorts = let key : misfit 1 (only t.0) t.0 ≡ None = only_fits 1 t.0 in let value : misfit 2 (only t.1) t.1 ≡ None = only_fits 2 t.1 in cc;
  range = refl;
  result = refl;
})
gives (filling r) ss s t h = at (filling r) ss s (t.1 ∷ []) r t.3 t.4 h (record {
  number = refl;
  sorts = subst (λ q. first_misfit 0 (element_place q ∷ []) (t.1 ∷ []) ≡ None) (sym t.2) (let here : misfit 0 (only t.1) t.1 ≡ None = only_fits 0 t.1 in cc);
  range = refl;
  result = refl;
})
gives no_head ss s t h = absurd t

pub takes-rank : (h : Head) (ss : List Sort) (s : Sort) → Takes (shape_of h) ss s → width s ≤ most_bits → rank h ss ≡ Ok s
takes-rank h ss s t narrow = passed_ok h ss s (gives (shape_of h) ss s t narrow)
