-- The least number among those of terms that pass a test, and the bits that the terms of an assertion bind, with one term more.
use Rattle.std.proofs.Common.{◌≡◌, ◌∙◌, sym, ap, refl, subst, ℕ, ◌<◌, ◌≤◌, ◌==◌, min, max, Bool, true, false, cond, List, [], ◌∷◌, ◌++◌, filter, nat_lt, Option, Some, None, All, arith}
use Rattle.std.specs.List.{fold}
use Rattle.std.proofs.lemmas.Bool.{ltb-false, eqb-true, lt-ltb, le-ltb, eq-eqb}
use Rattle.std.proofs.lemmas.List.{map-append, append-nil}
use Rattle.std.proofs.lemmas.List.Elements.{filter-append, All-nil, All-cons, All-head, All-tail}
use Rattle.std.proofs.lemmas.List.Sums.{fold-append}
use Rattle.smt_terms.specs.Val.{bits_bound}
use Rattle.evaluation.specs.Evaluated.{told_bits}
use Rattle.passes.specs.declared.carrying.Wide.{Wide}
use Rattle.pass_laws.specs.Carry.{Asked, numbers, greatest_bound, most_bits}
use Rattle.pass_laws.specs.Passed.{least}
use Rattle.passes.specs.LiveSymbols.{widest_of, bits_among, IsWidest}

-- ---- the least of numbers

abbrev pub lesser : Option ℕ → ℕ → Option ℕ
lesser None n = Some n
lesser (Some a) n = Some (min a n)

pub least-more : (ns : List ℕ) (n : ℕ) → least (ns ++ n ∷ []) ≡ lesser (least ns) n
least-more [] n = refl
least-more (x ∷ ns) n = ap Some (fold-append min x ns (n ∷ []))

-- a number is less than the least one, where there is one
abbrev pub IsBelow : ℕ → Option ℕ → Type 0
IsBelow n None = Unit {0}
IsBelow n (Some a) = n < a

below_fold : (n x : ℕ) (xs : List ℕ) → n < fold min x xs → (n < x) × All (λ y. n < y) xs
below_fold n x [] h = (h, All-nil (λ y. n < y))
below_fold n x (y ∷ ys) h =
    let rest = below_fold n (min x y) ys h in
    let first : n < min x y = rest.0 in
    (omega (arith, first), All-cons (λ z. n < z) y ys (omega (arith, first)) rest.1)

pub below_all : (n : ℕ) (ns : List ℕ) → IsBelow n (least ns) → All (λ y. n < y) ns
below_all n [] h = All-nil (λ y. n < y)
below_all n (x ∷ xs) h = let all = below_fold n x xs h in All-cons (λ y. n < y) x xs all.0 all.1

-- ---- the least number of terms that pass a test

abbrev pub picked : (Asked → Bool) → List Asked → Option ℕ
picked p qs = least (numbers (filter p qs))

picked_last : (p : Asked → Bool) (qs : List Asked) (q : Asked) (b : Bool) → least (numbers (filter p qs ++ cond b (q ∷ []) [])) ≡ cond b (lesser (picked p qs) q.number) (picked p qs)
picked_last p qs q true = ap least (map-append (λ (a : Asked). a.number) (filter p qs) (q ∷ [])) ∙ least-more (numbers (filter p qs)) q.number
picked_last p qs q false = ap (λ rs. least (numbers rs)) (append-nil (filter p qs))

pub picked-more : (p : Asked → Bool) (qs : List Asked) (q : Asked) → picked p (qs ++ q ∷ []) ≡ cond (p q) (lesser (picked p qs) q.number) (picked p qs)
picked-more p qs q = ap (λ rs. least (numbers rs)) (filter-append p qs (q ∷ [])) ∙ picked_last p qs q (p q)

pub picked-passed : (p : Asked → Bool) (qs : List Asked) (q : Asked) (o : Option ℕ) → p q ≡ true → picked p qs ≡ o → picked p (qs ++ q ∷ []) ≡ lesser o q.number
picked-passed p qs q o passes is = picked-more p qs q ∙ (λ i. cond (passes i) (lesser (is i) q.number) (is i))

pub picked-other : (p : Asked → Bool) (qs : List Asked) (q : Asked) (o : Option ℕ) → p q ≡ false → picked p qs ≡ o → picked p (qs ++ q ∷ []) ≡ o
picked-other p qs q o other is = picked-more p qs q ∙ (λ i. cond (other i) (lesser (is i) q.number) (is i))

-- ---- the bits of an assertion's terms

abbrev of_number : ℕ → List Asked → List Asked
of_number i qs = filter (λ q. q.number == i) qs

greatest-append : (xs ys : List Asked) → greatest_bound (xs ++ ys) ≡ max (greatest_bound xs) (greatest_bound ys)
greatest-append [] ys = omega arith
greatest-append (x ∷ xs) ys = let rest = greatest-append xs ys in omega (arith, rest)

bound_last : (i : ℕ) (qs : List Asked) (q : Asked) (b : Bool) → greatest_bound (of_number i qs ++ cond b (q ∷ []) []) ≡ cond b (max (greatest_bound (of_number i qs)) (bits_bound q.term)) (greatest_bound (of_number i qs))
bound_last i qs q true = let both = greatest-append (of_number i qs) (q ∷ []) in omega (arith, both)
bound_last i qs q false = ap greatest_bound (append-nil (of_number i qs))

greatest-more : (i : ℕ) (qs : List Asked) (q : Asked) (b : Bool) → (q.number == i) ≡ b → greatest_bound (of_number i (qs ++ q ∷ [])) ≡ cond b (max (greatest_bound (of_number i qs)) (bits_bound q.term)) (greatest_bound (of_number i qs))
greatest-more i qs q b same =
    ap greatest_bound (filter-append (λ (a : Asked). a.number == i) qs (q ∷ []))
    ∙ bound_last i qs q (q.number == i)
    ∙ ap (λ c. cond c (max (greatest_bound (of_number i qs)) (bits_bound q.term)) (greatest_bound (of_number i qs))) same

abbrev pub is_wide : Asked → Bool
is_wide q = nat_lt most_bits (bits_bound q.term)

-- where all wide ones have greater numbers, those of this number are narrow
narrow_first : (n : ℕ) (q : Asked) (qs : List Asked) (w e : Bool) → is_wide q ≡ w → (q.number == n) ≡ e → All (λ y. n < y) (numbers (cond w (q ∷ filter is_wide qs) (filter is_wide qs)))
    → (All (λ y. n < y) (numbers (filter is_wide qs)) → greatest_bound (of_number n qs) ≤ most_bits) → greatest_bound (cond e (q ∷ of_number n qs) (of_number n qs)) ≤ most_bits
narrow_first n q qs true true wide same above rest =
    let more : n < q.number = All-head (λ y. n < y) q.number (numbers (filter is_wide qs)) above in
    let is : q.number ≡ n = eqb-true q.number n same in
    absurd (omega arith)
narrow_first n q qs true false wide same above rest = rest (All-tail (λ y. n < y) q.number (numbers (filter is_wide qs)) above)
narrow_first n q qs false true wide same above rest =
    let narrow : bits_bound q.term ≤ most_bits = ltb-false most_bits (bits_bound q.term) wide in
    let others : greatest_bound (of_number n qs) ≤ most_bits = rest above in
    omega arith
narrow_first n q qs false false wide same above rest = rest above

narrow_of : (n : ℕ) (qs : List Asked) → All (λ y. n < y) (numbers (filter is_wide qs)) → greatest_bound (of_number n qs) ≤ most_bits
narrow_of n [] above = omega arith
narrow_of n (q ∷ qs) above = narrow_first n q qs (is_wide q) (q.number == n) refl refl above (narrow_of n qs)

below_narrow : (n : ℕ) (qs : List Asked) → IsBelow n (widest_of qs) → greatest_bound (of_number n qs) ≤ most_bits
below_narrow n qs below = narrow_of n qs (below_all n (numbers (filter is_wide qs)) below)

-- ---- the least assertion with a wide term, with one term more

module _ (qs : List Asked) (q : Asked) (bits : ℕ) (is : bits ≡ told_bits (bits_bound q.term)) where
  wide_here : 16 < bits → is_wide q ≡ true
  wide_here h = lt-ltb most_bits (bits_bound q.term) (omega arith)

  narrow_here : bits ≤ 16 → is_wide q ≡ false
  narrow_here h = le-ltb most_bits (bits_bound q.term) (omega arith)

  pub none_narrow : widest_of qs ≡ None → bits ≤ 16 → widest_of (qs ++ q ∷ []) ≡ None
  none_narrow before h = picked-other is_wide qs q None (narrow_here h) before

  bits_first : IsBelow q.number (widest_of qs) → 16 < bits → bits ≡ bits_among q.number (qs ++ q ∷ [])
  bits_first below h =
      let narrow : greatest_bound (of_number q.number qs) ≤ 16 = below_narrow q.number qs below in
      let more = greatest-more q.number qs q true (eq-eqb q.number q.number refl) in
      omega (arith, more)

  pub none_wide : widest_of qs ≡ None → 16 < bits → IsWidest (qs ++ q ∷ []) (Some (record { assertion = q.number; bits = bits }))
  none_wide before h = (picked-passed is_wide qs q None (wide_here h) before, bits_first (subst (IsBelow q.number) (sym before) tt) h)

  pub less_wide : (w : Wide) → IsWidest qs (Some w) → q.number < w.assertion → 16 < bits → IsWidest (qs ++ q ∷ []) (Some (record { assertion = q.number; bits = bits }))
  less_wide w before less h =
      let least : min w.assertion q.number ≡ q.number = omega arith in
      (picked-passed is_wide qs q (Some w.assertion) (wide_here h) before.0 ∙ ap Some least, bits_first (subst (IsBelow q.number) (sym before.0) less) h)

  greater_stays : (a : ℕ) → picked is_wide qs ≡ Some a → a ≤ q.number → (b : Bool) → is_wide q ≡ b → widest_of (qs ++ q ∷ []) ≡ Some a
  greater_stays a before le true wide = picked-passed is_wide qs q (Some a) wide before ∙ ap Some (let least : min a q.number ≡ a = omega arith in least)
  greater_stays a before le false wide = picked-other is_wide qs q (Some a) wide before

  pub same_wide : (w : Wide) → IsWidest qs (Some w) → q.number ≡ w.assertion → (r : ℕ) → r ≡ max w.bits bits → IsWidest (qs ++ q ∷ []) (Some (record { assertion = q.number; bits = r }))
  same_wide w before same r is_max =
      let so = before.1 in
      let more = greatest-more w.assertion qs q true (eq-eqb q.number w.assertion same) in
      let bits_are : r ≡ bits_among w.assertion (qs ++ q ∷ []) = omega (arith, more, so) in
      (greater_stays w.assertion before.0 (omega arith) (is_wide q) refl ∙ ap Some (sym same), bits_are ∙ ap (λ a. bits_among a (qs ++ q ∷ [])) (sym same))

  other_bits : (a : ℕ) → (q.number == a) ≡ false → bits_among a (qs ++ q ∷ []) ≡ bits_among a qs
  other_bits a other = ap told_bits (greatest-more a qs q false other)

  pub narrow_wide : (w : Wide) → IsWidest qs (Some w) → (q.number == w.assertion) ≡ false → bits ≤ 16 → IsWidest (qs ++ q ∷ []) (Some w)
  narrow_wide w before other h = (picked-other is_wide qs q (Some w.assertion) (narrow_here h) before.0, before.1 ∙ sym (other_bits w.assertion other))

  pub greater_wide : (w : Wide) → IsWidest qs (Some w) → (q.number == w.assertion) ≡ false → w.assertion < q.number → IsWidest (qs ++ q ∷ []) (Some w)
  greater_wide w before other more = (greater_stays w.assertion before.0 (omega arith) (is_wide q) refl, before.1 ∙ sym (other_bits w.assertion other))
