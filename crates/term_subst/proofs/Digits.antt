-- Digits, lowest first, are those of their number, and one more is the number behind.
use Rattle.std.proofs.Common.{◌≡◌, ℕ, zero, suc, ◌+◌, ◌*◌, ◌/◌, ◌%◌, ◌<◌, ◌≤◌, nat_lt, Bool, true, false, if◌then◌else◌, List, [], ◌∷◌, ◌++◌, length, get_or, slice_set, take, drop, reverse, refl, ap, sym, ◌∙◌, arith}
use Rattle.std.proofs.lemmas.Bool.{ltb-true, ltb-false}
use Rattle.std.proofs.lemmas.Nat.{div-add-mod'}
use Rattle.std.proofs.lemmas.List.{reverse-reverse, append_assoc}
use Rattle.std.proofs.Math.Nat.{div-lt_self}
use Rattle.std.proofs.lemmas.Grind.{reverse_onto}
use Rattle.smt_terms.specs.Numeral.{digits_before, numeral}
use Rattle.term_subst.specs.Counters.{value, digits_of, AreDigits, one_more}

-- the digits of n, lowest first, where there is room
abbrev pub low : ℕ → ℕ → List ℕ
low zero n = []
low (suc room) n = elim (nat_lt n 10) [ true ↦ (48 + n) ∷ [] | false ↦ (48 + n % 10) ∷ low room (n / 10) ]

before-low : (room n : ℕ) (after : List ℕ) → digits_before room n after ≡ reverse (low room n) ++ after
before-low zero n after = refl
before-low (suc room) n after = by (before-low room (n / 10) ((48 + n % 10) ∷ after)) (nat_lt n 10)
  where
    by : digits_before room (n / 10) ((48 + n % 10) ∷ after) ≡ reverse (low room (n / 10)) ++ (48 + n % 10) ∷ after → (b : Bool)
        → elim b as (λ _. List ℕ) [ true ↦ (48 + n) ∷ after | false ↦ digits_before room (n / 10) ((48 + n % 10) ∷ after) ]
        ≡ reverse (elim b as (λ _. List ℕ) [ true ↦ (48 + n) ∷ [] | false ↦ (48 + n % 10) ∷ low room (n / 10) ]) ++ after
    by rest true = refl
    by rest false =
        rest ∙ sym (append_assoc (reverse (low room (n / 10))) ((48 + n % 10) ∷ []) after)
        ∙ ap (λ ds. ds ++ after) (sym (reverse_onto (low room (n / 10)) (48 + n % 10) []))

append-nothing : (xs : List ℕ) → xs ++ [] ≡ xs
append-nothing [] = refl
append-nothing (x ∷ xs) = ap (λ l. x ∷ l) (append-nothing xs)

pub numeral-low : (n : ℕ) → numeral n ≡ reverse (low (suc n) n)
numeral-low n = before-low (suc n) n [] ∙ append-nothing (reverse (low (suc n) n))

pub digits-low : (n : ℕ) → digits_of (suc n) ≡ low (suc (suc n)) (suc n)
digits-low n = ap reverse (numeral-low (suc n)) ∙ reverse-reverse (low (suc (suc n)) (suc n))

fewer : (n room : ℕ) → 10 ≤ n → n < suc room → n / 10 < room
fewer n room h k =
    let less : n / 10 < n = div-lt_self (omega arith) (omega arith) in
    omega arith

-- more room gives the same
low-room : (r s n : ℕ) → n < r → n < s → low r n ≡ low s n
low-room zero s n h k = absurd (omega arith)
low-room (suc r) zero n h k = absurd (omega arith)
low-room (suc r) (suc s) n h k = by (low-room r s (n / 10)) (nat_lt n 10) refl
  where
    by : (n / 10 < r → n / 10 < s → low r (n / 10) ≡ low s (n / 10)) → (b : Bool) → nat_lt n 10 ≡ b → elim b as (λ _. List ℕ) [ true ↦ (48 + n) ∷ [] | false ↦ (48 + n % 10) ∷ low r (n / 10) ]
        ≡ elim b as (λ _. List ℕ) [ true ↦ (48 + n) ∷ [] | false ↦ (48 + n % 10) ∷ low s (n / 10) ]
    by rest true e = refl
    by rest false e =
        let large : 10 ≤ n = ltb-false n 10 e in
        ap (λ ds. (48 + n % 10) ∷ ds) (rest (fewer n r large h) (fewer n s large k))

value-low : (r n : ℕ) → n < r → value (low r n) ≡ n
value-low zero n h = absurd (omega arith)
value-low (suc r) n h = by (value-low r (n / 10)) (nat_lt n 10) refl
  where
    by : (n / 10 < r → value (low r (n / 10)) ≡ n / 10) → (b : Bool) → nat_lt n 10 ≡ b → value (elim b as (λ _. List ℕ) [ true ↦ (48 + n) ∷ [] | false ↦ (48 + n % 10) ∷ low r (n / 10) ]) ≡ n
    by below true e = omega arith
    by below false e =
        let rest : value (low r (n / 10)) ≡ n / 10 = below (fewer n r (ltb-false n 10 e) h) in
        let whole : n / 10 * 10 + n % 10 ≡ n = div-add-mod' n 10 in
        omega arith

pub value-digits_of : (n : ℕ) → value (digits_of n) ≡ n
value-digits_of zero = refl
value-digits_of (suc n) = ap value (digits-low n) ∙ value-low (suc (suc n)) (suc n) (omega arith)

pub digits_of-AreDigits : (n : ℕ) → AreDigits (digits_of n)
digits_of-AreDigits n = ap digits_of (sym (value-digits_of n))

-- ---- one more

one : (r : ℕ) → 1 < r → low r 1 ≡ 49 ∷ []
one zero h = absurd (omega arith)
one (suc r) h = refl

low-small : (r n : ℕ) → n < 10 → n < r → low r n ≡ (48 + n) ∷ []
low-small zero n h k = absurd (omega arith)
low-small (suc r) n h k = by (nat_lt n 10) refl
  where
    by : (b : Bool) → nat_lt n 10 ≡ b → elim b as (λ _. List ℕ) [ true ↦ (48 + n) ∷ [] | false ↦ (48 + n % 10) ∷ low r (n / 10) ] ≡ (48 + n) ∷ []
    by true e = refl
    by false e = absurd (let large : 10 ≤ n = ltb-false n 10 e in omega arith)

low-large : (r n : ℕ) → 10 ≤ n → n < suc r → low (suc r) n ≡ (48 + n % 10) ∷ low r (n / 10)
low-large r n h k = by (nat_lt n 10) refl
  where
    by : (b : Bool) → nat_lt n 10 ≡ b → elim b as (λ _. List ℕ) [ true ↦ (48 + n) ∷ [] | false ↦ (48 + n % 10) ∷ low r (n / 10) ] ≡ (48 + n % 10) ∷ low r (n / 10)
    by true e = absurd (let small : n < 10 = ltb-true n 10 e in omega arith)
    by false e = refl

more-small : (d : ℕ) (ds : List ℕ) → d < 57 → one_more (d ∷ ds) ≡ (d + 1) ∷ ds
more-small d ds h = by (nat_lt d 57) refl
  where
    by : (b : Bool) → nat_lt d 57 ≡ b → (if b then (d + 1) ∷ ds else 48 ∷ one_more ds) ≡ (d + 1) ∷ ds
    by true e = refl
    by false e = absurd (let large : 57 ≤ d = ltb-false d 57 e in omega arith)

more-nine : (d : ℕ) (ds : List ℕ) → 57 ≤ d → one_more (d ∷ ds) ≡ 48 ∷ one_more ds
more-nine d ds h = by (nat_lt d 57) refl
  where
    by : (b : Bool) → nat_lt d 57 ≡ b → (if b then (d + 1) ∷ ds else 48 ∷ one_more ds) ≡ 48 ∷ one_more ds
    by true e = absurd (let small : d < 57 = ltb-true d 57 e in omega arith)
    by false e = refl

-- what is 10 q + d
split-more : (n : ℕ) → n % 10 < 9 → (suc n / 10 ≡ n / 10) × (suc n % 10 ≡ suc (n % 10))
split-more n h = (omega arith, omega arith)

split-nine : (n : ℕ) → 9 ≤ n % 10 → (suc n / 10 ≡ suc (n / 10)) × (suc n % 10 ≡ 0) × (n % 10 ≡ 9)
split-nine n h = (omega arith, omega arith, omega arith)

more-low : (r n : ℕ) → 0 < n → n < r → one_more (low r n) ≡ low (suc r) (suc n)
more-low zero n p h = absurd (omega arith)
more-low (suc r) n p h = by (more-low r (n / 10)) (nat_lt n 9) (nat_lt n 10) (nat_lt (n % 10) 9) refl refl refl
  where
    by : (0 < n / 10 → n / 10 < r → one_more (low r (n / 10)) ≡ low (suc r) (suc (n / 10))) → (a b c : Bool) → nat_lt n 9 ≡ a → nat_lt n 10 ≡ b → nat_lt (n % 10) 9 ≡ c → one_more (low (suc r) n) ≡ low (suc (suc r)) (suc n)
    by rest true b c e f g =
        let small : n < 9 = ltb-true n 9 e in
        ap one_more (low-small (suc r) n (omega arith) h) ∙ more-small (48 + n) [] (omega arith) ∙ ap (λ d. d ∷ []) (let e : 48 + n + 1 ≡ 48 + suc n = omega arith in e) ∙ sym (low-small (suc (suc r)) (suc n) (omega arith) (omega arith))
    by rest false true c e f g =
        let least : 9 ≤ n = ltb-false n 9 e in
        let small : n < 10 = ltb-true n 10 f in
        let nine : 9 ≡ n = omega arith in
        ap one_more (low-small (suc r) n small h) ∙ more-nine (48 + n) [] (omega arith)
        ∙ ap (λ ds. 48 ∷ ds) (sym (one (suc r) (omega arith))) ∙ sym (low-large (suc r) 10 (omega arith) (omega arith)) ∙ ap (λ k. low (suc (suc r)) (suc k)) nine
    by rest false false true e f g =
        let large : 10 ≤ n = ltb-false n 10 f in
        let less : n % 10 < 9 = ltb-true (n % 10) 9 g in
        let same = split-more n less in
        ap one_more (low-large r n large h) ∙ more-small (48 + n % 10) (low r (n / 10)) (omega arith)
        ∙ (λ i. (let e : 48 + n % 10 + 1 ≡ 48 + suc n % 10 = omega (arith, same.1) in e) i ∷ low-room r (suc r) (n / 10) (fewer n r large h) (omega (arith, fewer n r large h)) i)
        ∙ ap (λ k. (48 + suc n % 10) ∷ low (suc r) k) (sym same.0) ∙ sym (low-large (suc r) (suc n) (omega arith) (omega arith))
    by rest false false false e f g =
        let large : 10 ≤ n = ltb-false n 10 f in
        let most : 9 ≤ n % 10 = ltb-false (n % 10) 9 g in
        let next = split-nine n most in
        let some : 0 < n / 10 = omega arith in
        ap one_more (low-large r n large h) ∙ more-nine (48 + n % 10) (low r (n / 10)) (omega arith)
        ∙ ap (λ ds. 48 ∷ ds) (rest some (fewer n r large h))
        ∙ (λ i. (48 + sym next.1 i) ∷ low (suc r) (sym next.0 i)) ∙ sym (low-large (suc r) (suc n) (omega arith) (omega arith))

pub one_more-digits : (n : ℕ) → one_more (digits_of n) ≡ digits_of (suc n)
one_more-digits zero = refl
one_more-digits (suc n) = ap one_more (digits-low n) ∙ more-low (suc (suc n)) (suc n) (omega arith) (omega arith) ∙ sym (digits-low (suc n))

-- ---- in place

pub counted-less : (xs : List ℕ) (i : ℕ) → i < length xs → get_or xs i 0 < 57 → take i xs ++ one_more (drop i xs) ≡ slice_set xs i (get_or xs i 0 + 1)
counted-less [] i h k = absurd (omega arith)
counted-less (x ∷ xs) zero h k = more-small x xs k
counted-less (x ∷ xs) (suc i) h k = ap (λ ds. x ∷ ds) (counted-less xs i (omega arith) k)

pub counted-nine : (xs : List ℕ) (i : ℕ) → i < length xs → 57 ≤ get_or xs i 0
    → take i xs ++ one_more (drop i xs) ≡ take (suc i) (slice_set xs i 48) ++ one_more (drop (suc i) (slice_set xs i 48))
counted-nine [] i h k = absurd (omega arith)
counted-nine (x ∷ xs) zero h k = more-nine x xs k
counted-nine (x ∷ xs) (suc i) h k = ap (λ ds. x ∷ ds) (counted-nine xs i (omega arith) k)
