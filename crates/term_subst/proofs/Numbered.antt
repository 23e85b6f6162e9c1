-- Names that are made of digits, and the search for one that isn't taken.
use Rattle.std.proofs.Common.{◌≡◌, ℕ, zero, suc, ◌+◌, ◌/◌, ◌%◌, ◌<◌, ◌≤◌, ◌==◌, nat_lt, Bool, true, false, not, ◌&&◌, List, [], ◌∷◌, ◌++◌, length, reverse, refl, ap, sym, ◌∙◌, true≢false, arith}
use Rattle.std.proofs.lemmas.Bool.{ltb-true, ltb-false, ne_eqb}
use Rattle.std.proofs.lemmas.List.{reverse-reverse, reverse-append}
use Rattle.std.proofs.Math.Nat.{mod-lt}
use Rattle.smt_terms.specs.Sorts.{Name}
use Rattle.smt_terms.specs.Free.{name_among}
use Rattle.smt_terms.specs.Fresh.{Supply, numbered_name, next_number}
use Rattle.smt_terms.specs.Numeral.{digits_before, numeral}
use Rattle.smt_terms.proofs.Fresh.{next-least, next_name-free}
use Rattle.smt_terms.proofs.Tests.{and_true}
use Rattle.smt_values.specs.SortIds.{is_plain}
use Rattle.term_subst.specs.Counters.{value, digits_of, AreDigits, one_more}
use Rattle.term_subst.specs.Names.{AgreeOnNumbered}
use Rattle.term_subst.proofs.Digits.{low, digits-low, value-digits_of, one_more-digits}

some-low : (r n : ℕ) → 0 < length (low (suc r) n)
some-low r n = by (nat_lt n 10)
  where
    by : (b : Bool) → 0 < length (elim b as (λ _. List ℕ) [ true ↦ (48 + n) ∷ [] | false ↦ (48 + n % 10) ∷ low r (n / 10) ])
    by true = omega arith
    by false = omega arith

pub named-zero : (ds : List ℕ) (n : ℕ) → length ds ≡ 0 → ds ≡ digits_of n → 70 ∷ 86 ∷ 48 ∷ [] ≡ numbered_name n
named-zero ds zero none e = refl
named-zero ds (suc n) none e =
    let long : length ds ≡ length (low (suc (suc n)) (suc n)) = ap length (e ∙ digits-low n) in
    absurd (let some = some-low (suc n) (suc n) in omega arith)

pub named-some : (ds : List ℕ) (n : ℕ) → 0 < length ds → ds ≡ digits_of n → reverse (ds ++ 86 ∷ 70 ∷ []) ≡ numbered_name n
named-some ds zero some e = absurd (let none : length ds ≡ 0 = ap length e in omega arith)
named-some ds (suc n) some e =
    reverse-append ds (86 ∷ 70 ∷ []) ∙ ap (λ l. 70 ∷ 86 ∷ reverse l) e ∙ ap (λ l. 70 ∷ 86 ∷ l) (reverse-reverse (numeral (suc n)))

-- ---- the search

-- a set that agrees with the names of the supply tells whether a number that the search has come to is the next one
module _ (s : Supply) (ms : List Name) (n : ℕ) (agree : AgreeOnNumbered ms s.taken) (upto : n ≤ next_number s) where
  pub number-found : s.number ≤ n → name_among ms (numbered_name n) ≡ false → n ≡ next_number s
  number-found from free = by (nat_lt n (next_number s)) refl
    where
      by : (b : Bool) → nat_lt n (next_number s) ≡ b → n ≡ next_number s
      by true e =
          let taken : name_among s.taken (numbered_name n) ≡ true = next-least s n from (ltb-true n (next_number s) e) in
          absurd (true≢false (sym taken ∙ sym (agree n) ∙ free))
      by false e = let back : next_number s ≤ n = ltb-false n (next_number s) e in omega arith

  pub number-skipped : name_among ms (numbered_name n) ≡ true → suc n ≤ next_number s
  number-skipped taken = by (nat_lt n (next_number s)) refl
    where
      by : (b : Bool) → nat_lt n (next_number s) ≡ b → suc n ≤ next_number s
      by true e = let less : n < next_number s = ltb-true n (next_number s) e in omega arith
      by false e =
          let back : next_number s ≤ n = ltb-false n (next_number s) e in
          let at : n ≡ next_number s = omega arith in
          absurd (true≢false (sym taken ∙ agree n ∙ ap (λ k. name_among s.taken (numbered_name k)) at ∙ next_name-free s))

-- ---- digits one after the other

pub counted : (ds es : List ℕ) → AreDigits ds → es ≡ one_more ds → (es ≡ digits_of (suc (value ds))) × AreDigits es × (value es ≡ suc (value ds))
counted ds es d e =
    let next : es ≡ digits_of (suc (value ds)) = e ∙ ap one_more d ∙ one_more-digits (value ds) in
    let number : value es ≡ suc (value ds) = ap value next ∙ value-digits_of (suc (value ds)) in
    (next, next ∙ ap digits_of (sym number), number)

-- ---- names without bars

digit_plain : (d : ℕ) → d < 58 → (not (d == 124) && not (d == 92)) ≡ true
digit_plain d h =
    and_true (not (d == 124)) (not (d == 92)) (ap not (ne_eqb d 124 (λ e. absurd (omega arith)))) (ap not (ne_eqb d 92 (λ e. absurd (omega arith))))

plain-cons : (d : ℕ) (ds : List ℕ) → d < 58 → is_plain ds ≡ true → is_plain (d ∷ ds) ≡ true
plain-cons d ds h p = and_true (not (d == 124) && not (d == 92)) (is_plain ds) (digit_plain d h) p

plain-digits : (room n : ℕ) (after : List ℕ) → is_plain after ≡ true → is_plain (digits_before room n after) ≡ true
plain-digits zero n after p = p
plain-digits (suc room) n after p = by (plain-digits room (n / 10) ((48 + n % 10) ∷ after)) (nat_lt n 10) refl
  where
    by : (is_plain ((48 + n % 10) ∷ after) ≡ true → is_plain (digits_before room (n / 10) ((48 + n % 10) ∷ after)) ≡ true) → (b : Bool) → nat_lt n 10 ≡ b
        → is_plain (elim b as (λ _. List ℕ) [ true ↦ (48 + n) ∷ after | false ↦ digits_before room (n / 10) ((48 + n % 10) ∷ after) ]) ≡ true
    by rest true e = plain-cons (48 + n) after (let small : n < 10 = ltb-true n 10 e in omega arith) p
    by rest false e = rest (plain-cons (48 + n % 10) after (let small : n % 10 < 10 = mod-lt n (omega arith) in omega arith) p)

pub numbered-plain : (n : ℕ) → is_plain (numbered_name n) ≡ true
numbered-plain n = plain-digits (suc n) n [] refl
