-- The texts of numbers and of sorts, piece by piece.
use Rattle.std.proofs.Common.{◌≡◌, ℕ, zero, suc, ◌+◌, ◌-◌, ◌*◌, ◌/◌, ◌%◌, ◌^◌, ◌<◌, ◌≤◌, Bool, true, false, ℤ, pos, to_z, of_z, FitsSigned, List, [], ◌∷◌, ◌++◌, replicate, refl, ap, sym, ◌∙◌, subst, arith}
use Rattle.std.specs.Int.{w128}
use Rattle.std.proofs.lemmas.Int.{to_z-of_z, ints}
use Rattle.std.specs.Fmt.{decimal, digits}
use Rattle.std.specs.Char.{digit_char}
use Rattle.std.specs.Prelude.{codes, unsigned_abs, int_lt, int_le, if◌then◌else◌}
use Rattle.std.proofs.lemmas.Nat.{pow-add, pow_pos, one_shl}
use Rattle.std.proofs.lemmas.List.{append_assoc, append-nil}
use Rattle.std.proofs.Math.Nat.{pow-le-pow_right, mod-lt, div-div-eq-div-mul, div-one}
use Rattle.smt_lex.specs.Forms.{Form}
use Rattle.smt_lex.specs.FormText.{form_text}
use Rattle.smt_lex.specs.declared.items.Item.TheVariants.{Numeral}
use Rattle.smt_terms.specs.Numeral.{numeral}
use Rattle.smt_terms.specs.Sorts.{bit_vector}
use Rattle.smt_terms.proofs.DecimalTexts.{decimal-numeral}
use Rattle.term_table.specs.WrittenForms.{token_form, list_form, word_form, numeral_form, integer_form, sort_form, last_digits}

-- ---- pieces that are put together

width_form : (n : List ℕ) → form_text (list_form (word_form (codes "_") ∷ word_form (codes "BitVec") ∷ token_form Numeral n ∷ [])) ≡ codes "(_ BitVec " ++ (n ++ 41 ∷ [])
width_form n = ap (λ ns. codes "(_ BitVec " ++ (ns ++ 41 ∷ [])) (append-nil n)

negative_form : (n : List ℕ) → form_text (list_form (word_form (codes "-") ∷ token_form Numeral n ∷ [])) ≡ codes "(- " ++ (n ++ 41 ∷ [])
negative_form n = ap (λ ns. codes "(- " ++ (ns ++ 41 ∷ [])) (append-nil n)

pub width_text : (old a b c ds : List ℕ) (w : ℕ) → w < 2 ^ 64 → a ≡ old ++ codes "(_ BitVec " → ds ≡ decimal w → b ≡ a ++ ds → c ≡ b ++ 41 ∷ [] → c ≡ old ++ form_text (sort_form (bit_vector w))
width_text old a b c ds w fits first digits second third =
    third ∙ ap (λ xs. xs ++ 41 ∷ []) (second ∙ ap (λ xs. xs ++ ds) first ∙ append_assoc old (codes "(_ BitVec ") ds)
    ∙ append_assoc old (codes "(_ BitVec " ++ ds) (41 ∷ [])
    ∙ ap (λ ns. old ++ (codes "(_ BitVec " ++ (ns ++ 41 ∷ []))) (digits ∙ decimal-numeral w (omega arith))
    ∙ ap (λ xs. old ++ xs) (sym (width_form (numeral w)))

negative_text : (a b c ds : List ℕ) (n : ℕ) → n < 2 ^ 128 → a ≡ codes "(- " → ds ≡ decimal n → b ≡ a ++ ds → c ≡ b ++ 41 ∷ [] → c ≡ form_text (list_form (word_form (codes "-") ∷ numeral_form n ∷ []))
negative_text a b c ds n fits first digits second third =
    third ∙ ap (λ xs. xs ++ 41 ∷ []) (second ∙ ap (λ xs. xs ++ ds) first)
    ∙ ap (λ ns. codes "(- " ++ (ns ++ 41 ∷ [])) (digits ∙ decimal-numeral n fits)
    ∙ sym (negative_form (numeral n))

-- a number as it stands in code
pub same_number : (n : ℤ) → FitsSigned w128 n → to_z w128 (of_z w128 n) ≡ n
same_number n fits = to_z-of_z w128 n fits

magnitude : (n : ℤ) → FitsSigned w128 n → unsigned_abs n < 2 ^ 128
magnitude n fits = grind (arith, ints)

not_negative : (n : ℤ) → int_le (pos 0) n ≡ true → int_lt n (pos 0) ≡ false
not_negative n h = grind (arith, ints)

negative : (n : ℤ) → int_le (pos 0) n ≡ false → int_lt n (pos 0) ≡ true
negative n h = grind (arith, ints)

abbrev signed_form : Bool → ℕ → Form
signed_form b n = if b then list_form (word_form (codes "-") ∷ numeral_form n ∷ []) else numeral_form n

pub plain_integer : (n : ℤ) (ds : List ℕ) → FitsSigned w128 n → int_le (pos 0) n ≡ true → ds ≡ decimal (unsigned_abs n) → ds ≡ form_text (integer_form n)
plain_integer n ds fits sign is =
    is ∙ decimal-numeral (unsigned_abs n) (magnitude n fits) ∙ ap (λ b. form_text (signed_form b (unsigned_abs n))) (sym (not_negative n sign))

pub negative_integer : (n : ℤ) (old a b c ds : List ℕ) → FitsSigned w128 n → int_le (pos 0) n ≡ false → a ≡ old ++ codes "(- " → ds ≡ decimal (unsigned_abs n) → b ≡ a ++ ds → c ≡ b ++ 41 ∷ []
    → c ≡ old ++ form_text (integer_form n)
negative_integer n old a b c ds fits sign first is second third =
    third ∙ ap (λ xs. xs ++ 41 ∷ []) (second ∙ ap (λ xs. xs ++ ds) first ∙ append_assoc old (codes "(- ") ds) ∙ append_assoc old (codes "(- " ++ ds) (41 ∷ [])
    ∙ ap (λ xs. old ++ xs)
    (negative_text (codes "(- ") (codes "(- " ++ ds) ((codes "(- " ++ ds) ++ 41 ∷ []) ds (unsigned_abs n) (magnitude n fits) refl is refl refl ∙ ap (λ b. form_text (signed_form b (unsigned_abs n))) (sym (negative n sign)))

-- ---- so many digits

last_digits-append : (base count n : ℕ) (after : List ℕ) → last_digits base count n after ≡ last_digits base count n [] ++ after
last_digits-append base zero n after = refl
last_digits-append base (suc count) n after =
    let d = digit_char (n % base) in
    last_digits-append base count (n / base) (d ∷ after)
    ∙ sym (append_assoc (last_digits base count (n / base) []) (d ∷ []) after)
    ∙ ap (λ xs. xs ++ after) (sym (last_digits-append base count (n / base) (d ∷ [])))

pub one_more : (size : ℕ) → size ≤ 4 → 1 * 2 ^ size % 2 ^ 128 ≡ 2 ^ size
one_more size few = one_shl size 128 (omega arith)

pub digit_below : (size n : ℕ) → size ≤ 4 → n % (1 * 2 ^ size % 2 ^ 128) < 16
digit_below size n few =
    let most : 2 ^ size ≤ 2 ^ 4 = pow-le-pow_right (omega arith) few in
    let positive = pow_pos size in
    let below : n % 2 ^ size < 2 ^ size = mod-lt n positive in
    subst (λ m. n % m < 16) (sym (one_more size few)) (omega arith)

quotient : (n size lower next : ℕ) → lower + size ≡ next → n / 2 ^ lower / 2 ^ size ≡ n / 2 ^ next
quotient n size lower next e =
    div-div-eq-div-mul n (2 ^ lower) (2 ^ size) ∙ ap (λ p. n / p) (sym (pow-add 2 lower size) ∙ ap (λ k. 2 ^ k) e)

next_digit_suc : (old now new : List ℕ) (size count k n lower digit : ℕ) → k < count → lower ≡ size * (count - 1 - k) → digit ≡ n / 2 ^ lower % 2 ^ size
    → now ≡ old ++ last_digits (2 ^ size) k (n / 2 ^ (size * (count - k))) [] → new ≡ now ++ digit_char digit ∷ []
    → new ≡ old ++ last_digits (2 ^ size) (suc k) (n / 2 ^ (size * (count - suc k))) []
next_digit_suc old now new size count k n lower digit lt low is before after =
    let place : count - 1 - k ≡ count - suc k = omega arith in
    let places : lower ≡ size * (count - suc k) = low ∙ ap (λ j. size * j) place in
    let wider : lower + size ≡ size * (count - k) = up size count k lower lt places in
    let shown : last_digits (2 ^ size) (suc k) (n / 2 ^ lower) [] ≡ last_digits (2 ^ size) k (n / 2 ^ (size * (count - k))) [] ++ digit_char digit ∷ [] =
    last_digits-append (2 ^ size) k (n / 2 ^ lower / 2 ^ size) (digit_char (n / 2 ^ lower % 2 ^ size) ∷ [])
    ∙ (λ i. last_digits (2 ^ size) k (quotient n size lower (size * (count - k)) wider i) [] ++ digit_char (sym is i) ∷ [])
    in
    after ∙ ap (λ xs. xs ++ digit_char digit ∷ []) before
    ∙ append_assoc old (last_digits (2 ^ size) k (n / 2 ^ (size * (count - k))) []) (digit_char digit ∷ [])
    ∙ ap (λ xs. old ++ xs) (sym shown ∙ ap (λ j. last_digits (2 ^ size) (suc k) (n / 2 ^ j) []) places)
  where
    up : (size count k lower : ℕ) → k < count → lower ≡ size * (count - suc k) → lower + size ≡ size * (count - k)
    up size count k lower lt e =
        let one : count - k ≡ suc (count - suc k) = omega arith in
        ap (λ j. j + size) e ∙ omega arith ∙ ap (λ j. size * j) (sym one)

pub next_digit : (old now new : List ℕ) (size count k n lower digit : ℕ) → k < count → lower ≡ size * (count - 1 - k) → digit ≡ n / 2 ^ lower % 2 ^ size
    → now ≡ old ++ last_digits (2 ^ size) k (n / 2 ^ (size * (count - k))) [] → new ≡ now ++ digit_char digit ∷ []
    → new ≡ old ++ last_digits (2 ^ size) (k + 1) (n / 2 ^ (size * (count - (k + 1)))) []
next_digit old now new size count k n lower digit lt low is before after =
    let one : suc k ≡ k + 1 = omega arith in
    subst (λ j. new ≡ old ++ last_digits (2 ^ size) j (n / 2 ^ (size * (count - j))) []) one (next_digit_suc old now new size count k n lower digit lt low is before after)

pub all_digits : (size count k n : ℕ) → k ≡ count → last_digits (2 ^ size) k (n / 2 ^ (size * (count - k))) [] ≡ last_digits (2 ^ size) count n []
all_digits size count k n e =
    let past : count - k ≡ 0 = omega arith in
    let none : size * (count - k) ≡ 0 = ap (λ j. size * j) past ∙ omega arith in
    let whole : n / 2 ^ (size * (count - k)) ≡ n = ap (λ j. n / 2 ^ j) none ∙ div-one n in
    λ i. last_digits (2 ^ size) (e i) (whole i) []

-- ---- what closes the arrays around a sort

pub close_one : (text new whole : List ℕ) (open_lists k : ℕ) → k < open_lists → new ≡ text ++ 41 ∷ [] → text ++ replicate (open_lists - k) 41 ≡ whole → new ++ replicate (open_lists - (k + 1)) 41 ≡ whole
close_one text new whole open_lists k lt after before =
    let one : open_lists - k ≡ suc (open_lists - (k + 1)) = omega arith in
    ap (λ xs. xs ++ replicate (open_lists - (k + 1)) 41) after ∙ append_assoc text (41 ∷ []) (replicate (open_lists - (k + 1)) 41)
    ∙ ap (λ j. text ++ replicate j 41) (sym one) ∙ before
