-- Printed numbers are read as these numbers.
use Rattle.std.proofs.Common.{◌≡◌, ℕ, zero, suc, ◌+◌, ◌-◌, ◌*◌, ◌/◌, ◌%◌, ◌^◌, ◌<◌, ◌≤◌, nat_lt, Bool, true, false, eqb, Some, List, [], ◌∷◌, ◌++◌, length, refl, ap, ◌∙◌, arith}
use Rattle.std.specs.Prelude.{codes, nat_eq}
use Rattle.std.specs.Char.{digit_char, digit_value, is_ascii_digit, is_ascii_hexdigit}
use Rattle.std.specs.List.{list_all, starts_with}
use Rattle.std.specs.Str.Parse.{digits_value, digits_value_after}
use Rattle.std.proofs.lemmas.Bool.{ltb-true, ltb-false, ne_eqb}
use Rattle.std.proofs.lemmas.Nat.{div-add-mod'}
use Rattle.std.proofs.lemmas.Str.{digit_value-digit_char}
use Rattle.std.proofs.Math.Nat.{div-lt_iff_lt-mul, div-lt_self, mod-lt, pow-zero, pow-suc}
use Rattle.smt_lex.specs.declared.items.Item.TheVariants.{Hex, Bin}
use Rattle.smt_lex.specs.Lexicon.{is_binary_digit, is_numeral}
use Rattle.smt_terms.specs.declared.op.Op.TheVariants.{Bits}
use Rattle.script_terms.specs.Parts.{constant_by}
use Rattle.smt_terms.specs.Numeral.{digits_before, numeral}
use Rattle.term_table.specs.WrittenForms.{last_digits}

-- ---- so many digits of a number to a base

digit_behind : (base n : ℕ) → 1 < base → base ≤ 36 → n / base * base + digit_value (digit_char (n % base)) ≡ n
digit_behind base n more few =
    let below : n % base < base = mod-lt n (omega arith) in
    ap (λ d. n / base * base + d) (digit_value-digit_char (n % base) (omega arith)) ∙ div-add-mod' n base

fewer_digits : (base count n : ℕ) → 1 < base → n < base ^ suc count → n / base < base ^ count
fewer_digits base count n more within =
    let next : base ^ suc count ≡ base ^ count * base = pow-suc base count in
    (div-lt_iff_lt-mul {k = base} {x = n} {y = base ^ count} (omega arith)).1 (omega arith)

pub last_digits_value : (base count n : ℕ) (after : List ℕ) → 1 < base → base ≤ 36 → n < base ^ count
    → digits_value_after base 0 (last_digits base count n after) ≡ digits_value_after base n after
last_digits_value base zero n after more few within =
    let one : base ^ zero ≡ 1 = pow-zero base in
    let none : 0 ≡ n = omega arith in
    ap (λ n. digits_value_after base n after) none
last_digits_value base (suc count) n after more few within =
    last_digits_value base count (n / base) (digit_char (n % base) ∷ after) more few (fewer_digits base count n more within)
    ∙ ap (λ n. digits_value_after base n after) (digit_behind base n more few)

pub last_digits_length : (base count n : ℕ) (after : List ℕ) → length (last_digits base count n after) ≡ count + length after
last_digits_length base zero n after = omega arith
last_digits_length base (suc count) n after = last_digits_length base count (n / base) (digit_char (n % base) ∷ after) ∙ omega arith

pub last_digits_pass : (test : ℕ → Bool) (base count n : ℕ) (after : List ℕ) → 0 < base → ((d : ℕ) → d < base → test (digit_char d) ≡ true)
    → list_all test after ≡ true → list_all test (last_digits base count n after) ≡ true
last_digits_pass test base zero n after some passes all = all
last_digits_pass test base (suc count) n after some passes all =
    last_digits_pass test base count (n / base) (digit_char (n % base) ∷ after) some passes (rw (passes (n % base) (mod-lt n some)) all)

pub binary_digit : (d : ℕ) → d < 2 → is_binary_digit (digit_char d) ≡ true
binary_digit zero h = refl
binary_digit (suc zero) h = refl
binary_digit (suc (suc d)) h = absurd (omega arith)

pub hex_digit : (d : ℕ) → d < 16 → is_ascii_hexdigit (digit_char d) ≡ true
hex_digit zero h = refl
hex_digit (suc zero) h = refl
hex_digit (suc (suc zero)) h = refl
hex_digit (suc (suc (suc zero))) h = refl
hex_digit (suc (suc (suc (suc zero)))) h = refl
hex_digit (suc (suc (suc (suc (suc zero))))) h = refl
hex_digit (suc (suc (suc (suc (suc (suc zero)))))) h = refl
hex_digit (suc (suc (suc (suc (suc (suc (suc zero))))))) h = refl
hex_digit (suc (suc (suc (suc (suc (suc (suc (suc zero)))))))) h = refl
hex_digit (suc (suc (suc (suc (suc (suc (suc (suc (suc zero))))))))) h = refl
hex_digit (suc (suc (suc (suc (suc (suc (suc (suc (suc (suc zero)))))))))) h = refl
hex_digit (suc (suc (suc (suc (suc (suc (suc (suc (suc (suc (suc zero))))))))))) h = refl
hex_digit (suc (suc (suc (suc (suc (suc (suc (suc (suc (suc (suc (suc zero)))))))))))) h = refl
hex_digit (suc (suc (suc (suc (suc (suc (suc (suc (suc (suc (suc (suc (suc zero))))))))))))) h = refl
hex_digit (suc (suc (suc (suc (suc (suc (suc (suc (suc (suc (suc (suc (suc (suc zero)))))))))))))) h = refl
hex_digit (suc (suc (suc (suc (suc (suc (suc (suc (suc (suc (suc (suc (suc (suc (suc zero))))))))))))))) h = refl
hex_digit (suc (suc (suc (suc (suc (suc (suc (suc (suc (suc (suc (suc (suc (suc (suc (suc d)))))))))))))))) h = absurd (omega arith)

-- ---- numerals

decimal_value : (d : ℕ) → d < 10 → digit_value (48 + d) ≡ d
decimal_value zero h = refl
decimal_value (suc zero) h = refl
decimal_value (suc (suc zero)) h = refl
decimal_value (suc (suc (suc zero))) h = refl
decimal_value (suc (suc (suc (suc zero)))) h = refl
decimal_value (suc (suc (suc (suc (suc zero))))) h = refl
decimal_value (suc (suc (suc (suc (suc (suc zero)))))) h = refl
decimal_value (suc (suc (suc (suc (suc (suc (suc zero))))))) h = refl
decimal_value (suc (suc (suc (suc (suc (suc (suc (suc zero)))))))) h = refl
decimal_value (suc (suc (suc (suc (suc (suc (suc (suc (suc zero))))))))) h = refl
decimal_value (suc (suc (suc (suc (suc (suc (suc (suc (suc (suc d)))))))))) h = absurd (omega arith)

decimal_digit : (d : ℕ) → d < 10 → is_ascii_digit (48 + d) ≡ true
decimal_digit zero h = refl
decimal_digit (suc zero) h = refl
decimal_digit (suc (suc zero)) h = refl
decimal_digit (suc (suc (suc zero))) h = refl
decimal_digit (suc (suc (suc (suc zero)))) h = refl
decimal_digit (suc (suc (suc (suc (suc zero))))) h = refl
decimal_digit (suc (suc (suc (suc (suc (suc zero)))))) h = refl
decimal_digit (suc (suc (suc (suc (suc (suc (suc zero))))))) h = refl
decimal_digit (suc (suc (suc (suc (suc (suc (suc (suc zero)))))))) h = refl
decimal_digit (suc (suc (suc (suc (suc (suc (suc (suc (suc zero))))))))) h = refl
decimal_digit (suc (suc (suc (suc (suc (suc (suc (suc (suc (suc d)))))))))) h = absurd (omega arith)

-- what holds of the digits of a number below ten, and behind those of a tenth of a number, holds of its numeral
module _ (Good : ℕ → List ℕ → List ℕ → Type 0)
    (small : (n : ℕ) (after : List ℕ) → n < 10 → Good n after ((48 + n) ∷ after))
    (great : (n : ℕ) (after digits : List ℕ) → 10 ≤ n → Good (n / 10) ((48 + n % 10) ∷ after) digits → Good n after digits) where
  by_digits : (room n : ℕ) (after : List ℕ) → n < room → Good n after (digits_before room n after)
  by_digits zero n after h = absurd (omega arith)
  by_digits (suc room) n after h = go (nat_lt n 10) refl (by_digits room (n / 10) ((48 + n % 10) ∷ after))
    where
      go : (less : Bool) → nat_lt n 10 ≡ less → (n / 10 < room → Good (n / 10) ((48 + n % 10) ∷ after) (digits_before room (n / 10) ((48 + n % 10) ∷ after)))
          → Good n after (elim less [ true ↦ (48 + n) ∷ after | false ↦ digits_before room (n / 10) ((48 + n % 10) ∷ after) ])
      go true is below = small n after (ltb-true n 10 is)
      go false is below =
          let many : 10 ≤ n = ltb-false n 10 is in
          let less : n / 10 < n = div-lt_self (omega arith) (omega arith) in
          great n after _ many (below (omega arith))

  pub by_numeral : (n : ℕ) → Good n [] (numeral n)
  by_numeral n = by_digits (suc n) n [] (omega arith)

numeral_value_behind : (n : ℕ) (after digits : List ℕ) → 10 ≤ n
    → digits_value_after 10 0 digits ≡ digits_value_after 10 (n / 10) ((48 + n % 10) ∷ after) → digits_value_after 10 0 digits ≡ digits_value_after 10 n after
numeral_value_behind n after digits many is =
    is ∙ ap (λ n. digits_value_after 10 n after) (ap (λ d. n / 10 * 10 + d) (decimal_value (n % 10) (mod-lt n (omega arith))) ∙ div-add-mod' n 10)

pub numeral_value : (n : ℕ) → digits_value 10 (numeral n) ≡ n
numeral_value n =
    by_numeral (λ n after digits. digits_value_after 10 0 digits ≡ digits_value_after 10 n after)
    (λ n after h. ap (λ d. digits_value_after 10 d after) (ap (λ d. 0 * 10 + d) (decimal_value n h) ∙ omega arith))
    numeral_value_behind n

pub numeral_digits : (n : ℕ) → list_all is_ascii_digit (numeral n) ≡ true
numeral_digits n =
    by_numeral (λ n after digits. list_all is_ascii_digit after ≡ true → list_all is_ascii_digit digits ≡ true)
    (λ n after h all. rw (decimal_digit n h) all)
    (λ n after digits many is all. is (rw (decimal_digit (n % 10) (mod-lt n (omega arith))) all))
    n refl

-- no zero stands first but in `0`
numeral_begins : (n : ℕ) → 0 < n → starts_with nat_eq (numeral n) (codes "0") ≡ false
numeral_begins n some =
    by_numeral (λ n after digits. 0 < n → starts_with nat_eq digits (codes "0") ≡ false)
    (λ n after h some. rw (other_digit n some) refl)
    (λ n after digits many is some. is (tenth n many))
    n some
  where
    other_digit : (n : ℕ) → 0 < n → nat_eq 48 (48 + n) ≡ false
    other_digit n some = ne_eqb 48 (48 + n) (λ same. omega (arith, same))

    tenth : (n : ℕ) → 10 ≤ n → 0 < n / 10
    tenth n many = let whole = div-add-mod' n 10 in let below = mod-lt n {m = 10} (omega arith) in omega arith

pub numeral_some : (n : ℕ) → 0 < length (numeral n)
numeral_some n =
    by_numeral (λ n after digits. 0 < length digits) (λ n after h. omega arith) (λ n after digits many is. is) n

pub numeral_is_numeral : (n : ℕ) → is_numeral (numeral n) ≡ true
numeral_is_numeral zero = refl
numeral_is_numeral (suc n) =
    let digits = numeral_digits (suc n) in
    let some : eqb (length (numeral (suc n))) 0 ≡ false = ne_eqb _ _ (λ none. let more = numeral_some (suc n) in omega (arith, none, more)) in
    let begins = numeral_begins (suc n) (omega arith) in
    rw digits (rw some (rw begins refl))

-- ---- constants

-- a number that is as long as so many hexadecimal digits
pub hex_constant : (count n : ℕ) → n < 16 ^ count → constant_by Hex (codes "#x" ++ last_digits 16 count n []) ≡ Some (Bits (4 * count) n)
hex_constant count n within =
    let value = last_digits_value 16 count n [] (omega arith) (omega arith) within in
    let long : length (codes "#x" ++ last_digits 16 count n []) - 2 ≡ count = omega (arith, last_digits_length 16 count n []) in
    ap (λ w. Some (Bits (4 * w) (digits_value 16 (last_digits 16 count n [])))) long ∙ ap (λ x. Some (Bits (4 * count) x)) value

pub binary_constant : (width n : ℕ) → n < 2 ^ width → constant_by Bin (codes "#b" ++ last_digits 2 width n []) ≡ Some (Bits width n)
binary_constant width n within =
    let value = last_digits_value 2 width n [] (omega arith) (omega arith) within in
    let long : length (codes "#b" ++ last_digits 2 width n []) - 2 ≡ width = omega (arith, last_digits_length 2 width n []) in
    ap (λ w. Some (Bits w (digits_value 2 (last_digits 2 width n [])))) long ∙ ap (λ x. Some (Bits width x)) value
