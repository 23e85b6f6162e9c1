-- The run of a text that is a numeral, or a hexadecimal or binary literal.
use Rattle.std.proofs.Common.{◌≡◌, ℕ, suc, ◌+◌, ◌<◌, ◌≤◌, ◌⊎◌, inl, inr, Bool, true, false, eqb, get_or, Some, List, [], ◌∷◌, ◌++◌, length, take, drop, refl, ap, sym, ◌∙◌, subst, arith}
use Rattle.std.specs.Prelude.{◌&&◌, codes, not, nat_eq, nat_le}
use Rattle.std.specs.Int.{is_in_range}
use Rattle.std.specs.List.{list_all, starts_with}
use Rattle.std.specs.Char.{is_ascii_digit, is_ascii_hexdigit}
use Rattle.std.proofs.lemmas.Bool.{leb-true, le-leb, eqb-true, ne_eqb}
use Rattle.std.proofs.lemmas.List.{length-take-le}
use Rattle.std.proofs.Math.Dec.{eqb-suc-zero}
use Rattle.smt_lex.proofs.Choices.{tell, and_left, and_right}
use Rattle.smt_lex.specs.declared.items.Item.{Item}
use Rattle.smt_lex.specs.declared.items.Item.TheVariants.{Numeral, Hex, Bin}
use Rattle.smt_lex.specs.declared.fronts.Front.TheVariants.{Lexeme}
use Rattle.smt_lex.specs.Lexicon.{hash, is_run_byte, is_binary_digit, is_word, is_numeral, length_while, run_item}
use Rattle.smt_lex.specs.Lex.{run_front}
use Rattle.smt_lex.proofs.Printing.{run_is}
use Rattle.smt_lex.proofs.Rereading.{all_while, while_within}
use Rattle.smt_lex.proofs.Words.{while_same}

digit_runs : (b : ℕ) → is_ascii_digit b ≡ true → is_run_byte b ≡ true
digit_runs b digit = rw digit refl

wider : (low high more b : ℕ) → high ≤ more → is_in_range low high b ≡ true → is_in_range low more b ≡ true
wider low high more b further within =
    let below : b ≤ high = leb-true b high (and_right (nat_le low b) (nat_le b high) within) in
    rw (and_left (nat_le low b) (nat_le b high) within, le-leb b more (omega (arith, below, further))) refl

hexadecimal_runs : (b : ℕ) → is_ascii_hexdigit b ≡ true → is_run_byte b ≡ true
hexadecimal_runs b digit = elim (tell (is_in_range 48 57 b)) [
  | inl decimal ↦ rw decimal refl
  | inr no_decimal ↦ elim (tell (is_in_range 65 90 b)) [
    | inl upper ↦ rw (no_decimal, upper) refl
    | inr no_upper ↦ elim (tell (is_in_range 65 70 b)) [
      | inl here ↦ absurd (cc (no_upper, wider 65 70 90 b (omega arith) here))
      | inr no_here ↦
          let here : is_in_range 97 102 b ≡ true = rw (no_decimal, no_here) at digit in
          rw (no_decimal, no_upper, wider 97 102 122 b (omega arith) here) refl
    ]
  ]
]

binary_runs : (b : ℕ) → is_binary_digit b ≡ true → is_run_byte b ≡ true
binary_runs b digit = elim (tell (eqb b 48)) [
  | inl here ↦ ap is_run_byte (eqb-true b 48 here)
  | inr no_zero ↦ let here : eqb b 49 ≡ true = rw no_zero at digit in ap is_run_byte (eqb-true b 49 here)
]

numeral_item : (b : ℕ) (bs : List ℕ) → list_all is_ascii_digit (b ∷ bs) ≡ true → (length bs ≡ 0) ⊎ (eqb 48 b ≡ false) → run_item (b ∷ bs) ≡ Some Numeral
numeral_item b bs all short =
    let no_word : is_word (b ∷ bs) ≡ false = rw (and_left (is_ascii_digit b) (list_all is_ascii_digit bs) all) refl in
    let numeral : is_numeral (b ∷ bs) ≡ true =
    (elim short [
      | inr no_zero ↦ rw (all, eqb-suc-zero (length bs), no_zero) refl
      | inl one ↦ elim (tell (eqb 48 b)) [ inl zero ↦ rw (all, zero, one) refl | inr no_zero ↦ rw (all, eqb-suc-zero (length bs), no_zero) refl ]
    ]) in
    rw (no_word, numeral) refl

not_zero : (b : ℕ) → not (eqb b 48) ≡ true → eqb 48 b ≡ false
not_zero b other = ne_eqb 48 b (λ same. let zero : eqb b 48 ≡ true = sym (ap (λ x. eqb x 48) same) in absurd (cc (other, zero)))

pub some_digits : (text : List ℕ) → 0 < length text → is_ascii_digit (get_or text 0 0) ≡ true → 0 < length_while is_ascii_digit text
some_digits [] some digit = absurd (omega (arith, some))
some_digits (b ∷ bs) some digit = rw digit (omega arith)

numeral_at : (text : List ℕ) → 0 < length text → is_ascii_digit (get_or text 0 0) ≡ true → (length_while is_ascii_digit text ≡ 1) ⊎ (not (eqb (get_or text 0 0) 48) ≡ true)
    → (length_while is_ascii_digit text < length text → is_run_byte (get_or text (length_while is_ascii_digit text) 0) ≡ false) → run_front text ≡ Lexeme Numeral (length_while is_ascii_digit text)
numeral_at [] some digit short ends = absurd (omega (arith, some))
numeral_at (b ∷ bs) some digit short ends =
    let n = length_while is_ascii_digit bs in
    let long : length_while is_ascii_digit (b ∷ bs) ≡ suc n = rw digit refl in
    let all : list_all is_ascii_digit (b ∷ take n bs) ≡ true = subst (λ k. list_all is_ascii_digit (take k (b ∷ bs)) ≡ true) long (all_while is_ascii_digit (b ∷ bs)) in
    let short_run : (length (take n bs) ≡ 0) ⊎ (eqb 48 b ≡ false) =
    (elim short [
      | inl one ↦ let none : n ≡ 0 = omega (arith, long, one) in inl (ap (λ k. length (take k bs)) none)
      | inr other ↦ inr (not_zero b other)
    ]) in
    run_is (b ∷ bs) (length_while is_ascii_digit (b ∷ bs)) Numeral (while_same is_ascii_digit is_run_byte digit_runs (b ∷ bs) ends)
    (ap (λ k. run_item (take k (b ∷ bs))) long ∙ numeral_item b (take n bs) all short_run)

-- digits behind which the run doesn't go on are a numeral, where there is one alone or the first isn't 0
pub numeral_run : (text : List ℕ) (n : ℕ) → 0 < length text → is_ascii_digit (get_or text 0 0) ≡ true → n ≡ length_while is_ascii_digit text → (n ≡ 1) ⊎ (not (eqb (get_or text 0 0) 48) ≡ true)
    → (n < length text → is_run_byte (get_or text n 0) ≡ false) → run_front text ≡ Lexeme Numeral n
numeral_run text n some digit long short ends =
    subst (λ k. (k ≡ 1) ⊎ (not (eqb (get_or text 0 0) 48) ≡ true) → (k < length text → is_run_byte (get_or text k 0) ≡ false) → run_front text ≡ Lexeme Numeral k)
    (sym long) (numeral_at text some digit) short ends

-- a literal of `#`, a letter and digits of a kind
module _ (digit : ℕ → Bool) (letter : ℕ) (item : Item) (digit_in_run : (b : ℕ) → digit b ≡ true → is_run_byte b ≡ true) (letter_in_run : is_run_byte letter ≡ true)
    (is_item : (ds : List ℕ) → list_all digit ds ≡ true → eqb (length ds) 0 ≡ false → run_item (hash ∷ letter ∷ ds) ≡ Some item) where
  literal_at : (ds : List ℕ) (n : ℕ) → n ≡ 2 + length_while digit ds → 2 < n
      → (n < length (hash ∷ letter ∷ ds) → is_run_byte (get_or (hash ∷ letter ∷ ds) n 0) ≡ false) → run_front (hash ∷ letter ∷ ds) ≡ Lexeme item n
  literal_at ds n long some ends =
      let m = length_while digit ds in
      let two_more : n ≡ suc (suc m) = omega (arith, long) in
      let ends_at : suc (suc m) < length (hash ∷ letter ∷ ds) → is_run_byte (get_or (hash ∷ letter ∷ ds) (suc (suc m)) 0) ≡ false =
      subst (λ k. k < length (hash ∷ letter ∷ ds) → is_run_byte (get_or (hash ∷ letter ∷ ds) k 0) ≡ false) two_more ends in
      let run : length_while is_run_byte ds ≡ m = while_same digit is_run_byte digit_in_run ds (λ more. ends_at (omega (arith, more))) in
      let whole : length_while is_run_byte (hash ∷ letter ∷ ds) ≡ n = rw letter_in_run (omega (arith, run, long)) in
      let size = length-take-le m ds (while_within digit ds) in
      let not_empty : eqb (length (take m ds)) 0 ≡ false = ne_eqb (length (take m ds)) 0 (λ none. omega (arith, none, size, long, some)) in
      run_is (hash ∷ letter ∷ ds) n item whole
      (ap (λ k. run_item (take k (hash ∷ letter ∷ ds))) two_more ∙ is_item (take m ds) (all_while digit ds) not_empty)

  pub literal_run : (text : List ℕ) (n : ℕ) → starts_with nat_eq text (hash ∷ letter ∷ []) ≡ true → n ≡ 2 + length_while digit (drop 2 text) → 2 < n
      → (n < length text → is_run_byte (get_or text n 0) ≡ false) → run_front text ≡ Lexeme item n
  literal_run [] n starts long some ends = absurd (omega (arith, long, some))
  literal_run (a ∷ []) n starts long some ends = absurd (omega (arith, long, some))
  literal_run (a ∷ b ∷ ds) n starts long some ends =
      let first : hash ≡ a = eqb-true hash a (and_left (eqb hash a) (eqb letter b && true) starts) in
      let second : letter ≡ b = eqb-true letter b (and_left (eqb letter b) true (and_right (eqb hash a) (eqb letter b && true) starts)) in
      subst (λ (xs : List ℕ). (n < length xs → is_run_byte (get_or xs n 0) ≡ false) → run_front xs ≡ Lexeme item n)
      (ap (λ x. x ∷ letter ∷ ds) first ∙ ap (λ y. a ∷ y ∷ ds) second) (literal_at ds n long some) ends

hexadecimal_item : (ds : List ℕ) → list_all is_ascii_hexdigit ds ≡ true → eqb (length ds) 0 ≡ false → run_item (codes "#x" ++ ds) ≡ Some Hex
hexadecimal_item ds all some = rw (all, some) refl

binary_item : (ds : List ℕ) → list_all is_binary_digit ds ≡ true → eqb (length ds) 0 ≡ false → run_item (codes "#b" ++ ds) ≡ Some Bin
binary_item ds all some = rw (all, some) refl

pub hexadecimal_run : (text : List ℕ) (n : ℕ) → starts_with nat_eq text (codes "#x") ≡ true → n ≡ 2 + length_while is_ascii_hexdigit (drop 2 text) → 2 < n
    → (n < length text → is_run_byte (get_or text n 0) ≡ false) → run_front text ≡ Lexeme Hex n
hexadecimal_run text n = literal_run is_ascii_hexdigit 120 Hex hexadecimal_runs refl hexadecimal_item text n

pub binary_run : (text : List ℕ) (n : ℕ) → starts_with nat_eq text (codes "#b") ≡ true → n ≡ 2 + length_while is_binary_digit (drop 2 text) → 2 < n
    → (n < length text → is_run_byte (get_or text n 0) ≡ false) → run_front text ≡ Lexeme Bin n
binary_run text n = literal_run is_binary_digit 98 Bin binary_runs refl binary_item text n
