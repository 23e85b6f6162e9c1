-- Printed terms are forms that can be written: each of their tokens is one.
use Rattle.std.proofs.Common.{◌≡◌, ℕ, zero, suc, ◌/◌, ◌%◌, ◌<◌, ◌⊎◌, inl, inr, Bool, true, false, eqb, not, Some, List, [], ◌∷◌, ◌++◌, length, map, refl, arith}
use Rattle.std.specs.Prelude.{◌&&◌, codes, ℤ, pos, int_lt, unsigned_abs}
use Rattle.std.specs.Char.{digit_char, is_ascii_digit, is_ascii_hexdigit}
use Rattle.std.specs.List.{list_all}
use Rattle.std.proofs.lemmas.Bool.{ne_eqb, eqb-true}
use Rattle.std.proofs.lemmas.Nat.{div-add-mod'}
use Rattle.smt_lex.specs.declared.items.Item.TheVariants.{Numeral, Hex, Bin}
use Rattle.smt_lex.specs.Lexicon.{is_run_byte, is_binary_digit, is_word, is_numeral, run_item}
use Rattle.smt_lex.specs.Names.{Name, IsName, is_simple, is_reserved}
use Rattle.smt_lex.specs.Forms.{Form, forms_of_list}
use Rattle.smt_lex.proofs.Joining.{word_lexeme, run_lexeme, quoted_lexeme}
use Rattle.smt_terms.specs.Numeral.{numeral}
use Rattle.smt_terms.specs.Sorts.{Sort, bool, int, bit_vector, array, free_sort, Variable}
use Rattle.term_table.specs.WrittenForms.{word_form, symbol_form, numeral_form, indexed_form, truth_form, integer_form, last_digits, vector_form, sort_form, constant_array_form, variable_form}
use Rattle.smt_print.proofs.Digits.{last_digits_length, last_digits_pass, binary_digit, hex_digit, numeral_digits, numeral_some, numeral_is_numeral}
use Rattle.smt_print.proofs.FormTexts.{IsWritten, AreWritten}

pub tell : (b : Bool) → (b ≡ true) ⊎ (b ≡ false)
tell true = inl refl
tell false = inr refl

and_first : (a b : Bool) → (a && b) ≡ true → a ≡ true
and_first true b h = refl
and_first false b h = h

and_second : (a b : Bool) → (a && b) ≡ true → b ≡ true
and_second true b h = h
and_second false b h = absurd (cc)

pub all_weaker : (p q : ℕ → Bool) → ((b : ℕ) → p b ≡ true → q b ≡ true) → (bs : List ℕ) → list_all p bs ≡ true → list_all q bs ≡ true
all_weaker p q weaker [] all = refl
all_weaker p q weaker (b ∷ bs) all = rw (weaker b (and_first (p b) (list_all p bs) all)) (all_weaker p q weaker bs (and_second (p b) (list_all p bs) all))

-- ---- words and symbols

some_bytes : (word : List ℕ) → is_word word ≡ true → 0 < length word
some_bytes [] is = absurd (cc)
some_bytes (b ∷ bs) is = omega arith

pub word_written : (word : List ℕ) → is_word word ≡ true → IsWritten (word_form word)
word_written word is = (tt, word_lexeme word (some_bytes word is) is)

pub symbol_written : (n : Name) → IsName n → IsWritten (symbol_form n)
symbol_written n is = elim (tell (is_simple n)) [
  | inl simple ↦ rw simple (word_written n (and_first (is_word n) (not (is_reserved n)) simple))
  | inr quoted ↦ rw quoted (tt, quoted_lexeme n is)
]

-- ---- numbers

digit_in_run : (b : ℕ) → is_ascii_digit b ≡ true → is_run_byte b ≡ true
digit_in_run b h = rw h refl

digits_item : (run : List ℕ) → 0 < length run → list_all is_ascii_digit run ≡ true → is_numeral run ≡ true → run_item run ≡ Some Numeral
digits_item [] some all is = absurd (omega arith)
digits_item (b ∷ bs) some all is =
    let no_word : is_word (b ∷ bs) ≡ false = rw (and_first (is_ascii_digit b) (list_all is_ascii_digit bs) all) refl in
    rw (no_word, is) refl

pub numeral_written : (n : ℕ) → IsWritten (numeral_form n)
numeral_written n = (
  tt,
  run_lexeme (numeral n) Numeral (numeral_some n) (all_weaker is_ascii_digit is_run_byte digit_in_run (numeral n) (numeral_digits n))
      (digits_item (numeral n) (numeral_some n) (numeral_digits n) (numeral_is_numeral n)),
)

pub integer_written : (n : ℤ) → IsWritten (integer_form n)
integer_written n = elim (tell (int_lt n (pos 0))) [
  | inl negative ↦ rw negative (word_written (codes "-") refl, (numeral_written (unsigned_abs n), tt))
  | inr positive ↦ rw positive (numeral_written (unsigned_abs n))
]

hex_in_run : (d : ℕ) → d < 16 → is_run_byte (digit_char d) ≡ true
hex_in_run zero h = refl
hex_in_run (suc zero) h = refl
hex_in_run (suc (suc zero)) h = refl
hex_in_run (suc (suc (suc zero))) h = refl
hex_in_run (suc (suc (suc (suc zero)))) h = refl
hex_in_run (suc (suc (suc (suc (suc zero))))) h = refl
hex_in_run (suc (suc (suc (suc (suc (suc zero)))))) h = refl
hex_in_run (suc (suc (suc (suc (suc (suc (suc zero))))))) h = refl
hex_in_run (suc (suc (suc (suc (suc (suc (suc (suc zero)))))))) h = refl
hex_in_run (suc (suc (suc (suc (suc (suc (suc (suc (suc zero))))))))) h = refl
hex_in_run (suc (suc (suc (suc (suc (suc (suc (suc (suc (suc zero)))))))))) h = refl
hex_in_run (suc (suc (suc (suc (suc (suc (suc (suc (suc (suc (suc zero))))))))))) h = refl
hex_in_run (suc (suc (suc (suc (suc (suc (suc (suc (suc (suc (suc (suc zero)))))))))))) h = refl
hex_in_run (suc (suc (suc (suc (suc (suc (suc (suc (suc (suc (suc (suc (suc zero))))))))))))) h = refl
hex_in_run (suc (suc (suc (suc (suc (suc (suc (suc (suc (suc (suc (suc (suc (suc zero)))))))))))))) h = refl
hex_in_run (suc (suc (suc (suc (suc (suc (suc (suc (suc (suc (suc (suc (suc (suc (suc zero))))))))))))))) h = refl
hex_in_run (suc (suc (suc (suc (suc (suc (suc (suc (suc (suc (suc (suc (suc (suc (suc (suc d)))))))))))))))) h = absurd (omega arith)

binary_in_run : (d : ℕ) → d < 2 → is_run_byte (digit_char d) ≡ true
binary_in_run zero h = refl
binary_in_run (suc zero) h = refl
binary_in_run (suc (suc d)) h = absurd (omega arith)

hex_item : (ds : List ℕ) → eqb (length ds) 0 ≡ false → list_all is_ascii_hexdigit ds ≡ true → run_item (codes "#x" ++ ds) ≡ Some Hex
hex_item ds some all = rw (all, some) refl

binary_item : (ds : List ℕ) → eqb (length ds) 0 ≡ false → list_all is_binary_digit ds ≡ true → run_item (codes "#b" ++ ds) ≡ Some Bin
binary_item ds some all = rw (all, some) refl

some_digits : (base count n : ℕ) → 0 < count → eqb (length (last_digits base count n [])) 0 ≡ false
some_digits base count n some = ne_eqb _ _ (λ none. let long = last_digits_length base count n [] in omega (arith, none, long))

pub vector_written : (width n : ℕ) → 0 < width → IsWritten (vector_form width n)
vector_written width n some = elim (tell (eqb (width % 4) 0)) [
  | inl four ↦
      let digits = last_digits 16 (width / 4) n [] in
      let none : width % 4 ≡ 0 = eqb-true (width % 4) 0 four in
      let whole = div-add-mod' width 4 in
      let more : 0 < width / 4 = omega (arith, none, whole, some) in
      rw four (
        tt,
        run_lexeme (codes "#x" ++ digits) Hex (omega arith) (last_digits_pass is_run_byte 16 (width / 4) n [] (omega arith) hex_in_run refl)
            (hex_item digits (some_digits 16 (width / 4) n more) (last_digits_pass is_ascii_hexdigit 16 (width / 4) n [] (omega arith) hex_digit refl)),
      )
  | inr other ↦
      let digits = last_digits 2 width n [] in
      rw other (
        tt,
        run_lexeme (codes "#b" ++ digits) Bin (omega arith) (last_digits_pass is_run_byte 2 width n [] (omega arith) binary_in_run refl)
            (binary_item digits (some_digits 2 width n some) (last_digits_pass is_binary_digit 2 width n [] (omega arith) binary_digit refl)),
      )
]

pub truth_written : (b : Bool) → IsWritten (truth_form b)
truth_written true = word_written (codes "true") refl
truth_written false = word_written (codes "false") refl

-- ---- lists

pub each_written : {A : Type 0} (form : A → Form) → ((a : A) → IsWritten (form a)) → (xs : List A) → AreWritten (forms_of_list (map form xs))
each_written form written [] = tt
each_written form written (x ∷ xs) = (written x, each_written form written xs)

pub indexed_written : (name : List ℕ) (indices : List ℕ) → is_word name ≡ true → IsWritten (indexed_form name indices)
indexed_written name indices is = (word_written (codes "_") refl, (word_written name is, each_written numeral_form numeral_written indices))

-- ---- sorts

-- the names in it can stand between bars
abbrev pub HasNames : Sort → Type 0
HasNames bool = Unit {0}
HasNames int = Unit {0}
HasNames (bit_vector width) = Unit {0}
HasNames (array i e) = HasNames i × HasNames e
HasNames (free_sort n) = IsName n

pub sort_written : (s : Sort) → HasNames s → IsWritten (sort_form s)
sort_written bool names = word_written (codes "Bool") refl
sort_written int names = word_written (codes "Int") refl
sort_written (bit_vector width) names = indexed_written (codes "BitVec") (width ∷ []) refl
sort_written (array i e) names = (word_written (codes "Array") refl, (sort_written i names.0, (sort_written e names.1, tt)))
sort_written (free_sort n) names = symbol_written n names

pub variable_written : (x : Variable) → IsName x.name → HasNames x.sort → IsWritten (variable_form x)
variable_written x name names = (symbol_written x.name name, (sort_written x.sort names, tt))

pub constant_array_written : (s : Sort) → HasNames s → IsWritten (constant_array_form s)
constant_array_written s names = (word_written (codes "as") refl, (word_written (codes "const") refl, (sort_written s names, tt)))
