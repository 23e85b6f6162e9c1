-- The names that are printed: of elements, and of parameters, which need no bars.
use Rattle.std.proofs.Common.{◌≡◌, ℕ, zero, suc, ◌+◌, ◌/◌, ◌%◌, ◌<◌, ◌≤◌, nat_lt, Bool, true, false, not, List, [], ◌∷◌, length, refl, ap, ◌∙◌, arith}
use Rattle.std.specs.Prelude.{◌==◌, ◌&&◌}
use Rattle.std.specs.List.{list_all}
use Rattle.std.proofs.lemmas.Bool.{ltb-true, ltb-false, ne_eqb}
use Rattle.std.proofs.lemmas.List.Folds.{list_all-append}
use Rattle.std.proofs.Math.Nat.{div-lt_self, mod-lt}
use Rattle.smt_lex.specs.Lexicon.{is_symbol_byte, is_word, bar, backslash}
use Rattle.smt_lex.specs.Names.{Name, is_reserved, is_syntax_word, is_command_word, is_simple, printed_symbol, IsName}
use Rattle.smt_terms.specs.Numeral.{digits_before, numeral}
use Rattle.model_texts.specs.ModelLines.{element_name, parameter_name}

-- ---- numerals

module _ (test : ℕ → Bool) (each : (d : ℕ) → d < 10 → test (48 + d) ≡ true) where
  digits_pass : (room n : ℕ) (after : List ℕ) → n < room → list_all test after ≡ true → list_all test (digits_before room n after) ≡ true
  digits_pass zero n after lt all = absurd (omega arith)
  digits_pass (suc room) n after lt all = by (nat_lt n 10) refl (digits_pass room (n / 10) ((48 + n % 10) ∷ after))
    where
      by : (b : Bool) → nat_lt n 10 ≡ b → (n / 10 < room → list_all test ((48 + n % 10) ∷ after) ≡ true → list_all test (digits_before room (n / 10) ((48 + n % 10) ∷ after)) ≡ true)
          → list_all test (elim b [ true ↦ (48 + n) ∷ after | false ↦ digits_before room (n / 10) ((48 + n % 10) ∷ after) ]) ≡ true
      by true is below = rw (each n (ltb-true n 10 is)) all
      by false is below =
          let many : 10 ≤ n = ltb-false n 10 is in
          let less : n / 10 < n = div-lt_self (omega arith) (omega arith) in
          below (omega arith) (rw (each (n % 10) (mod-lt n (omega arith))) all)

  -- what holds of the ten digits holds of each byte of a numeral
  pub numeral_passes : (n : ℕ) → list_all test (numeral n) ≡ true
  numeral_passes n = digits_pass (suc n) n [] (omega arith) refl

digit_in_word : (d : ℕ) → d < 10 → is_symbol_byte (48 + d) ≡ true
digit_in_word zero h = refl
digit_in_word (suc zero) h = refl
digit_in_word (suc (suc zero)) h = refl
digit_in_word (suc (suc (suc zero))) h = refl
digit_in_word (suc (suc (suc (suc zero)))) h = refl
digit_in_word (suc (suc (suc (suc (suc zero))))) h = refl
digit_in_word (suc (suc (suc (suc (suc (suc zero)))))) h = refl
digit_in_word (suc (suc (suc (suc (suc (suc (suc zero))))))) h = refl
digit_in_word (suc (suc (suc (suc (suc (suc (suc (suc zero)))))))) h = refl
digit_in_word (suc (suc (suc (suc (suc (suc (suc (suc (suc zero))))))))) h = refl
digit_in_word (suc (suc (suc (suc (suc (suc (suc (suc (suc (suc d)))))))))) h = absurd (omega arith)

abbrev plain_byte : ℕ → Bool
plain_byte b = not (b == bar) && not (b == backslash)

digit_plain : (d : ℕ) → d < 10 → plain_byte (48 + d) ≡ true
digit_plain d h = rw (ne_eqb (48 + d) 124 (λ e. omega (arith, e))) (rw (ne_eqb (48 + d) 92 (λ e. omega (arith, e))) refl)

-- ---- names

pub element_plain : (s : Name) (n : ℕ) → IsName s → IsName (element_name s n)
element_plain s n plain = list_all-append plain_byte s (95 ∷ numeral n) ∙ rw plain (numeral_passes plain_byte digit_plain n)

parameter_word : (i : ℕ) → is_word (parameter_name i) ≡ true
parameter_word i = rw (numeral_passes is_symbol_byte digit_in_word i) (ap not (ne_eqb (length (parameter_name i)) 0 (λ none. omega (arith, none))))

parameter_unreserved : (i : ℕ) → is_reserved (parameter_name i) ≡ false
unfolding is_syntax_word is_command_word
parameter_unreserved i = refl

pub parameter_simple : (i : ℕ) → is_simple (parameter_name i) ≡ true
parameter_simple i = rw (parameter_word i) (ap not (parameter_unreserved i))

pub parameter_printed : (i : ℕ) → printed_symbol (parameter_name i) ≡ parameter_name i
parameter_printed i = rw (parameter_simple i) refl
