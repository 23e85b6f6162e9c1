-- The names in a script of the demonstration: each is a word that may be declared and bound.
use Rattle.std.proofs.Common.{◌≡◌, ℕ, zero, suc, ◌+◌, ◌-◌, ◌<◌, ◌≤◌, Bool, true, false, eqb, not, List, [], ◌∷◌, ◌++◌, length, inl, inr, refl, ap, sym, subst, ◌∙◌, arith, le-ltb}
use Rattle.std.specs.Prelude.{◌&&◌, codes, nat_lt}
use Rattle.std.specs.Char.{is_ascii_digit}
use Rattle.std.specs.List.{list_all}
use Rattle.std.proofs.lemmas.Bool.{ne_eqb, ltb-true, ltb-false}
use Rattle.std.proofs.lemmas.Bool.Decides.{eqb_tells}
use Rattle.smt_lex.specs.Lexicon.{is_symbol_byte, is_word, bar, backslash}
use Rattle.smt_lex.specs.Names.{Name, IsName, is_syntax_word, is_command_word, is_reserved, is_theory_name, is_simple, is_reserved_for_declaring}
use Rattle.smt_terms.specs.Numeral.{numeral}
use Rattle.smt_terms.proofs.Tests.{and_true, both_true, true_or_false}
use Rattle.script_read.specs.Printable.{is_usable}
use Rattle.smt_print.proofs.Digits.{numeral_digits, numeral_some}
use Rattle.smt_print.proofs.Printables.{usable_parts}
use Rattle.smt_print.proofs.Writable.{all_weaker}
use Rattle.smtrw_answers.specs.Outputs.{pool_name}

-- the name that a step is bound to
abbrev pub step_name : ℕ → Name
step_name k = codes "t" ++ numeral k

-- the name stands without bars, and may be declared and bound
pub record IsPlain (n : Name) : Type 0 where
  pub simple : is_simple n ≡ true
  pub free : is_reserved_for_declaring n ≡ false
  pub name : IsName n

-- ---- steps

digit_in_word : (b : ℕ) → is_ascii_digit b ≡ true → is_symbol_byte b ≡ true
digit_in_word b h = rw h refl

digit_is_other : (b c : ℕ) → is_ascii_digit b ≡ true → is_ascii_digit c ≡ false → eqb b c ≡ false
digit_is_other b c digit other = ne_eqb b c (λ same. absurd (let no : is_ascii_digit b ≡ false = ap is_ascii_digit same ∙ other in cc))

digit_in_name : (b : ℕ) → is_ascii_digit b ≡ true → (not (eqb b bar) && not (eqb b backslash)) ≡ true
digit_in_name b digit = rw (digit_is_other b bar digit refl, digit_is_other b backslash digit refl) refl

pub step_word : (k : ℕ) → is_word (step_name k) ≡ true
step_word k = rw (all_weaker is_ascii_digit is_symbol_byte digit_in_word (numeral k) (numeral_digits k)) (ap not (ne_eqb (length (step_name k)) 0 (λ none. omega (arith, none))))

pub step_unreserved : (k : ℕ) → is_reserved (step_name k) ≡ false
unfolding is_syntax_word is_command_word
step_unreserved k = refl

-- no name of the theories has a digit behind a `t`
digits_behind : (ds : List ℕ) → 0 < length ds → list_all is_ascii_digit ds ≡ true → is_theory_name (codes "t" ++ ds) ≡ false
unfolding is_theory_name
digits_behind [] some all = absurd (omega arith)
digits_behind (d ∷ ds) some all =
    let digit = (both_true (is_ascii_digit d) (list_all is_ascii_digit ds) all).0 in
    rw (digit_is_other d 114 digit refl, digit_is_other d 111 digit refl) refl

pub step_no_theory : (k : ℕ) → is_theory_name (step_name k) ≡ false
step_no_theory k = digits_behind (numeral k) (numeral_some k) (numeral_digits k)

step_free : (k : ℕ) → is_reserved_for_declaring (step_name k) ≡ false
unfolding is_reserved_for_declaring
step_free k = step_no_theory k

pub step_plain : (k : ℕ) → IsPlain (step_name k)
step_plain k = record {
  simple = and_true (is_word (step_name k)) (not (is_reserved (step_name k))) (step_word k) (ap not (step_unreserved k));
  free = step_free k;
  name = all_weaker is_ascii_digit (λ b. not (eqb b bar) && not (eqb b backslash)) digit_in_name (numeral k) (numeral_digits k);
}

-- ---- the declared names

-- so many numbers from the first on
abbrev pub numbers : ℕ → ℕ → List ℕ
numbers first zero = []
numbers first (suc n) = first ∷ numbers (suc first) n

numbers_pass : (test : ℕ → Bool) (first n : ℕ) → list_all test (numbers first n) ≡ true → (i : ℕ) → first ≤ i → i < first + n → test i ≡ true
numbers_pass test first zero all i from below = absurd (omega arith)
numbers_pass test first (suc n) all i from below =
    let parts = both_true (test first) (list_all test (numbers (suc first) n)) all in
    elim (eqb_tells i first) [
      | inl same ↦ ap test same.1 ∙ parts.0
      | inr other ↦ numbers_pass test (suc first) n parts.1 i (omega (arith, from, other.1)) (omega (arith, below))
    ]

-- what holds of each of the eight, by computing
pub flags_pass : (test : ℕ → Bool) → list_all test (numbers 0 8) ≡ true → (i : ℕ) → i < 8 → test i ≡ true
flags_pass test all i few = numbers_pass test 0 8 all i (omega arith) few

plain_flag : (i : ℕ) → i < 8 → (is_simple (pool_name i) && is_usable (pool_name i)) ≡ true
unfolding is_syntax_word is_command_word is_reserved_for_declaring is_theory_name
plain_flag i few = flags_pass (λ i. is_simple (pool_name i) && is_usable (pool_name i)) refl i few

flag_plain : (i : ℕ) → i < 8 → IsPlain (pool_name i)
flag_plain i few =
    let parts = both_true (is_simple (pool_name i)) (is_usable (pool_name i)) (plain_flag i few) in
    let more = usable_parts (pool_name i) parts.1 in
    record { simple = parts.0; free = more.1; name = more.0 }

-- ---- all names

pub pool_step : (i : ℕ) → 8 ≤ i → pool_name i ≡ step_name (i - 8)
pool_step i many = rw (le-ltb i 8 many) refl

pub pool_plain : (i : ℕ) → IsPlain (pool_name i)
pool_plain i = elim (true_or_false (nat_lt i 8)) [
  | inl few ↦ flag_plain i (ltb-true i 8 few)
  | inr many ↦ subst IsPlain (sym (pool_step i (ltb-false i 8 many))) (step_plain (i - 8))
]
