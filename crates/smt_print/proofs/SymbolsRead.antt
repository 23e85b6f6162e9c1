-- Printed words, symbols and numerals, and how lists begin with them.
use Rattle.std.proofs.Common.{◌≡◌, ℕ, ◌-◌, inl, inr, true, false, not, Some, None, List, [], ◌∷◌, ◌++◌, length, take, refl, ap, sym, subst, ◌∙◌, arith, length-append}
use Rattle.std.specs.Prelude.{if◌then◌else◌, codes, bytes_eq}
use Rattle.std.proofs.lemmas.List.{take_at}
use Rattle.smt_lex.specs.declared.items.Item.{Item}
use Rattle.smt_lex.specs.declared.items.Item.TheVariants.{Numeral, Word, Quoted}
use Rattle.smt_lex.specs.Lexicon.{bar, is_word}
use Rattle.smt_lex.specs.Names.{Name, is_among, is_reserved, is_syntax_word, is_command_word, is_simple, syntax_words, printed_symbol}
use Rattle.smt_lex.specs.Lex.{symbol_by, name_by}
use Rattle.smt_lex.specs.Forms.{Form, atom}
use Rattle.smt_terms.specs.Numeral.{numeral}
use Rattle.smt_terms.proofs.Equal.{Decides-name_eq}
use Rattle.smt_terms.proofs.Tests.{true_or_false, both_true, both_false, not_true}
use Rattle.script_terms.specs.Parts.{head, opening, opening_word, word_by, constant_by, numeral_by}
use Rattle.term_table.specs.WrittenForms.{word_form, symbol_form}
use Rattle.smt_print.proofs.Digits.{numeral_value}
use Rattle.smt_print.proofs.FormTexts.{placed, token_at}

-- ---- words

-- a name that is none of these is other than each of them
pub other_word : (ws : List Name) (w v : Name) → is_among ws w ≡ false → is_among ws v ≡ true → bytes_eq w v ≡ false
other_word ws w v none there = elim (true_or_false (bytes_eq w v)) [
  | inl same ↦ absurd (let inside : is_among ws w ≡ true = subst (λ u. is_among ws u ≡ true) (sym ((Decides-name_eq w v).0 same)) there in cc)
  | inr other ↦ other
]

pub no_syntax : (w : Name) → is_reserved w ≡ false → is_among syntax_words w ≡ false
unfolding is_syntax_word
no_syntax w free = (both_false (is_syntax_word w) (is_command_word w) free).0

-- a word that isn't reserved begins an application
pub unreserved_opening : (f : Form) (w : Name) → is_reserved w ≡ false → opening_word f (Some w) ≡ head f
unreserved_opening f w free =
    let no : is_among syntax_words w ≡ false = no_syntax w free in
    rw (other_word syntax_words w (codes "let") no refl, other_word syntax_words w (codes "forall") no refl, other_word syntax_words w (codes "exists") no refl)
    (rw (other_word syntax_words w (codes "!") no refl, other_word syntax_words w (codes "_") no refl) refl)

pub word_opening : (p : ℕ) (w : Name) → is_reserved w ≡ false → opening (placed p (word_form w)) ≡ head (placed p (word_form w))
word_opening p w free = unreserved_opening (placed p (word_form w)) w free

pub word_symbol : (w : Name) → is_reserved w ≡ false → symbol_by Word w ≡ Some w
word_symbol w free = rw free refl

-- ---- symbols

abbrev pub symbol_item : Name → Item
symbol_item n = if is_simple n then Word else Quoted

simple_unreserved : (n : Name) → is_simple n ≡ true → is_reserved n ≡ false
simple_unreserved n simple = not_true (is_reserved n) (both_true (is_word n) (not (is_reserved n)) simple).1

between_bars : (n : Name) → name_by Quoted (bar ∷ (n ++ bar ∷ [])) ≡ n
between_bars n =
    let inside : length (bar ∷ (n ++ bar ∷ [])) - 2 ≡ length n = omega (arith, length-append n (bar ∷ [])) in
    ap (λ k. take k (n ++ bar ∷ [])) inside ∙ take_at n (bar ∷ []) (length n) refl

pub symbol_read : (n : Name) → symbol_by (symbol_item n) (printed_symbol n) ≡ Some n
symbol_read n = elim (true_or_false (is_simple n)) [
  | inl simple ↦ rw simple (word_symbol n (simple_unreserved n simple))
  | inr quoted ↦ rw quoted (ap Some (between_bars n))
]

pub symbol_no_constant : (n : Name) → constant_by (symbol_item n) (printed_symbol n) ≡ None
symbol_no_constant n = elim (true_or_false (is_simple n)) [ inl simple ↦ rw simple refl | inr quoted ↦ rw quoted refl ]

pub symbol_opening : (p : ℕ) (n : Name) → opening (placed p (symbol_form n)) ≡ head (placed p (symbol_form n))
symbol_opening p n = begins (symbol_item n) (printed_symbol n) (elim (true_or_false (is_simple n)) [
  | inl simple ↦ rw simple (λ f. unreserved_opening f n (simple_unreserved n simple))
  | inr quoted ↦ rw quoted (λ f. refl)
])
  where
    begins : (item : Item) (text : List ℕ) → ((f : Form) → opening_word f (word_by item text) ≡ head f) → opening (atom (token_at p item text)) ≡ head (atom (token_at p item text))
    begins item text h = h (atom (token_at p item text))

-- ---- numerals

pub numeral_read : (n : ℕ) → numeral_by Numeral (numeral n) ≡ Some n
numeral_read n = ap Some (numeral_value n)
