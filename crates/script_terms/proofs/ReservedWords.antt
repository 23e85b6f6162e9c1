-- Reserved words: none ends in a digit.
use Rattle.std.proofs.Common.{◌≡◌, ℕ, zero, suc, Bool, true, false, not, inl, inr, [], ◌∷◌, length, slice_index_or, refl, ap, sym, ◌∙◌, true≢false, arith}
use Rattle.std.specs.List.{list_all}
use Rattle.std.specs.Char.{is_ascii_digit}
use Rattle.smt_lex.specs.Names.{Name, is_reserved, is_syntax_word, is_command_word, syntax_words, command_words}
use Rattle.smt_terms.proofs.Tests.{either_true}
use Rattle.script_terms.proofs.TheoryNames.{among_passes}

abbrev ends_in_digit : Name → Bool
ends_in_digit [] = false
ends_in_digit (b ∷ []) = is_ascii_digit b
ends_in_digit (b ∷ c ∷ bs) = ends_in_digit (c ∷ bs)

last_is : (w : Name) (k : ℕ) → suc k ≡ length w → is_ascii_digit (slice_index_or w k 0) ≡ true → ends_in_digit w ≡ true
last_is [] k behind is = absurd cc
last_is (b ∷ []) zero behind is = is
last_is (b ∷ []) (suc k) behind is = absurd (omega (arith, behind))
last_is (b ∷ c ∷ bs) zero behind is = absurd (omega (arith, behind))
last_is (b ∷ c ∷ bs) (suc k) behind is = last_is (c ∷ bs) k (omega (arith, behind)) is

abbrev ends_otherwise : Name → Bool
ends_otherwise w = not (ends_in_digit w)

syntax_ends : list_all ends_otherwise syntax_words ≡ true
syntax_ends = refl

command_ends : list_all ends_otherwise command_words ≡ true
command_ends = refl

reserved_ends : (w : Name) → is_reserved w ≡ true → ends_otherwise w ≡ true
unfolding is_syntax_word is_command_word
reserved_ends w h =
    elim (either_true (is_syntax_word w) (is_command_word w) h) [
      | inl syntax ↦ among_passes ends_otherwise syntax_words w syntax_ends syntax
      | inr command ↦ among_passes ends_otherwise command_words w command_ends command
    ]

pub digit_free : (w : Name) (k : ℕ) → suc k ≡ length w → is_ascii_digit (slice_index_or w k 0) ≡ true → is_reserved w ≡ false
digit_free w k behind is = go (is_reserved w) refl
  where
    go : (b : Bool) → is_reserved w ≡ b → b ≡ false
    go true reserved = absurd (true≢false (sym (reserved_ends w reserved) ∙ ap not (last_is w k behind is)))
    go false free = refl
