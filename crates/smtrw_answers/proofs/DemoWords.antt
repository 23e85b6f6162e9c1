-- The words of `demo` that have no fault: each writes a number.
use Rattle.std.proofs.Common.{◌≡◌, ℕ, suc, ◌&&◌, Bool, true, false, cond, nat_le, List, [], ◌∷◌, ◌++◌, length, Option, Some, None, Ok, refl, subst}
use Rattle.std.specs.List.{AllByRecursion}
use Rattle.std.specs.Option.{is_some}
use Rattle.std.specs.Str.Parse.{digits_value}
use Rattle.smt_lex.specs.Lexicon.{is_numeral}
use Rattle.smtrw_answers.specs.Words.{Word, Numbered, demonstrating, takes_pass, Setting, setting_among, settings_of, is_dashed, Given, nothing_given, number_in, is_number_for, with_plain, number_word, option_word, plain_word, word_behind, words_from}
use Rattle.smtrw_answers.proofs.ClapWords.{PutsWords, ok_same, then_taken, else_taken, and_then_ok}

abbrev WritesNumber : Numbered → Type 0
WritesNumber w = number_in w.word ≡ Some (digits_value 10 w.word)

abbrev pub AreNumbers : List Numbered → Type 0
AreNumbers = AllByRecursion WritesNumber

-- nothing is awaited, since there are no options
abbrev HasNumbers : Given → Type 0
HasNumbers g = (g.awaited ≡ None) × AreNumbers g.plain

written : (w : Word) → is_some (number_in w) ≡ true → number_in w ≡ Some (digits_value 10 w)
written w = go (is_numeral w && nat_le (length w) 18)
  where
    go : (b : Bool) → is_some (cond b (Some (digits_value 10 w)) None) ≡ true → cond b (Some (digits_value 10 w)) None ≡ Some (digits_value 10 w)
    go true e = refl
    go false e = absurd cc

some_number : (ws : List Numbered) (n : Option ℕ) → is_number_for ws n ≡ true → is_some n ≡ true
some_number [] n e = e
some_number (w ∷ ws) None e = absurd cc
some_number (w ∷ ws) (Some k) e = refl

number_taken : (i : ℕ) (w : Word) (g h : Given) → number_word i w g ≡ Ok h → (number_in w ≡ Some (digits_value 10 w)) × (with_plain i w g ≡ Ok h)
number_taken i w g h e =
    let taken = then_taken (is_number_for g.plain (number_in w)) _ (with_plain i w g) h e in
    (written w (some_number g.plain (number_in w) taken.0), taken.1)

pub number_put : PutsWords demonstrating
number_put i w g h e = (number_taken i w g h e).1

one_more : (ws : List Numbered) (w : Numbered) → AreNumbers ws → WritesNumber w → AreNumbers (ws ++ w ∷ [])
one_more [] w all one = (one, tt)
one_more (x ∷ ws) w all one = (all.0, one_more ws w all.1 one)

plain_number : (i : ℕ) (w : Word) (g h : Given) → HasNumbers g → plain_word demonstrating i w g ≡ Ok h → HasNumbers h
plain_number i [] g h has e = absurd cc
plain_number i (b ∷ bs) g h has e =
    let room = else_taken (nat_le 2 (length g.plain)) _ (number_word i (b ∷ bs) g) h e in
    let taken = number_taken i (b ∷ bs) g h room.1 in
    subst HasNumbers (ok_same _ _ taken.1) (has.0, one_more g.plain (record { number = i; word = b ∷ bs }) has.1 taken.0)

one_word : (i : ℕ) (w : Word) (g h : Given) (s : Option Setting) → s ≡ None → HasNumbers g → word_behind (takes_pass demonstrating) demonstrating i w g s ≡ Ok h → HasNumbers h
one_word i w g h (Some s) idles has e = absurd cc
one_word i w g h None idles has e = go (is_dashed w) e
  where
    go : (b : Bool) → cond b (option_word (takes_pass demonstrating) i (setting_among (settings_of demonstrating) w) g) (plain_word demonstrating i w g) ≡ Ok h → HasNumbers h
    go true is = absurd cc
    go false is = plain_number i w g h has is

all_words : (i : ℕ) (ws : List Word) (g h : Given) → HasNumbers g → words_from (takes_pass demonstrating) demonstrating i ws g ≡ Ok h → HasNumbers h
all_words i [] g h has e = subst HasNumbers (ok_same g h e) has
all_words i (w ∷ ws) g h has e =
    let step = and_then_ok (words_from (takes_pass demonstrating) demonstrating (suc i) ws) (word_behind (takes_pass demonstrating) demonstrating i w g g.awaited) h e in
    all_words (suc i) ws step.0 h (one_word i w g step.0 g.awaited has.0 has step.1) step.2

pub numbers_given : (ws : List Word) (g : Given) → words_from (takes_pass demonstrating) demonstrating 2 ws nothing_given ≡ Ok g → AreNumbers g.plain
numbers_given ws g e = (all_words 2 ws nothing_given g (refl, tt) e).1
