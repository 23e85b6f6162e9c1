-- The words, one after the other, against what the code has seen of them.
use Rattle.std.proofs.Common.{◌≡◌, ◌≤◌, ◌<◌, ◌+◌, ℕ, suc, Bool, true, false, List, [], ◌∷◌, map, drop, length, get_or, Some, None, Result, Ok, Err, refl, sym, ap, ◌∙◌, subst, add-one, arith}
use Rattle.std.specs.Option.{is_some}
use Rattle.std.proofs.Math.Seq.{drop-cons}
use Rattle.std.proofs.lemmas.List.{drop_all, get_or-map, length-map}
use Rattle.smtrw_answers.specs.declared.status.Usage.{Usage}
use Rattle.smtrw_answers.specs.declared.grammar.Seen.{Seen}
use Rattle.smtrw_answers.specs.declared.grammar.Operands.{Operands}
use Rattle.smtrw_answers.specs.declared.grammar.Operands.TheVariants.{Absent, One, Two}
use Rattle.smtrw_answers.specs.declared.grammar.Plan.{Plan}
use Rattle.smtrw_answers.specs.Words.{Word, Command, takes_pass, Given, nothing_given, word_behind, words_from, and_then, at_end, asked_of, Asked, asked, command_named}
use Rattle.smtrw_answers.specs.Asking.{Agrees, EndFits, StepFits, operand_count, most_words, one_if}

-- the first k words were accepted
pub record Met (c : Command) (ws : List Word) (k : ℕ) (s : Seen) : Type 0 where
  pub given : Given
  pub agrees : Agrees s given
  pub rest : words_from (takes_pass c) c 2 ws nothing_given ≡ words_from (takes_pass c) c (k + 2) (drop k ws) given
  pub few : k ≤ most_words s

abbrev nothing_seen : Seen
nothing_seen = record { passes = false; layout = false; check = false; operands = Absent; reads_input = false; awaited = None }

pub none_met : (c : Command) (ws : List Word) → Met c ws 0 nothing_seen
none_met c ws = record { given = nothing_given; agrees = record { passes = refl; layout = refl; check = refl; plain = refl; input = refl; awaited = refl; new = tt }; rest = refl; few = omega arith }

one_few : (b : Bool) → one_if b ≤ 1
one_few true = omega arith
one_few false = omega arith

operands_few : (os : Operands) → operand_count os ≤ 2
operands_few Absent = omega arith
operands_few (One i) = omega arith
operands_few (Two i j) = omega arith

pub most_few : (s : Seen) → most_words s ≤ 9
most_few s = omega (arith, one_few s.passes, one_few s.layout, one_few s.check, operands_few s.operands, one_few (is_some s.awaited))

module _ (c : Command) (ws : List Word) (k : ℕ) (s : Seen) (w : Word) (lt : k < length ws) (at : w ≡ get_or ws k w) (m : Met c ws k s) where
  here : words_from (takes_pass c) c 2 ws nothing_given ≡ and_then (words_from (takes_pass c) c (suc (k + 2)) (drop (suc k) ws)) (word_behind (takes_pass c) c (k + 2) w m.given m.given.awaited)
  here =
      m.rest ∙ ap (λ vs. words_from (takes_pass c) c (k + 2) vs m.given) (drop-cons ws k w lt)
      ∙ ap (λ v. and_then (words_from (takes_pass c) c (suc (k + 2)) (drop (suc k) ws)) (word_behind (takes_pass c) c (k + 2) v m.given m.given.awaited)) (sym at)

  pub word_met_is : (t : Seen) → StepFits s (Ok t) (word_behind (takes_pass c) c (k + 2) w m.given m.given.awaited) → Met c ws (k + 1) t
  word_met_is t = go (word_behind (takes_pass c) c (k + 2) w m.given m.given.awaited) refl
    where
      go : (r : Result Given Usage) → word_behind (takes_pass c) c (k + 2) w m.given m.given.awaited ≡ r → StepFits s (Ok t) r → Met c ws (k + 1) t
      go (Ok h) is fits = record {
        given = h;
        agrees = fits.0;
        rest = here ∙ ap (and_then (words_from (takes_pass c) c (suc (k + 2)) (drop (suc k) ws))) is ∙ (let next : suc (k + 2) ≡ k + 1 + 2 = omega arith in ap (λ j. words_from (takes_pass c) c j (drop (suc k) ws) h) next) ∙ ap (λ j. words_from (takes_pass c) c (k + 1 + 2) (drop j ws) h) (sym (add-one k));
        few = let f = m.few in omega (arith, fits.1);
      }
      go (Err u) is fits = absurd fits

  pub fault_is : (u : Usage) → StepFits s (Err u) (word_behind (takes_pass c) c (k + 2) w m.given m.given.awaited) → EndFits (Err u) (asked_of (Some c) ws)
  fault_is u = go (word_behind (takes_pass c) c (k + 2) w m.given m.given.awaited) refl
    where
      go : (r : Result Given Usage) → word_behind (takes_pass c) c (k + 2) w m.given m.given.awaited ≡ r → StepFits s (Err u) r → EndFits (Err u) (asked_of (Some c) ws)
      go (Ok h) is fits = absurd fits
      go (Err v) is fits =
          let all : words_from (takes_pass c) c 2 ws nothing_given ≡ Err v = here ∙ ap (and_then (words_from (takes_pass c) c (suc (k + 2)) (drop (suc k) ws))) is in
          let asked : asked_of (Some c) ws ≡ Err v = ap (and_then (λ g. at_end c (suc (suc (length ws))) g g.awaited)) all in
          subst (EndFits (Err u)) (sym asked) fits

pub all_met : (c : Command) (ws : List Word) (k : ℕ) (s : Seen) (r : Result Plan Usage) → k ≡ length ws → (m : Met c ws k s)
    → EndFits r (at_end c (k + 2) m.given m.given.awaited) → EndFits r (asked_of (Some c) ws)
all_met c ws k s r end m fits =
    let none : drop k ws ≡ [] = drop_all k ws (omega arith) in
    let all : words_from (takes_pass c) c 2 ws nothing_given ≡ Ok m.given = m.rest ∙ ap (λ vs. words_from (takes_pass c) c (k + 2) vs m.given) none in
    let count : k + 2 ≡ suc (suc (length ws)) = omega arith in
    let asked : asked_of (Some c) ws ≡ at_end c (k + 2) m.given m.given.awaited =
    ap (and_then (λ g. at_end c (suc (suc (length ws))) g g.awaited)) all ∙ ap (λ i. at_end c i m.given m.given.awaited) (sym count) in
    subst (EndFits r) (sym asked) fits

-- the words from the first one on
pub asked_behind : (words rest : List Word) (name w : Word) (c : Command) → words ≡ name ∷ rest → w ≡ name → Some c ≡ command_named w
    → asked words ≡ asked_of (Some c) rest
asked_behind words rest name w c split same is = ap asked split ∙ ap (λ v. asked_of (command_named v) rest) (sym same) ∙ ap (λ o. asked_of o rest) (sym is)

-- a word at its place
pub placed_word : {S : Type 0} (text : S → Word) (xs : List S) (k : ℕ) (x : S) (w : Word) → k < length xs → x ≡ get_or xs k x → w ≡ text x
    → (k < length (map text xs)) × (w ≡ get_or (map text xs) k w)
placed_word text xs k x w lt at is =
    let count = length-map xs text in
    (omega (arith, count), is ∙ ap text at ∙ sym (get_or-map text xs k x (text x) lt) ∙ ap (get_or (map text xs) k) (sym is))

pub fault_of : (u : Usage) (r : Result Asked Usage) → EndFits (Err u) r → r ≡ Err u
fault_of u (Ok a) e = absurd e
fault_of u (Err v) e = ap Err (sym e)
