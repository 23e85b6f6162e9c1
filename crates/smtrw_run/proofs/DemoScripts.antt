-- The script of a demonstration, as it is written piece by piece.
use Rattle.std.proofs.Common.{◌≡◌, ◌∙◌, sym, ap, ℕ, zero, suc, ◌+◌, ◌-◌, ◌^◌, ◌%◌, ◌<◌, ◌≤◌, List, [], ◌∷◌, ◌++◌, append_assoc, append-nil, codes, arith}
use Rattle.smt_terms.specs.Numeral.{numeral}
use Rattle.smtrw_answers.specs.Outputs.{demo_script, flag_lines, steps_from}
use Rattle.smtrw_run.specs.Demo.{opening, state_behind}

-- ---- the constants

abbrev pub flag_line : ℕ → List ℕ
flag_line n = codes "(declare-fun b" ++ numeral n ++ codes " () Bool)\n"

-- the lines of the first so many
abbrev pub flags_before : ℕ → List ℕ
flags_before zero = []
flags_before (suc n) = flags_before n ++ flag_line n

pub flags-more : (n : ℕ) (old now a b new : List ℕ) → now ≡ old ++ flags_before n → a ≡ now ++ codes "(declare-fun b" → b ≡ a ++ numeral n → new ≡ b ++ codes " () Bool)\n" → new ≡ old ++ flags_before (n + 1)
flags-more n old now a b new before is_a is_b is_new =
    let one : n + 1 ≡ suc n = omega arith in
    is_new
    ∙ ap (λ (ys : List ℕ). ys ++ codes " () Bool)\n") (is_b ∙ ap (λ (ys : List ℕ). ys ++ numeral n) (is_a ∙ ap (λ (ys : List ℕ). ys ++ codes "(declare-fun b") before))
    ∙ joined old (flags_before n) (codes "(declare-fun b") (numeral n) (codes " () Bool)\n")
    ∙ ap (λ (k : ℕ). old ++ flags_before k) (sym one)
  where
    joined : (o f x y z : List ℕ) → (((o ++ f) ++ x) ++ y) ++ z ≡ o ++ (f ++ ((x ++ y) ++ z))
    joined o f x y z = simp append_assoc

-- ---- the steps

-- so many steps from step k on, in a state, and the last one's name within, without the parentheses behind it
abbrev pub unclosed : ℕ → ℕ → ℕ → List ℕ
unclosed zero k s = codes "t" ++ numeral (k - 1)
unclosed (suc n) k s = opening k s ++ unclosed n (suc k) (state_behind s)

-- so many parentheses
abbrev pub closing : ℕ → List ℕ
closing zero = []
closing (suc n) = closing n ++ codes ")"

pub steps_closed : (n k s : ℕ) → unclosed n k s ++ closing n ≡ steps_from n k s
steps_closed zero k s = append-nil (codes "t" ++ numeral (k - 1))
steps_closed (suc n) k s =
    joined (opening k s) (unclosed n (suc k) (state_behind s)) (closing n) (codes ")")
    ∙ ap (λ (ys : List ℕ). (opening k s ++ ys) ++ codes ")") (steps_closed n (suc k) (state_behind s))
  where
    joined : (o u c p : List ℕ) → (o ++ u) ++ (c ++ p) ≡ (o ++ (u ++ c)) ++ p
    joined o u c p = simp append_assoc

-- step k of so many is next, in a state
pub record IsUnderWay (size seed k s : ℕ) (old now : List ℕ) : Type 0 where
  pub state : s < 2 ^ 31
  pub text : now ++ unclosed (size - k) k s ≡ old ++ unclosed size 0 (seed % 2 ^ 31)

pub steps-more : (size seed k s t : ℕ) (old now new : List ℕ) → k < size → t ≡ state_behind s → new ≡ now ++ opening k s → IsUnderWay size seed k s old now → IsUnderWay size seed (k + 1) t old new
steps-more size seed k s t old now new lt is_t is_new way =
    let one : k + 1 ≡ suc k = omega arith in
    let more : size - k ≡ suc (size - suc k) = omega arith in
    record {
      state = omega (arith, is_t);
      text =
          (λ i. is_new i ++ unclosed (size - one i) (one i) (is_t i))
          ∙ append_assoc now (opening k s) (unclosed (size - suc k) (suc k) (state_behind s))
          ∙ ap (λ (n : ℕ). now ++ unclosed n k s) (sym more)
          ∙ way.text;
    }

pub steps-end : (size seed k s : ℕ) (old now a new : List ℕ) → 1 ≤ size → k ≤ size → size ≤ k → IsUnderWay size seed k s old now → a ≡ now ++ codes "t" → new ≡ a ++ numeral (size - 1) → new ≡ old ++ unclosed size 0 (seed % 2 ^ 31)
steps-end size seed k s old now a new least within past way is_a is_new =
    let none : size - k ≡ 0 = omega arith in
    let last : size ≡ k = omega arith in
    is_new
    ∙ ap (λ (ys : List ℕ). ys ++ numeral (size - 1)) is_a
    ∙ append_assoc now (codes "t") (numeral (size - 1))
    ∙ ap (λ (n : ℕ). now ++ (codes "t" ++ numeral (n - 1))) last
    ∙ ap (λ (n : ℕ). now ++ unclosed n k s) (sym none)
    ∙ way.text

-- ---- the parentheses behind the steps

pub closing-begin : (old steps now : List ℕ) → now ≡ old ++ steps → now ≡ old ++ steps ++ closing 0
closing-begin old steps now is = is ∙ sym (append-nil (old ++ steps))

pub closing-more : (n : ℕ) (old steps now new : List ℕ) → now ≡ old ++ steps ++ closing n → new ≡ now ++ codes ")" → new ≡ old ++ steps ++ closing (n + 1)
closing-more n old steps now new before is =
    let one : n + 1 ≡ suc n = omega arith in
    is
    ∙ ap (λ (ys : List ℕ). ys ++ codes ")") before
    ∙ append_assoc (old ++ steps) (closing n) (codes ")")
    ∙ ap (λ (k : ℕ). old ++ steps ++ closing k) (sym one)

pub closing-end : (size n s : ℕ) (old now : List ℕ) → n ≤ size → size ≤ n → now ≡ old ++ unclosed size 0 s ++ closing n → now ≡ old ++ steps_from size 0 s
closing-end size n s old now within past before =
    let all : n ≡ size = omega arith in
    before
    ∙ ap (λ (k : ℕ). old ++ unclosed size 0 s ++ closing k) all
    ∙ append_assoc old (unclosed size 0 s) (closing size)
    ∙ ap (λ (ys : List ℕ). old ++ ys) (steps_closed size 0 s)

-- ---- the whole script

pub script_made : (seed size : ℕ) (none begun flagged opened stepped text : List ℕ) → none ≡ [] → begun ≡ none ++ codes "(set-logic QF_UF)\n" → flagged ≡ begun ++ flag_lines (0 ∷ 1 ∷ 2 ∷ 3 ∷ 4 ∷ 5 ∷ 6 ∷ 7 ∷ []) → opened ≡ flagged ++ codes "(assert "
    → stepped ≡ opened ++ steps_from size 0 (seed % 2 ^ 31) → text ≡ stepped ++ codes ")\n(check-sat)\n" → text ≡ demo_script seed size
script_made seed size none begun flagged opened stepped text is_none is_begun is_flagged is_opened is_stepped is_text =
    let flags = flag_lines (0 ∷ 1 ∷ 2 ∷ 3 ∷ 4 ∷ 5 ∷ 6 ∷ 7 ∷ []) in
    let steps = steps_from size 0 (seed % 2 ^ 31) in
    let first = is_begun ∙ ap (λ (ys : List ℕ). ys ++ codes "(set-logic QF_UF)\n") is_none in
    let second = is_flagged ∙ ap (λ (ys : List ℕ). ys ++ flags) first in
    let third = is_opened ∙ ap (λ (ys : List ℕ). ys ++ codes "(assert ") second in
    let fourth = is_stepped ∙ ap (λ (ys : List ℕ). ys ++ steps) third in
    is_text
    ∙ ap (λ (ys : List ℕ). ys ++ codes ")\n(check-sat)\n") fourth
    ∙ sym (append_assoc (codes "(set-logic QF_UF)\n" ++ flags ++ codes "(assert " ++ steps) (codes ")\n") (codes "(check-sat)\n"))
