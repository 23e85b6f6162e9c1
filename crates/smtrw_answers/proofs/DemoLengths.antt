-- A script of the demonstration is short: each of its steps is.
use Rattle.std.proofs.Common.{◌≡◌, ℕ, zero, suc, ◌+◌, ◌-◌, ◌*◌, ◌/◌, ◌%◌, ◌^◌, ◌<◌, ◌≤◌, List, [], ◌∷◌, ◌++◌, length, inl, inr, sym, subst, arith, length-append}
use Rattle.std.specs.Prelude.{codes, nat_lt}
use Rattle.std.proofs.Math.Nat.{div-lt_iff_lt-mul, mod-lt, pow-suc}
use Rattle.std.proofs.lemmas.Bool.{ltb-false}
use Rattle.smt_lex.specs.Lexicon.{right_parenthesis, space}
use Rattle.smt_terms.specs.Numeral.{numeral}
use Rattle.smt_terms.proofs.Tests.{true_or_false}
use Rattle.smt_print.proofs.Digits.{by_numeral}
use Rattle.smtrw_answers.specs.Laws.{DemoScriptsAreShort}
use Rattle.smtrw_answers.specs.Outputs.{next_state, drawn, pool_name, step_term, step_at, steps_from}
use Rattle.smtrw_answers.proofs.DemoForms.{operator_drawn, first_drawn, second_drawn, state_behind}
use Rattle.smtrw_answers.proofs.DemoNames.{step_name, pool_step}

-- ---- numbers below a power of ten have no more digits than that has zeros

abbrev HasFewDigits : ℕ → List ℕ → List ℕ → Type 0
HasFewDigits n after digits = (c : ℕ) → n < 10 ^ suc c → length digits ≤ suc c + length after

more_digits : (n : ℕ) (after digits : List ℕ) → 10 ≤ n → HasFewDigits (n / 10) ((48 + n % 10) ∷ after) digits → HasFewDigits n after digits
more_digits n after digits many below zero few = absurd (omega (arith, many, few))
more_digits n after digits many below (suc c) few =
    let next : 10 ^ suc (suc c) ≡ 10 ^ suc c * 10 = pow-suc 10 (suc c) in
    let shorter = below c ((div-lt_iff_lt-mul {k = 10} {x = n} {y = 10 ^ suc c} (omega arith)).1 (omega (arith, next, few))) in
    omega (arith, shorter)

numeral_short : (n : ℕ) → n < 100000 → length (numeral n) ≤ 5
numeral_short n few =
    let short = by_numeral HasFewDigits (λ n after small c few. omega arith) more_digits n 4 few in
    omega (arith, short)

-- ---- names and steps

step_name_short : (k : ℕ) → k < 100000 → length (step_name k) ≤ 6
step_name_short k few = let short = numeral_short k few in omega (arith, short)

pool_name_short : (i : ℕ) → i < 100000 → length (pool_name i) ≤ 6
pool_name_short i few = elim (true_or_false (nat_lt i 8)) [
  | inl declared ↦ let short = numeral_short i few in rw declared (omega (arith, short))
  | inr many ↦ subst (λ n. length n ≤ 6) (sym (pool_step i (ltb-false i 8 many))) (step_name_short (i - 8) (omega (arith, few)))
]

pair_short : (m n : List ℕ) → length m ≤ 6 → length n ≤ 6 → length (m ++ space ∷ [] ++ n ++ right_parenthesis ∷ []) ≤ 14
pair_short m n first second =
    let a = length-append (m ++ space ∷ [] ++ n) (right_parenthesis ∷ []) in
    let b = length-append (m ++ space ∷ []) n in
    let c = length-append m (space ∷ []) in
    omega (arith, first, second, a, b, c)

step_short : (o i j : ℕ) → length (pool_name i) ≤ 6 → length (pool_name j) ≤ 6 → length (step_term o i j) ≤ 19
step_short zero i j first second = let pair = pair_short (pool_name i) (pool_name j) first second in omega (arith, pair)
step_short (suc zero) i j first second = let pair = pair_short (pool_name i) (pool_name j) first second in omega (arith, pair)
step_short (suc (suc zero)) i j first second = let whole = length-append (pool_name i) (right_parenthesis ∷ []) in omega (arith, whole, first)
step_short (suc (suc (suc zero))) i j first second = let pair = pair_short (pool_name i) (pool_name j) first second in omega (arith, pair)
step_short (suc (suc (suc (suc n)))) i j first second = let pair = pair_short (pool_name i) (pool_name j) first second in omega (arith, pair)

drawn_short : (s k : ℕ) → k < 50000 → length (step_at s k) ≤ 19
drawn_short s k few =
    let first : first_drawn s k < 8 + k = mod-lt (drawn (next_state s)) (omega arith) in
    let second : second_drawn s k < 8 + k = mod-lt (drawn (next_state (next_state s))) (omega arith) in
    step_short (operator_drawn s) (first_drawn s k) (second_drawn s k) (pool_name_short (first_drawn s k) (omega (arith, first, few))) (pool_name_short (second_drawn s k) (omega (arith, second, few)))

let_length : (name step body : List ℕ) → length (name ++ codes " " ++ step ++ codes ")) " ++ body ++ codes ")") ≡ length name + length step + length body + 5
let_length name step body =
    let a = length-append (name ++ codes " " ++ step ++ codes ")) " ++ body) (codes ")") in
    let b = length-append (name ++ codes " " ++ step ++ codes ")) ") body in
    let c = length-append (name ++ codes " " ++ step) (codes ")) ") in
    let d = length-append (name ++ codes " ") step in
    let e = length-append name (codes " ") in
    omega (arith, a, b, c, d, e)

steps_short : (n k s : ℕ) → n + k < 50000 → length (steps_from n k s) ≤ n * 40 + 6
steps_short zero k s few = let short = step_name_short (k - 1) (omega (arith, few)) in omega (arith, short)
steps_short (suc n) k s few =
    let name = step_name_short k (omega (arith, few)) in
    let here = drawn_short s k (omega (arith, few)) in
    let behind = steps_short n (suc k) (state_behind s) (omega (arith, few)) in
    let whole = let_length (step_name k) (step_at s k) (steps_from n (suc k) (state_behind s)) in
    omega (arith, name, here, behind, whole)

pub demo_short : DemoScriptsAreShort
demo_short seed size few =
    let steps = steps_short size 0 (seed % 2 ^ 31) (omega (arith, few)) in
    let a = length-append (steps_from size 0 (seed % 2 ^ 31) ++ codes ")\n") (codes "(check-sat)\n") in
    let b = length-append (steps_from size 0 (seed % 2 ^ 31)) (codes ")\n") in
    omega (arith, few, steps, a, b)
