-- The power of two that the rules read off an operator.
use Rattle.std.proofs.Common.{◌≡◌, ℕ, ◌^◌, ◌<◌, ◌≤◌, ◌≢◌, ◌⊎◌, Bool, true, false, ◌&&◌, nat_lt, count_ones, Some, None, IfSome, option_map, inl, inr, refl, ap, sym, ◌∙◌, arith}
use Rattle.std.proofs.lemmas.Bool.Decides.{nat_tests}
use Rattle.std.proofs.lemmas.Nat.{ones_le_self}
use Rattle.std.proofs.lemmas.Nat.Bits.{bit_at-trailing_zeros}
use Rattle.std.specs.Bool.{then_some}
use Rattle.std.specs.Int.{w128}
use Rattle.std.specs.Ordering.{nat_cmp, is_le, is_lt}
use Rattle.std.specs.Int.Count.{count_trailing_zeros}
use Rattle.smt_terms.specs.declared.op.Op.{Op}
use Rattle.smt_terms.specs.declared.op.Op.TheVariants.{Bits}
use Rattle.smt_terms.proofs.Tests.{true_or_false}
use Rattle.rule_book.specs.declared.eight_rules.PowerOfTwo.{PowerOfTwo}
use Rattle.rule_book.specs.EightRules.{power_at, exponent_below, literal_power, power}
use Rattle.rule_book.specs.Operands.{power_seen}
use Rattle.rule_book.proofs.PowersOfTwo.{power-ones, exponent-found, exponent-outside, exponent-none}

-- what the test of the exponent says
abbrev InRange : ℕ → ℕ → Bool → Type 0
InRange w k true = (1 ≤ k) × (k < w)
InRange w k false = (k < 1) ⊎ (w ≤ k)

range-told : (w k : ℕ) (r : Bool) → r ≡ (is_le (nat_cmp 1 k) && is_lt (nat_cmp k w)) → InRange w k r
range-told w k true is = (grind (arith, nat_tests), grind (arith, nat_tests))
range-told w k false is = elim (true_or_false (nat_lt k 1)) [
  | inl low ↦ inl (grind (arith, nat_tests))
  | inr not_low ↦ inr (grind (arith, nat_tests))
]

in-range : (w k n : ℕ) (r : Bool) (p : PowerOfTwo) → n ≡ 2 ^ k → p.width ≡ w → p.exponent ≡ k → InRange w k r → option_map power_seen (then_some r p) ≡ power_at w (exponent_below w n)
in-range w k n true p is width exponent within =
    (λ i. Some (record { width = width i; exponent = exponent i })) ∙ ap (power_at w) (sym (exponent-found w k within.0 within.1)) ∙ ap (λ m. power_at w (exponent_below w m)) (sym is)
in-range w k n false p is width exponent outside =
    ap (power_at w) (sym (exponent-outside w k outside)) ∙ ap (λ m. power_at w (exponent_below w m)) (sym is)

pub power-found : (o : Op) (w n : ℕ) (r : Bool) (p : PowerOfTwo) → o ≡ Bits w n → n < 2 ^ 128 → count_ones n ≡ 1 → p.width ≡ w → p.exponent ≡ count_trailing_zeros 128 n → r ≡ (is_le (nat_cmp 1 (count_trailing_zeros 128 n)) && is_lt (nat_cmp (count_trailing_zeros 128 n) w)) → option_map power_seen (then_some r p) ≡ power (Some o)
unfolding literal_power
power-found o w n r p is below one width exponent range =
    in-range w (count_trailing_zeros 128 n) n r p (power-ones 128 n below one) width exponent (range-told w (count_trailing_zeros 128 n) r range) ∙ ap literal_power (sym is)

pub exponent-bound : (n : ℕ) (r : Bool) (p : PowerOfTwo) → n < 2 ^ 128 → count_ones n ≡ 1 → p.exponent ≡ count_trailing_zeros 128 n → IfSome (then_some r p) (λ q. q.exponent < 128)
exponent-bound n true p below one exponent =
    let some = ones_le_self n in
    let bound = (bit_at-trailing_zeros w128 n (omega arith) below).0 in
    omega arith
exponent-bound n false p below one exponent = tt

pub power-none : (o : Op) (w n : ℕ) → o ≡ Bits w n → count_ones n ≢ 1 → None ≡ power (Some o)
unfolding literal_power
power-none o w n is other = ap (power_at w) (sym (exponent-none w n other)) ∙ ap literal_power (sym is)

pub power-other : (o : Op) → ((w n : ℕ) → o ≡ Bits w n → ⊥) → None ≡ power (Some o)
unfolding literal_power
power-other (Bits w n) other = absurd (other w n refl)
power-other _ other = refl
