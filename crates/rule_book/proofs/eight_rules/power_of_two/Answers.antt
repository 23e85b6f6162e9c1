use Rattle.std.proofs.Common.{◌≡◌, ◌<◌, ◌^◌, count_ones, IfSome, option_map, refl, ap, sym, ◌∙◌, subst, arith}
use Rattle.std.proofs.lemmas.Bool.Decides.{Decides-eqb}
use Rattle.std.specs.Int.Count.{count_trailing_zeros}
use Rattle.rule_book.specs.declared.eight_rules.PowerOfTwo.{PowerOfTwo}
use Rattle.rule_book.specs.EightRules.{power}
use Rattle.rule_book.specs.Operands.{power_seen}
use Rattle.rule_book.proofs.PowersRead.{power-found, power-none, power-other, exponent-bound}
use Rattle.rule_book.proofs.eight_rules.power_of_two.Goals as goal

pub returns-in_default : goal.returns-in_default
returns-in_default c = record {
  value = power-other c.in_ok-width.field-0 c.in_default.not-Bits ∙ ap power (sym c.in_ok-width.was);
  bound = tt;
}

pub returns-then-not-is_power_of_two-clause-value : goal.returns-then-not-is_power_of_two-clause-value
returns-then-not-is_power_of_two-clause-value c =
    power-none c.in_ok-width.field-0 c.in-Bits.width c.in-Bits.bits c.in-Bits.is (λ one. let is_one = (Decides-eqb (count_ones c.in-Bits.bits) 1).1 one in let found = c.if-not-is_power_of_two.ensures in absurd cc) ∙ ap power (sym c.in_ok-width.was)

pub returns-clause-value : goal.returns-clause-value
returns-clause-value c =
    let n = c.in-Bits.bits in
    let below : n < 2 ^ 128 = omega arith in
    let one : count_ones n ≡ 1 = (Decides-eqb (count_ones n) 1).0 (sym c.if-not-is_power_of_two.ensures) in
    let found : PowerOfTwo = record { width = c.in-Bits.width; exponent = count_trailing_zeros 128 n } in
    ap (option_map power_seen) c.then_some.ensures
    ∙ power-found c.in_ok-width.field-0 c.in-Bits.width n c.contains.result found c.in-Bits.is below one refl refl c.contains.ensures.value
    ∙ ap power (sym c.in_ok-width.was)

pub returns-clause-bound : goal.returns-clause-bound
returns-clause-bound c =
    let n = c.in-Bits.bits in
    let below : n < 2 ^ 128 = omega arith in
    let one : count_ones n ≡ 1 = (Decides-eqb (count_ones n) 1).0 (sym c.if-not-is_power_of_two.ensures) in
    let found : PowerOfTwo = record { width = c.in-Bits.width; exponent = count_trailing_zeros 128 n } in
    subst (λ r. IfSome r (λ p. p.exponent < 128)) (sym c.then_some.ensures) (exponent-bound n c.contains.result found below one refl)
