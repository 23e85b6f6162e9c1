-- The laws of the operators on whole numbers give terms of the same value.
use Rattle.std.proofs.Common.{◌≡◌, ◌-◌, ◌%◌, ◌^◌, ◌<◌, ◌||◌, inl, inr, ℤ, pos, negsuc, ◌-ℤ◌, nat_abs, ap, sym, ◌∙◌, arith}
use Rattle.std.specs.Prelude.{IfSome}
use Rattle.std.specs.Int.{int_div_euclid, int_rem_euclid}
use Rattle.std.proofs.Math.IntN.{+ℤ_idr, +ℤ_invr}
use Rattle.std.proofs.Math.Nat.{div-one, mod-one}
use Rattle.smt_terms.specs.declared.op.Op.TheVariants.{Sub, Div, Mod}
use Rattle.smt_terms.specs.Sorts.{int}
use Rattle.smt_terms.specs.Term.{Term}
use Rattle.smt_terms.specs.Constants.{whole_term}
use Rattle.smt_terms.specs.Equal.{term_eq}
use Rattle.smt_terms.specs.Models.{Model, background}
use Rattle.smt_terms.specs.Operators.{op_value, quotient, modulus}
use Rattle.smt_terms.specs.Val.{Env, val}
use Rattle.smt_terms.specs.Values.{number}
use Rattle.smt_terms.proofs.Equal.{Decides-term_eq}
use Rattle.smt_terms.proofs.Tests.{either_true}
use Rattle.simplify.specs.Folding.{is_whole}
use Rattle.simplify.specs.Numbers as numbers
use Rattle.simplify.proofs.Gives.{Operand, Gives, by_if, gives_number, whole_operand, whole_read}
use Rattle.simplify.proofs.VectorsGive.{node}

minus-none : (z : ℤ) → z -ℤ pos 0 ≡ z
minus-none z = +ℤ_idr z

minus-itself : (z : ℤ) → z -ℤ z ≡ pos 0
minus-itself z = +ℤ_invr z

div-by-one : (z : ℤ) → int_div_euclid z (pos 1) ≡ z
div-by-one (pos n) = ap pos (div-one n)
div-by-one (negsuc n) = ap negsuc (div-one n)

mod-by-one : (z : ℤ) → int_rem_euclid z (pos 1) ≡ pos 0
mod-by-one (pos n) = ap pos (mod-one n)
mod-by-one (negsuc n) = let none : 1 - 1 - n % 1 ≡ 0 = omega arith in ap pos none

mod-by-minus-one : (z : ℤ) → int_rem_euclid z (negsuc 0) ≡ pos 0
mod-by-minus-one (pos n) = ap pos (mod-one n)
mod-by-minus-one (negsuc n) = let none : 1 - 1 - n % 1 ≡ 0 = omega arith in ap pos none

zero_operand : Operand int (whole_term (pos 0))
zero_operand = let small : nat_abs (pos 0) < 2 ^ 127 = omega arith in whole_operand (pos 0) small

module _ (s t : Term) (p : Operand int s) (q : Operand int t) where
  abbrev N : Model → Env → Term → ℤ
  N m e u = number (val m u e)

  pub subtraction_gives : IfSome (numbers.subtraction s t) (λ r. Gives int (node Sub s t) r)
  unfolding op_value
  subtraction_gives =
      by_if (λ r. Gives int (node Sub s t) r) (is_whole (pos 0) t) s _ (λ h. gives_number (node Sub s t) s p (λ m e model env.
      ap (λ z. N m e s -ℤ z) (whole_read (pos 0) t h m e) ∙ minus-none (N m e s)))
      (by_if (λ r. Gives int (node Sub s t) r) (term_eq s t) (whole_term (pos 0)) _ (λ h. gives_number (node Sub s t) (whole_term (pos 0)) zero_operand (λ m e model env.
      ap (λ u. N m e s -ℤ N m e u) (sym ((Decides-term_eq s t).0 h)) ∙ minus-itself (N m e s)))
      tt)

  pub division_gives : IfSome (numbers.division s t) (λ r. Gives int (node Div s t) r)
  unfolding op_value
  division_gives =
      by_if (λ r. Gives int (node Div s t) r) (is_whole (pos 1) t) s _ (λ h. gives_number (node Div s t) s p (λ m e model env.
      ap (λ z. quotient (background m) (N m e s) z) (whole_read (pos 1) t h m e) ∙ div-by-one (N m e s)))
      tt

  pub remainder_gives : IfSome (numbers.remainder s t) (λ r. Gives int (node Mod s t) r)
  unfolding op_value
  remainder_gives =
      by_if (λ r. Gives int (node Mod s t) r) (is_whole (pos 1) t || is_whole (negsuc 0) t) (whole_term (pos 0)) _ (λ h. gives_number (node Mod s t) (whole_term (pos 0)) zero_operand (λ m e model env.
      elim (either_true (is_whole (pos 1) t) (is_whole (negsuc 0) t) h) [
        | inl one ↦ ap (λ z. modulus (background m) (N m e s) z) (whole_read (pos 1) t one m e) ∙ mod-by-one (N m e s)
        | inr other ↦ ap (λ z. modulus (background m) (N m e s) z) (whole_read (negsuc 0) t other m e) ∙ mod-by-minus-one (N m e s)
      ]))
      tt
