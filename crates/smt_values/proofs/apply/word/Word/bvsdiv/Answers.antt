use Rattle.std.proofs.Common.{rules, sym, ap, ◌≡◌, cond, ◌∙◌, length}
use mir.Val.{SFits}
use Rattle.std.specs.Int.{w128}
use Rattle.std.specs.Prelude.{int_div}
use Rattle.smt_terms.specs.BitVectors.{nat2bv, bv2int, int2bv, sign, ones}
use Rattle.smt_values.proofs.WordLaws.{at_width, not_signed_zero, quotient_word, some_divisor, sdiv_zero}
use Rattle.smt_values.proofs.apply.word.Word.bvsdiv.Goals as goal
use Rattle.smt_values.proofs.apply.word.Word.bvsdiv.Goals.{then-sign, else-sign}

pub returns-then-other-eq0-clause-vector : goal.returns-then-other-eq0-clause-vector
returns-then-other-eq0-clause-vector c =
    let told : c.if-sign.quotient ≡ cond (sign (nat2bv c.args.self.width c.args.self.bits)) 1 340282366920938463463374607431768211455 =
    elim c.if-sign.branch [
      | then-sign w ↦ w.quotient-is ∙ sym (ap (λ b. cond b 1 340282366920938463463374607431768211455) (sym c.sign.ensures ∙ w.if-sign.true))
      | else-sign w ↦ w.quotient-is ∙ sym (ap (λ b. cond b 1 340282366920938463463374607431768211455) (sym c.sign.ensures ∙ w.if-sign.false))
    ] in
    sdiv_zero c.args.self.width c.args.self.bits c.args.other.bits c.if-sign.quotient c.new.result.bits c.args.self.narrow (at_width c.args.other.width c.args.self.width c.args.other.bits c.requires c.args.other.below) c.if-other-eq0.true told c.new.ensures.vector

pub wrapping_div-quotient-requires : goal.wrapping_div-quotient-requires
wrapping_div-quotient-requires c =
    let fits : SFits w128 c.signed-2.result = search rules in
    not_signed_zero c.args.self.width c.args.other.bits c.signed-2.result (at_width c.args.other.width c.args.self.width c.args.other.bits c.requires c.args.other.below) c.if-other-eq0.false fits (c.signed-2.ensures ∙ ap (λ k. bv2int (nat2bv k c.args.other.bits)) c.requires)

pub returns-clause-vector : goal.returns-clause-vector
returns-clause-vector c =
    let left : SFits w128 c.signed.result = search rules in
    let right : SFits w128 c.signed-2.result = search rules in
    let fits : SFits w128 c.wrapping_div-quotient.result = search rules in
    quotient_word c.args.self.width c.signed.result c.signed-2.result c.wrapping_div-quotient.result c.cast_unsigned.result c.new-2.result.bits c.args.self.narrow left right fits c.wrapping_div-quotient.ensures c.cast_unsigned.ensures c.new-2.ensures.vector
    ∙ (λ i. int2bv c.args.self.width (int_div (c.signed.ensures i) ((c.signed-2.ensures ∙ ap (λ k. bv2int (nat2bv k c.args.other.bits)) c.requires) i)))
    ∙ some_divisor c.args.self.width c.args.self.bits c.args.other.bits (cond (sign (nat2bv c.args.self.width c.args.self.bits)) (nat2bv (length (nat2bv c.args.self.width c.args.self.bits)) 1) (ones (length (nat2bv c.args.self.width c.args.self.bits)))) (int_div (bv2int (nat2bv c.args.self.width c.args.self.bits)) (bv2int (nat2bv c.args.self.width c.args.other.bits))) (at_width c.args.other.width c.args.self.width c.args.other.bits c.requires c.args.other.below) c.if-other-eq0.false
