use Rattle.std.proofs.Common.{rules, sym, ap, ◌∙◌, length}
use mir.Val.{SFits}
use Rattle.std.specs.Int.{w128}
use Rattle.std.specs.Prelude.{int_rem}
use Rattle.smt_terms.specs.BitVectors.{nat2bv, bv2int, int2bv}
use Rattle.smt_values.proofs.WordLaws.{at_width, not_signed_zero, result_word, zero_divisor, some_divisor}
use Rattle.smt_values.proofs.apply.word.Word.bvsrem.Goals as goal

pub returns-then-other-eq0-clause-vector : goal.returns-then-other-eq0-clause-vector
returns-then-other-eq0-clause-vector c =
    sym (zero_divisor c.args.self.width c.args.other.bits (nat2bv c.args.self.width c.args.self.bits) (int2bv (length (nat2bv c.args.self.width c.args.self.bits)) (int_rem (bv2int (nat2bv c.args.self.width c.args.self.bits)) (bv2int (nat2bv c.args.self.width c.args.other.bits)))) (at_width c.args.other.width c.args.self.width c.args.other.bits c.requires c.args.other.below) c.if-other-eq0.true)

pub wrapping_rem-remainder-requires : goal.wrapping_rem-remainder-requires
wrapping_rem-remainder-requires c =
    let fits : SFits w128 c.signed-2.result = search rules in
    not_signed_zero c.args.self.width c.args.other.bits c.signed-2.result (at_width c.args.other.width c.args.self.width c.args.other.bits c.requires c.args.other.below) c.if-other-eq0.false fits (c.signed-2.ensures ∙ ap (λ k. bv2int (nat2bv k c.args.other.bits)) c.requires)

pub returns-clause-vector : goal.returns-clause-vector
returns-clause-vector c =
    let left : SFits w128 c.signed.result = search rules in
    let right : SFits w128 c.signed-2.result = search rules in
    let fits : SFits w128 c.wrapping_rem-remainder.result = search rules in
    result_word c.args.self.width int_rem c.signed.result c.signed-2.result c.wrapping_rem-remainder.result c.cast_unsigned.result c.new.result.bits c.args.self.narrow left right fits c.wrapping_rem-remainder.ensures c.cast_unsigned.ensures c.new.ensures.vector
    ∙ (λ i. int2bv c.args.self.width (int_rem (c.signed.ensures i) ((c.signed-2.ensures ∙ ap (λ k. bv2int (nat2bv k c.args.other.bits)) c.requires) i)))
    ∙ some_divisor c.args.self.width c.args.self.bits c.args.other.bits (nat2bv c.args.self.width c.args.self.bits) (int_rem (bv2int (nat2bv c.args.self.width c.args.self.bits)) (bv2int (nat2bv c.args.self.width c.args.other.bits))) (at_width c.args.other.width c.args.self.width c.args.other.bits c.requires c.args.other.below) c.if-other-eq0.false
