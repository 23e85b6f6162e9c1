use Rattle.std.proofs.Common.{rules, sym, ap, ◌∙◌, length}
use mir.Val.{SFits}
use Rattle.std.specs.Int.{w128}
use Rattle.smt_terms.specs.BitVectors as vectors
use Rattle.smt_terms.specs.BitVectors.{nat2bv, bv2int, int2bv}
use Rattle.smt_values.proofs.WordLaws.{at_width, not_zero_signed, result_word, zero_divisor, some_divisor}
use Rattle.smt_values.proofs.apply.word.Word.bvsmod.Goals as goal

pub returns-then-other-eq0-clause-vector : goal.returns-then-other-eq0-clause-vector
returns-then-other-eq0-clause-vector c =
    sym (zero_divisor c.args.self.width c.args.other.bits (nat2bv c.args.self.width c.args.self.bits) (int2bv (length (nat2bv c.args.self.width c.args.self.bits)) (vectors.floor_mod (bv2int (nat2bv c.args.self.width c.args.self.bits)) (bv2int (nat2bv c.args.self.width c.args.other.bits)))) (at_width c.args.other.width c.args.self.width c.args.other.bits c.requires c.args.other.below) c.if-other-eq0.true)

pub floor_mod-modulus-requires : goal.floor_mod-modulus-requires
floor_mod-modulus-requires c =
    let fits : SFits w128 c.signed-2.result = search rules in
    not_zero_signed c.args.self.width c.args.other.bits c.signed-2.result (at_width c.args.other.width c.args.self.width c.args.other.bits c.requires c.args.other.below) c.if-other-eq0.false fits (c.signed-2.ensures ∙ ap (λ k. bv2int (nat2bv k c.args.other.bits)) c.requires)

pub returns-clause-vector : goal.returns-clause-vector
returns-clause-vector c =
    let left : SFits w128 c.signed.result = search rules in
    let right : SFits w128 c.signed-2.result = search rules in
    let fits : SFits w128 c.floor_mod-modulus.result = search rules in
    result_word c.args.self.width vectors.floor_mod c.signed.result c.signed-2.result c.floor_mod-modulus.result c.cast_unsigned.result c.new.result.bits c.args.self.narrow left right fits c.floor_mod-modulus.ensures c.cast_unsigned.ensures c.new.ensures.vector
    ∙ (λ i. int2bv c.args.self.width (vectors.floor_mod (c.signed.ensures i) ((c.signed-2.ensures ∙ ap (λ k. bv2int (nat2bv k c.args.other.bits)) c.requires) i)))
    ∙ some_divisor c.args.self.width c.args.self.bits c.args.other.bits (nat2bv c.args.self.width c.args.self.bits) (vectors.floor_mod (bv2int (nat2bv c.args.self.width c.args.self.bits)) (bv2int (nat2bv c.args.self.width c.args.other.bits))) (at_width c.args.other.width c.args.self.width c.args.other.bits c.requires c.args.other.below) c.if-other-eq0.false
