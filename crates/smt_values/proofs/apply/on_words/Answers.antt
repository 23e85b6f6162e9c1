use Rattle.std.proofs.Common.{◌∙◌, ap, map, subst, ◌≡◌}
use Rattle.std.proofs.Common.{◌+◌, ◌-◌}
use Rattle.smt_terms.specs.Operators.{op_value}
use Rattle.smt_terms.specs.Rank.{shape, extension, rotation}
use Rattle.smt_terms.specs.BitVectors.{concat, extract, bvnot, bvneg, zero_extend, sign_extend, rotate_left, rotate_right}
use Rattle.smt_values.specs.Meaning.{scalar_value, scalar_sort}
use Rattle.smt_values.specs.Applied.{TakesOperands}
use Rattle.smt_values.proofs.ApplyLaws.{takes_word, concat_second, concat_fits, extract_fits, extension_fits, rotation_fits, vector_value, both_value, pairs_left}
use Rattle.smt_values.proofs.apply.on_words.Goals as goal

pub word_at-word-requires-clause-word : goal.word_at-word-requires-clause-word
word_at-word-requires-clause-word c =
    takes_word c.args.op c.args.args.now c.requires.words c.requires.operands

pub word_at-requires-clause-word : goal.word_at-requires-clause-word
word_at-requires-clause-word c =
    concat_second c.args.args.now (subst (λ o. TakesOperands o c.args.args.now) c.in-Concat.is c.requires.operands)

pub concat-requires : goal.concat-requires
concat-requires c =
    concat_fits c.args.args.now c.word_at-word.result.width c.word_at-word.result.bits c.word_at.result.width c.word_at.result.bits (subst (λ o. TakesOperands o c.args.args.now) c.in-Concat.is c.requires.operands) c.word_at-word.ensures c.word_at.ensures

pub extract-requires-clause-order : goal.extract-requires-clause-order
extract-requires-clause-order c =
    (extract_fits c.in-Extract.high c.in-Extract.low c.args.args.now c.word_at-word.result.width c.word_at-word.result.bits (subst (λ o. TakesOperands o c.args.args.now) c.in-Extract.is c.requires.operands) c.word_at-word.ensures).0

pub extract-requires-clause-within : goal.extract-requires-clause-within
extract-requires-clause-within c =
    (extract_fits c.in-Extract.high c.in-Extract.low c.args.args.now c.word_at-word.result.width c.word_at-word.result.bits (subst (λ o. TakesOperands o c.args.args.now) c.in-Extract.is c.requires.operands) c.word_at-word.ensures).1

pub zero_extend-requires : goal.zero_extend-requires
unfolding shape
zero_extend-requires c =
    let told : shape c.args.op ≡ extension c.in-ZeroExt.more = ap shape c.in-ZeroExt.is in
    extension_fits c.args.op c.in-ZeroExt.more c.args.args.now c.word_at-word.result.width c.word_at-word.result.bits told c.requires.operands c.word_at-word.ensures

pub sign_extend-requires : goal.sign_extend-requires
unfolding shape
sign_extend-requires c =
    let told : shape c.args.op ≡ extension c.in-SignExt.more = ap shape c.in-SignExt.is in
    extension_fits c.args.op c.in-SignExt.more c.args.args.now c.word_at-word.result.width c.word_at-word.result.bits told c.requires.operands c.word_at-word.ensures

pub rotate_left-requires : goal.rotate_left-requires
unfolding shape
rotate_left-requires c =
    let told : shape c.args.op ≡ rotation c.in-RotL.places = ap shape c.in-RotL.is in
    rotation_fits c.args.op c.in-RotL.places c.args.args.now c.word_at-word.result.width c.word_at-word.result.bits told c.requires.operands c.word_at-word.ensures

pub rotate_right-requires : goal.rotate_right-requires
unfolding shape
rotate_right-requires c =
    let told : shape c.args.op ≡ rotation c.in-RotR.places = ap shape c.in-RotR.is in
    rotation_fits c.args.op c.in-RotR.places c.args.args.now c.word_at-word.result.width c.word_at-word.result.bits told c.requires.operands c.word_at-word.ensures

pub on_pairs-requires : goal.on_pairs-requires
on_pairs-requires c = record {
  pair = pairs_left c.args.op record {
    concat = c.in_default.not-Concat;
    extract = c.in_default.not-Extract;
    bvnot = c.in_default.not-BvNot;
    bvneg = c.in_default.not-BvNeg;
    zero_ext = c.in_default.not-ZeroExt;
    sign_ext = c.in_default.not-SignExt;
    rot_l = c.in_default.not-RotL;
    rot_r = c.in_default.not-RotR;
  } c.requires.words;
  scalars = c.requires.scalars;
  operands = c.requires.operands;
}

pub returns-in-Concat-clause-value : goal.returns-in-Concat-clause-value
unfolding op_value
returns-in-Concat-clause-value c b =
    ap (λ o. op_value b o (map scalar_sort c.args.args.now) (map scalar_value c.args.args.now)) c.in-Concat.is
    ∙ both_value concat c.args.args.now c.word_at-word.result.width c.word_at-word.result.bits c.word_at.result.width c.word_at.result.bits c.concat.result.width (c.word_at-word.result.width + c.word_at.result.width) c.concat.result.bits c.scalar.result c.word_at-word.ensures c.word_at.ensures c.scalar.ensures c.concat.ensures.width c.concat.ensures.vector

pub returns-in-Extract-clause-value : goal.returns-in-Extract-clause-value
unfolding op_value
returns-in-Extract-clause-value c b =
    ap (λ o. op_value b o (map scalar_sort c.args.args.now) (map scalar_value c.args.args.now)) c.in-Extract.is
    ∙ vector_value (extract c.in-Extract.high c.in-Extract.low) c.args.args.now c.word_at-word.result.width c.word_at-word.result.bits c.extract.result.width (c.in-Extract.high - c.in-Extract.low + 1) c.extract.result.bits c.scalar-in-Extract.result c.word_at-word.ensures c.scalar-in-Extract.ensures c.extract.ensures.width c.extract.ensures.vector

pub returns-in-BvNot-clause-value : goal.returns-in-BvNot-clause-value
unfolding op_value
returns-in-BvNot-clause-value c b =
    ap (λ o. op_value b o (map scalar_sort c.args.args.now) (map scalar_value c.args.args.now)) c.in-BvNot.is
    ∙ vector_value bvnot c.args.args.now c.word_at-word.result.width c.word_at-word.result.bits c.bvnot.result.width (c.word_at-word.result.width) c.bvnot.result.bits c.scalar-in-BvNot.result c.word_at-word.ensures c.scalar-in-BvNot.ensures c.bvnot.ensures.width c.bvnot.ensures.vector

pub returns-in-BvNeg-clause-value : goal.returns-in-BvNeg-clause-value
unfolding op_value
returns-in-BvNeg-clause-value c b =
    ap (λ o. op_value b o (map scalar_sort c.args.args.now) (map scalar_value c.args.args.now)) c.in-BvNeg.is
    ∙ vector_value bvneg c.args.args.now c.word_at-word.result.width c.word_at-word.result.bits c.bvneg.result.width (c.word_at-word.result.width) c.bvneg.result.bits c.scalar-in-BvNeg.result c.word_at-word.ensures c.scalar-in-BvNeg.ensures c.bvneg.ensures.width c.bvneg.ensures.vector

pub returns-in-ZeroExt-clause-value : goal.returns-in-ZeroExt-clause-value
unfolding op_value
returns-in-ZeroExt-clause-value c b =
    ap (λ o. op_value b o (map scalar_sort c.args.args.now) (map scalar_value c.args.args.now)) c.in-ZeroExt.is
    ∙ vector_value (zero_extend c.in-ZeroExt.more) c.args.args.now c.word_at-word.result.width c.word_at-word.result.bits c.zero_extend.result.width (c.word_at-word.result.width + c.in-ZeroExt.more) c.zero_extend.result.bits c.scalar-in-ZeroExt.result c.word_at-word.ensures c.scalar-in-ZeroExt.ensures c.zero_extend.ensures.width c.zero_extend.ensures.vector

pub returns-in-SignExt-clause-value : goal.returns-in-SignExt-clause-value
unfolding op_value
returns-in-SignExt-clause-value c b =
    ap (λ o. op_value b o (map scalar_sort c.args.args.now) (map scalar_value c.args.args.now)) c.in-SignExt.is
    ∙ vector_value (sign_extend c.in-SignExt.more) c.args.args.now c.word_at-word.result.width c.word_at-word.result.bits c.sign_extend.result.width (c.word_at-word.result.width + c.in-SignExt.more) c.sign_extend.result.bits c.scalar-in-SignExt.result c.word_at-word.ensures c.scalar-in-SignExt.ensures c.sign_extend.ensures.width c.sign_extend.ensures.vector

pub returns-in-RotL-clause-value : goal.returns-in-RotL-clause-value
unfolding op_value
returns-in-RotL-clause-value c b =
    ap (λ o. op_value b o (map scalar_sort c.args.args.now) (map scalar_value c.args.args.now)) c.in-RotL.is
    ∙ vector_value (rotate_left c.in-RotL.places) c.args.args.now c.word_at-word.result.width c.word_at-word.result.bits c.rotate_left.result.width (c.word_at-word.result.width) c.rotate_left.result.bits c.scalar-in-RotL.result c.word_at-word.ensures c.scalar-in-RotL.ensures c.rotate_left.ensures.width c.rotate_left.ensures.vector

pub returns-in-RotR-clause-value : goal.returns-in-RotR-clause-value
unfolding op_value
returns-in-RotR-clause-value c b =
    ap (λ o. op_value b o (map scalar_sort c.args.args.now) (map scalar_value c.args.args.now)) c.in-RotR.is
    ∙ vector_value (rotate_right c.in-RotR.places) c.args.args.now c.word_at-word.result.width c.word_at-word.result.bits c.rotate_right.result.width (c.word_at-word.result.width) c.rotate_right.result.bits c.scalar-in-RotR.result c.word_at-word.ensures c.scalar-in-RotR.ensures c.rotate_right.ensures.width c.rotate_right.ensures.vector
