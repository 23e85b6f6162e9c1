use Rattle.std.proofs.Common.{◌≡◌, List, length, refl, ap, arith}
use Rattle.smt_lex.specs.Lex.{Token}
use Rattle.smt_lex.specs.Forms.{Forms, forms_of, list}
use Rattle.script_terms.specs.Places.{forms_from}
use Rattle.script_read.proofs.counting.count_commands.Goals as goal

whole : (ts : List Token) → forms_from ts 0 ≡ forms_of ts
unfolding forms_from
whole ts = refl

pub returns : goal.returns
returns c =
    let counted = c.loop-at.invariant.counted in
    let left = ap (λ (fs : Forms). length (list fs)) (c.loop-at-test.ensures.no refl) in
    let all = ap (λ (fs : Forms). length (list fs)) (whole c.args.forest.now.tokens) in
    omega (arith, counted, left, all)
