use Rattle.std.proofs.Common.{◌≡◌, Bool, ◌&&◌, codes, refl, sym, ap, ◌∙◌, arith}
use Rattle.smt_terms.specs.Numeral.{numeral}
use Rattle.smt_terms.proofs.DecimalTexts.{decimal-numeral}
use Rattle.script_terms.specs.Places.{form_from}
use Rattle.model_texts.specs.Named.{is_token}
use Rattle.model_texts.proofs.SortTokens.{vector_form, all_pass, one_fails, joined_true, joined_false}
use Rattle.model_texts.proofs.sorts.is_vector_sort.Goals as goal
use Rattle.model_texts.proofs.sorts.is_vector_sort.Goals.{then-is_token, else-is_token}

pub returns-in_default : goal.returns-in_default
returns-in_default c =
    sym (vector_form c.args.width (form_from c.args.forest.now.tokens c.args.at) ∙ c.in_default.ensures.passes (is_token (codes "_")) (is_token (codes "BitVec")) (is_token (numeral c.args.width)))

pub returns-then-is_token-2 : goal.returns-then-is_token-2
returns-then-is_token-2 c =
    let ts = c.args.forest.now.tokens in
    let index : c.is_token-then-is_token-2.result ≡ is_token (numeral c.args.width) (form_from ts c.in-Some.index) =
    c.is_token-then-is_token-2.ensures ∙ ap (λ n. is_token n (form_from ts c.in-Some.index)) (c.as_bytes.ensures.value ∙ c.format.ensures.text ∙ decimal-numeral c.args.width (omega (arith, c.ranges.width.fits))) in
    index
    ∙ all_pass (is_token (codes "_") (form_from ts c.in-Some.head)) (is_token (codes "BitVec") (form_from ts c.in-Some.name)) (is_token (numeral c.args.width) (form_from ts c.in-Some.index)) c.if-is_token.value
    (elim c.if-is_token.branch [
      | then-is_token w ↦ joined_true _ _ _ (sym c.is_token.ensures ∙ w.if-is_token.true) (w.value-is ∙ w.is_token-then-is_token.ensures)
      | else-is_token w ↦ joined_false _ _ _ (sym c.is_token.ensures ∙ w.if-is_token.false) (w.value-is ∙ w.if-is_token.false)
    ])
    c.if-is_token-2.true
    ∙ sym (vector_form c.args.width (form_from ts c.args.at) ∙ c.in-Some.ensures.passes (is_token (codes "_")) (is_token (codes "BitVec")) (is_token (numeral c.args.width)))

pub returns-else-is_token-2 : goal.returns-else-is_token-2
returns-else-is_token-2 c =
    let ts = c.args.forest.now.tokens in
    one_fails (is_token (codes "_") (form_from ts c.in-Some.head)) (is_token (codes "BitVec") (form_from ts c.in-Some.name)) (is_token (numeral c.args.width) (form_from ts c.in-Some.index)) c.if-is_token.value
    (elim c.if-is_token.branch [
      | then-is_token w ↦ joined_true _ _ _ (sym c.is_token.ensures ∙ w.if-is_token.true) (w.value-is ∙ w.is_token-then-is_token.ensures)
      | else-is_token w ↦ joined_false _ _ _ (sym c.is_token.ensures ∙ w.if-is_token.false) (w.value-is ∙ w.if-is_token.false)
    ])
    c.if-is_token-2.false
    ∙ sym (vector_form c.args.width (form_from ts c.args.at) ∙ c.in-Some.ensures.passes (is_token (codes "_")) (is_token (codes "BitVec")) (is_token (numeral c.args.width)))
