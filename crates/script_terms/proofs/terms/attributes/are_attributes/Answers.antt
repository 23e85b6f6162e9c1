use Rattle.std.proofs.Common.{◌≡◌, ◌⊎◌, inl, inr, Bool, true, false, refl, ap, sym, ◌∙◌, true≢false}
use Rattle.smt_lex.specs.Forms.{Form, Forms, none, ◌⨾◌}
use Rattle.script_terms.specs.Openings.{attributes_from}
use Rattle.script_terms.specs.Parts.{is_keyword}
use Rattle.script_terms.specs.Places.{form_from, forms_from}
use Rattle.script_terms.proofs.terms.attributes.are_attributes.Goals as goal

-- a form that may stand there
goes_on : (b k : Bool) (f : Form) (fs : Forms) → is_keyword f ≡ k → (k ≡ false × b ≡ true) ⊎ (k ≡ true) → attributes_from b (f ⨾ fs) ≡ attributes_from k fs
goes_on true true f fs is may = rw is refl
goes_on true false f fs is may = rw is refl
goes_on false true f fs is may = rw is refl
goes_on false false f fs is (inl may) = absurd (true≢false (sym may.1))
goes_on false false f fs is (inr may) = absurd (true≢false (sym may))

ends : (b : Bool) → attributes_from b none ≡ true
ends true = refl
ends false = refl

pub loop-keyword-preserved : goal.loop-keyword-preserved
loop-keyword-preserved c =
    let ts = c.args.forest.now.tokens in
    let b = c.loop-keyword.may_be_value in
    let f = form_from ts c.loop-keyword.i in
    let forms : forms_from ts c.loop-keyword.i ≡ f ⨾ forms_from ts c.after-i.result =
    (c.begins-in-loop-keyword.ensures.yes c.loop-keyword-test.true).forms ∙ ap (λ n. f ⨾ forms_from ts n) (sym c.after-i.ensures.behind) in
    record {
      place = c.after-i.ensures.within.1;
      rest = c.loop-keyword.invariant.rest ∙ ap (attributes_from b) forms
          ∙ goes_on b c.is_keyword-keyword.result f (forms_from ts c.after-i.result) (sym c.is_keyword-keyword.ensures) c.else-not-keyword.either;
    }

pub returns : goal.returns
returns c = sym (c.loop-keyword.invariant.rest ∙ ap (attributes_from c.loop-keyword.may_be_value) (c.begins-in-loop-keyword.ensures.no c.loop-keyword-test.false) ∙ ends c.loop-keyword.may_be_value)
