use Rattle.std.proofs.Common.{◌≡◌, Bool, List, ◌&&◌, codes, refl, sym, ap, subst, ◌∙◌}
use Rattle.smt_terms.specs.Sorts.{Sort, array}
use Rattle.smt_values.specs.SortIds.{sort_at}
use Rattle.script_terms.specs.Places.{form_from}
use Rattle.model_texts.specs.Named.{is_token}
use Rattle.model_texts.specs.ValueForms.{is_sort_form}
use Rattle.model_texts.proofs.SortTokens.{array_form, all_pass, one_fails, joined_true, joined_false}
use Rattle.model_texts.proofs.sorts.+is_sort_at.Goals as goal
use Rattle.model_texts.proofs.sorts.+is_sort_at.Goals.{then-is_token, else-is_token}

pub returns-then-is_sort_at : goal.returns-then-is_sort_at
returns-then-is_sort_at t c =
    let ts = c.args.forest.now.tokens in
    let ss = c.args.table.now.sorts in
    let i = sort_at ss c.in-Some.index in
    let e = sort_at ss c.in-Some.element in
    let f = form_from ts c.args.at in
    let is : sort_at ss c.args.sort ≡ array i e = subst (λ (ts : List Sort). sort_at ts c.args.sort ≡ array (sort_at ts c.in-Some.index) (sort_at ts c.in-Some.element)) c.sorts-sorts.ensures c.in-Some.ensures.parts in
    c.is_sort_at-then-is_sort_at.ensures
    ∙ all_pass (is_token (codes "Array") (form_from ts c.in-Some-three_inside.head)) (is_sort_form i (form_from ts c.in-Some-three_inside.first)) (is_sort_form e (form_from ts c.in-Some-three_inside.second)) c.if-is_token.value
    (elim c.if-is_token.branch [
      | then-is_token w ↦ joined_true _ _ _ (sym c.is_token.ensures ∙ w.if-is_token.true) (w.value-is ∙ w.is_sort_at.ensures)
      | else-is_token w ↦ joined_false _ _ _ (sym c.is_token.ensures ∙ w.if-is_token.false) (w.value-is ∙ w.if-is_token.false)
    ])
    c.if-is_sort_at.true
    ∙ sym (ap (λ s. is_sort_form s f) is ∙ array_form i e f ∙ c.in-Some-three_inside.ensures.passes (is_token (codes "Array")) (is_sort_form i) (is_sort_form e))

pub returns-else-is_sort_at : goal.returns-else-is_sort_at
returns-else-is_sort_at t c =
    let ts = c.args.forest.now.tokens in
    let ss = c.args.table.now.sorts in
    let i = sort_at ss c.in-Some.index in
    let e = sort_at ss c.in-Some.element in
    let f = form_from ts c.args.at in
    let is : sort_at ss c.args.sort ≡ array i e = subst (λ (ts : List Sort). sort_at ts c.args.sort ≡ array (sort_at ts c.in-Some.index) (sort_at ts c.in-Some.element)) c.sorts-sorts.ensures c.in-Some.ensures.parts in
    one_fails (is_token (codes "Array") (form_from ts c.in-Some-three_inside.head)) (is_sort_form i (form_from ts c.in-Some-three_inside.first)) (is_sort_form e (form_from ts c.in-Some-three_inside.second)) c.if-is_token.value
    (elim c.if-is_token.branch [
      | then-is_token w ↦ joined_true _ _ _ (sym c.is_token.ensures ∙ w.if-is_token.true) (w.value-is ∙ w.is_sort_at.ensures)
      | else-is_token w ↦ joined_false _ _ _ (sym c.is_token.ensures ∙ w.if-is_token.false) (w.value-is ∙ w.if-is_token.false)
    ])
    c.if-is_sort_at.false
    ∙ sym (ap (λ s. is_sort_form s f) is ∙ array_form i e f ∙ c.in-Some-three_inside.ensures.passes (is_token (codes "Array")) (is_sort_form i) (is_sort_form e))

pub returns-in-None : goal.returns-in-None
returns-in-None t c =
    let ss = c.args.table.now.sorts in
    let i = sort_at ss c.in-Some.index in
    let e = sort_at ss c.in-Some.element in
    let f = form_from c.args.forest.now.tokens c.args.at in
    let is : sort_at ss c.args.sort ≡ array i e = subst (λ (ts : List Sort). sort_at ts c.args.sort ≡ array (sort_at ts c.in-Some.index) (sort_at ts c.in-Some.element)) c.sorts-sorts.ensures c.in-Some.ensures.parts in
    sym (ap (λ s. is_sort_form s f) is ∙ array_form i e f ∙ c.in-None.ensures.passes (is_token (codes "Array")) (is_sort_form i) (is_sort_form e))
