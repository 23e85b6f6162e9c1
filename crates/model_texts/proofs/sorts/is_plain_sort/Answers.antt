use Rattle.std.proofs.Common.{sym, ap, ◌∙◌}
use Rattle.script_terms.specs.Places.{form_from}
use Rattle.model_texts.specs.ValueForms.{is_sort_form}
use Rattle.model_texts.proofs.SortTokens.{free_form}
use Rattle.model_texts.proofs.sorts.is_plain_sort.Goals as goal

pub returns-in-Some : goal.returns-in-Some
returns-in-Some c =
    let f = form_from c.args.forest.now.tokens c.args.at in
    c.is_token.ensures ∙ sym (ap (λ s. is_sort_form s f) c.in-Some.ensures.name ∙ free_form c.in-Some.name.now f)
