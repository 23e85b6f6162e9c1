use Rattle.std.proofs.Common.{◌≡◌, sym, ap, subst, ◌∙◌, Err}
use Rattle.smt_terms.specs.Sorts.{array}
use Rattle.script_terms.specs.Places.{form_from}
use Rattle.model_texts.specs.Chains.{ReadsEverywhere}
use Rattle.model_texts.specs.Shapes.{shape_of}
use Rattle.model_texts.specs.ValueForms.{value_in, is_sort_form}
use Rattle.model_texts.proofs.ValueShapes.{filled_at, filled_reads, other_refused}
use Rattle.model_texts.proofs.values.filled_value.Goals as goal

pub returns-else-not-is_sort_at : goal.returns-else-not-is_sort_at
returns-else-not-is_sort_at c i e is =
    let ts = c.args.forest.now.tokens in
    let h = filled_at ts (shape_of (form_from ts c.args.at)) c.in-Filled.written c.in-Filled.value c.in-Filled.ensures in (
      h.2,
      λ es. filled_reads (form_from ts c.args.at) (form_from ts c.in-Filled.written) (form_from ts c.in-Filled.value) i e es h.0
          (ap (λ s. is_sort_form s (form_from ts c.in-Filled.written)) (sym is) ∙ sym c.is_sort_at.ensures ∙ c.if-not-is_sort_at.false),
    )

pub returns-in_default : goal.returns-in_default
returns-in_default c i e is =
    let ts = c.args.forest.now.tokens in
    let f = form_from ts c.args.at in
    subst (λ fault. ReadsEverywhere ts e (value_in f (array i e)) (Err fault)) (sym c.refused-in_default.ensures)
    (λ es. other_refused ts f c.shape_at.result c.shape_at.ensures c.requires.innermost c.in_default.not-Filled c.in_default.not-Other i e es)
