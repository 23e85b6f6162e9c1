use Rattle.std.proofs.Common.{is_some, option_copied, ap, sym, ◌∙◌, subst}
use Rattle.term_walk.specs.Places.{result_at}
use Rattle.normal_forms.specs.Nodes.{IsFormula}
use Rattle.normal_forms.proofs.Taken.{copied-some, body-forms}
use Rattle.normal_forms.proofs.negation_normal_form.quantified_root.Goals as goal

pub unwrap-forms-requires : goal.unwrap-forms-requires
unwrap-forms-requires c =
    copied-some c.get.result (ap is_some c.get.ensures ∙ c.body_of.ensures.operand (λ k. is_some (result_at c.args.kept.now k.0)) c.requires.kids)

pub bind-requires-clause-body : goal.bind-requires-clause-body
bind-requires-clause-body c =
    let found = sym c.get.ensures ∙ ap option_copied c.unwrap-forms.ensures in
    let body = body-forms c.args.table.now c.args.kept.now c.args.id c.body_of.result c.unwrap-forms.result.now c.requires.formula c.requires.quantified c.requires.related c.body_of.ensures.term found in
    subst (IsFormula c.args.table.now) (sym c.positive.ensures) body.positive
