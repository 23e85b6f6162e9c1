use Rattle.std.proofs.Common.{is_some, not, option_copied, ap, sym, ◌∙◌, subst}
use Rattle.smt_terms.specs.Term.{quantified}
use Rattle.term_table.specs.Formulas.{tree}
use Rattle.term_walk.specs.Places.{result_at}
use Rattle.normal_forms.specs.FormNodes.{negative_of}
use Rattle.normal_forms.specs.Nodes.{IsFormula, formula_stays}
use Rattle.normal_forms.specs.Shape.{quantifier_seen, variables_of}
use Rattle.normal_forms.proofs.Taken.{copied-some, body-forms, bound-forms}
use Rattle.normal_forms.proofs.negation_normal_form.quantified_forms.Goals as goal

pub unwrap-forms-requires : goal.unwrap-forms-requires
unwrap-forms-requires c =
    copied-some c.get.result (ap is_some c.get.ensures ∙ c.body_of.ensures.operand (λ k. is_some (result_at c.args.kept.now k.0)) c.requires.kids)

pub bind-requires-clause-body : goal.bind-requires-clause-body
bind-requires-clause-body c =
    let found = sym c.get.ensures ∙ ap option_copied c.unwrap-forms.ensures in
    let body = body-forms c.args.table.now c.args.kept.now c.args.id c.body_of.result c.unwrap-forms.result.now c.requires.formula c.requires.quantified c.requires.related c.body_of.ensures.term found in
    subst (IsFormula c.args.table.now) (sym c.positive.ensures) body.positive

pub bind-requires-2-clause-body : goal.bind-requires-2-clause-body
bind-requires-2-clause-body c =
    let found = sym c.get.ensures ∙ ap option_copied c.unwrap-forms.ensures in
    let body = body-forms c.args.table.now c.args.kept.now c.args.id c.body_of.result c.unwrap-forms.result.now c.requires.formula c.requires.quantified c.requires.related c.body_of.ensures.term found in
    subst (IsFormula c.bind.new.table) (sym c.negative.ensures) (formula_stays c.args.table.now c.bind.new.table (negative_of c.unwrap-forms.result.now) c.bind.ensures.grows body.negative)

pub returns-clause-forms : goal.returns-clause-forms
returns-clause-forms c =
    let t0 = c.args.table.now in
    let t1 = c.bind.new.table in
    let b = c.is_universal-universal.result in
    let found = sym c.get.ensures ∙ ap option_copied c.unwrap-forms.ensures in
    let body = body-forms t0 c.args.kept.now c.args.id c.body_of.result c.unwrap-forms.result.now c.requires.formula c.requires.quantified c.requires.related c.body_of.ensures.term found in
    bound-forms t0 t1 c.bind-2.new.table c.args.id c.unwrap-forms.result.now c.in_ok-bound.bound c.in_ok-positive.positive c.in_ok-negative.negative b
    c.in_ok-bound.ensures.positive c.in_ok-bound.ensures.negative
    c.requires.formula c.requires.quantified c.is_universal-universal.ensures body
    c.bind.ensures.grows c.bind-2.ensures.grows
    c.in_ok-positive.ensures.formula
    (c.in_ok-positive.ensures.term ∙ ap (λ k. quantified (quantifier_seen b) (variables_of (tree t0 c.args.id)) (tree t0 k)) c.positive.ensures)
    c.in_ok-negative.ensures.formula
    (c.in_ok-negative.ensures.term ∙ ap (λ k. quantified (quantifier_seen (not b)) (variables_of (tree t1 c.args.id)) (tree t1 k)) c.negative.ensures)
