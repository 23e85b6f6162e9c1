use Rattle.std.proofs.Common.{◌∙◌}
use Rattle.term_table.specs.Formulas.{tree, trees_at}
use Rattle.normal_forms.specs.Nnf.{positive, negative}
use Rattle.normal_forms.specs.Shape.{kind_seen}
use Rattle.normal_forms.proofs.Taken.{connected-forms}
use Rattle.normal_forms.proofs.negation_normal_form.connected_forms.Goals as goal

pub returns-clause-forms : goal.returns-clause-forms
returns-clause-forms c =
    let t0 = c.args.table.now in
    let t1 = c.connected_positive.new.table in
    let u = tree t0 c.args.id in
    let k = kind_seen c.args.connective in
    let found = c.in_ok-positives.ensures in
    connected-forms t0 t1 c.negative_form.new.table u k c.in_ok-positives.positives.items c.in_ok-positives.negatives.items c.in_ok-positive.positive c.in_ok-negative.negative c.in_ok-forms.forms
    c.in_ok-forms.ensures.positive c.in_ok-forms.ensures.negative
    c.requires.shape found.positives found.negatives found.yes found.no c.connected_positive.ensures.grows c.negative_form.ensures.grows
    c.in_ok-positive.ensures.formula
    (c.in_ok-positive.ensures.term ∙ (λ i. positive k u (trees_at t0 (c.deref.ensures i)) (trees_at t0 (c.deref-2.ensures i))))
    c.in_ok-negative.ensures.formula
    (c.in_ok-negative.ensures.term u ∙ (λ i. negative k u (trees_at t1 (c.deref-3.ensures i)) (trees_at t1 (c.deref-4.ensures i))))
