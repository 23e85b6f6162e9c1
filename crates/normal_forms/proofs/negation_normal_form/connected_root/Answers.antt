use Rattle.std.proofs.Common.{sym, ◌∙◌}
use Rattle.term_table.specs.Formulas.{tree, trees_at}
use Rattle.normal_forms.specs.Nnf.{positive}
use Rattle.normal_forms.specs.Shape.{kind_seen}
use Rattle.normal_forms.proofs.Taken.{nnf-kind}
use Rattle.normal_forms.proofs.negation_normal_form.connected_root.Goals as goal

pub returns-clause-term : goal.returns-clause-term
returns-clause-term c =
    let t = c.args.table.now in
    let u = tree t c.args.id in
    let k = kind_seen c.args.connective in
    let found = c.in_ok-positives.ensures in
    c.in_ok-positive.ensures.term
    ∙ (λ i. positive k u (trees_at t (c.deref.ensures i)) (trees_at t (c.deref-2.ensures i)))
    ∙ (λ i. positive k u (found.yes i) (found.no i))
    ∙ sym (nnf-kind u k c.requires.shape)
