use Rattle.std.proofs.Common.{ap, sym, ◌∙◌}
use Rattle.term_table.specs.Formulas.{tree, trees_at}
use Rattle.normal_forms.specs.Aig.{inverted}
use Rattle.normal_forms.specs.Shape.{kind_seen}
use Rattle.normal_forms.proofs.Inverted.{aig-kind}
use Rattle.normal_forms.proofs.and_inverter_form.connected_form.Goals as goal

pub returns-clause-form : goal.returns-clause-form
returns-clause-form c =
    let t = c.args.table.now in
    let u = tree t c.args.id in
    let k = kind_seen c.args.connective in
    record {
      formula = c.in_ok-form.ensures.formula;
      term =
          c.in_ok-form.ensures.term u
          ∙ (λ i. inverted k u (trees_at t (c.deref.ensures.value i)))
          ∙ ap (inverted k u) c.in_ok-operands.ensures.terms
          ∙ sym (aig-kind u k c.requires.shape);
    }
