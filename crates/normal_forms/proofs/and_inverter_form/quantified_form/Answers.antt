use Rattle.std.proofs.Common.{◌≡◌, Some, is_some, option_copied, ap, sym, ◌∙◌}
use Rattle.smt_terms.specs.Rank.{sort_of}
use Rattle.smt_terms.specs.Term.{quantified}
use Rattle.term_table.specs.Formulas.{tree}
use Rattle.term_walk.specs.Places.{result_at}
use Rattle.normal_forms.specs.Aig.{aig}
use Rattle.normal_forms.specs.InvertedNodes.{IsInverted}
use Rattle.normal_forms.specs.Shape.{is_universally_quantified, quantifier_seen, variables_of}
use Rattle.normal_forms.proofs.Inverted.{aig-quantified}
use Rattle.normal_forms.proofs.Taken.{copied-some, body-bool}
use Rattle.normal_forms.proofs.and_inverter_form.quantified_form.Goals as goal

pub unwrap-body-requires : goal.unwrap-body-requires
unwrap-body-requires c =
    copied-some c.get.result (ap is_some c.get.ensures ∙ c.body_of.ensures.operand (λ k. is_some (result_at c.args.kept.now k.0)) c.requires.kids)

pub bind-requires-clause-body : goal.bind-requires-clause-body
bind-requires-clause-body c =
    let found : result_at c.args.kept.now c.body_of.result.0 ≡ Some c.unwrap-body.result.now = sym c.get.ensures ∙ ap option_copied c.unwrap-body.ensures in
    let sort = ap sort_of c.body_of.ensures.term ∙ body-bool (tree c.args.table.now c.args.id) c.requires.quantified c.requires.formula.sort in
    (c.requires.related.related c.body_of.result c.unwrap-body.result.now found sort).formula

pub returns-clause-form : goal.returns-clause-form
returns-clause-form c =
    let t = c.args.table.now in
    let u = tree t c.args.id in
    let found : result_at c.args.kept.now c.body_of.result.0 ≡ Some c.unwrap-body.result.now = sym c.get.ensures ∙ ap option_copied c.unwrap-body.ensures in
    let sort = ap sort_of c.body_of.ensures.term ∙ body-bool u c.requires.quantified c.requires.formula.sort in
    let body : IsInverted t (tree t c.body_of.result) c.unwrap-body.result.now = c.requires.related.related c.body_of.result c.unwrap-body.result.now found sort in
    record {
      formula = c.in_ok-form.ensures.formula;
      term =
          c.in_ok-form.ensures.term
          ∙ ap (λ b. quantified (quantifier_seen b) (variables_of u) (tree t c.unwrap-body.result.now)) c.is_universal-universal.ensures
          ∙ ap (quantified (quantifier_seen (is_universally_quantified u)) (variables_of u)) (body.term ∙ ap aig c.body_of.ensures.term)
          ∙ sym (aig-quantified u c.requires.quantified);
    }
