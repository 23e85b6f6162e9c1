use Rattle.std.proofs.Common.{◌≡◌, ◌+◌, take, true, ap, ◌∙◌, subst, Vec, Global, sym}
use Rattle.smt_terms.specs.declared.ids.NodeId.{NodeId}
use Rattle.normal_forms.specs.Quantifiers.{not_bool}
use Rattle.quantifier_forms.specs.Variables.{AreVariables}
use Rattle.quantifier_forms.proofs.Variables.{truth-skipped, other-kept}
use Rattle.quantifier_forms.proofs.quantifying.without_truths.Goals as goal
use Rattle.quantifier_forms.proofs.quantifying.without_truths.Goals.{then-not-is_formula+in_ok-push, else-not-is_formula}

pub loop-variable-preserved : goal.loop-variable-preserved
loop-variable-preserved c xs are = elim c.if-not-is_formula.branch [
  | then-not-is_formula+in_ok-push w ↦
      other-kept c.args.table.now c.args.variables.now c.loop-variable.left.items xs are c.loop-variable.variable-index c.loop-variable-test.true (c.loop-variable.invariant xs are) c.if-not-is_formula.left.items
      (ap (λ (v : Vec NodeId Global). v.items) w.left-is ∙ w.in_ok-push.ensures.items)
      (λ e. let yes : c.is_formula.result ≡ true = c.is_formula.ensures.1 e in let no = w.if-not-is_formula.true in absurd cc)
  | else-not-is_formula w ↦
      let yes : c.is_formula.result ≡ true = (let e = w.if-not-is_formula.false in cc) in
      let kept = truth-skipped c.args.table.now c.args.variables.now c.loop-variable.left.items xs are c.loop-variable.variable-index c.loop-variable-test.true (c.loop-variable.invariant xs are) (c.is_formula.ensures.0 yes) in
      subst (λ (v : Vec NodeId Global). AreVariables c.args.table.now v.items (not_bool (take (c.loop-variable.variable-index + 1) xs))) (sym w.left-is) kept
]
