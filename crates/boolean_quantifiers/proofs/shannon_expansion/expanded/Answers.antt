use Rattle.std.proofs.Common.{false, sym, ◌∙◌}
use Rattle.smt_terms.specs.Connectives.{both, either}
use Rattle.term_table.specs.Formulas.{tree, variable_of}
use Rattle.normal_forms.specs.Quantifiers.{at_truth, expanded}
use Rattle.normal_forms.specs.Shape.{quantifier_seen}
use Rattle.quantifier_forms.proofs.Sweeps.{tree-stays}
use Rattle.boolean_quantifiers.proofs.Cases.{work-stays}
use Rattle.boolean_quantifiers.proofs.shannon_expansion.expanded.Goals as goal

pub returns-then-universal-clause-work : goal.returns-then-universal-clause-work
returns-then-universal-clause-work c = work-stays c.at_truth-2.new.table c.both.new.table c.at_truth-2.new.work c.in_ok-form.ensures.grows c.in_ok-no.ensures.work

pub returns-clause-work : goal.returns-clause-work
returns-clause-work c = work-stays c.at_truth-2.new.table c.either.new.table c.at_truth-2.new.work c.in_ok-form-2.ensures.grows c.in_ok-no.ensures.work

pub returns-then-universal-clause-term : goal.returns-then-universal-clause-term
returns-then-universal-clause-term c =
    let t = c.args.table.now in
    let u = c.at_truth.new.table in
    let x = variable_of (tree t c.args.variable) in
    let first = tree-stays u c.at_truth-2.new.table c.in_ok-yes.yes c.in_ok-no.ensures.grows c.in_ok-yes.ensures.formula.node ∙ c.in_ok-yes.ensures.term in
    let variable_same = tree-stays t u c.args.variable c.in_ok-yes.ensures.grows c.requires.variable.node in
    let body_same = tree-stays t u c.args.body c.in_ok-yes.ensures.grows c.requires.body.node in
    c.in_ok-form.ensures.term
    ∙ (λ i. both (first i) ((c.in_ok-no.ensures.term ∙ (λ j. at_truth false (variable_of (variable_same j)) (body_same j))) i))
    ∙ (λ i. expanded (quantifier_seen (sym c.if-universal.true i)) x (tree t c.args.body))

pub returns-clause-term : goal.returns-clause-term
returns-clause-term c =
    let t = c.args.table.now in
    let u = c.at_truth.new.table in
    let x = variable_of (tree t c.args.variable) in
    let first = tree-stays u c.at_truth-2.new.table c.in_ok-yes.yes c.in_ok-no.ensures.grows c.in_ok-yes.ensures.formula.node ∙ c.in_ok-yes.ensures.term in
    let variable_same = tree-stays t u c.args.variable c.in_ok-yes.ensures.grows c.requires.variable.node in
    let body_same = tree-stays t u c.args.body c.in_ok-yes.ensures.grows c.requires.body.node in
    c.in_ok-form-2.ensures.term
    ∙ (λ i. either (first i) ((c.in_ok-no.ensures.term ∙ (λ j. at_truth false (variable_of (variable_same j)) (body_same j))) i))
    ∙ (λ i. expanded (quantifier_seen (sym c.if-universal.false i)) x (tree t c.args.body))
