use Rattle.std.proofs.Common.{◌≡◌, false, ◌++◌, ap, sym, ◌∙◌}
use Rattle.term_table.specs.Formulas.{tree}
use Rattle.smt_print.specs.DagSteps.{visits}
use Rattle.smt_print.specs.Defined.{has_node, number_of}
use Rattle.smt_print.proofs.TreeTexts.{some-below, kids-nodes}
use Rattle.smt_print.proofs.DagTurns.{visit-defined, has-number, no-number, nearer-application, enter-leads, enter-scopes, application-leads}
use Rattle.smt_print.proofs.dag.visit.Goals as goal

pub returns-then-is_some-clause-leads : goal.returns-then-is_some-clause-leads
returns-then-is_some-clause-leads c root done whole =
    visit-defined c.args.table.now root c.args.scopes.now c.args.id c.args.steps.now (done ++ c.args.text.now) whole c.kids-kids.ensures.table c.requires.node c.requires.scopes
    (has-number c.number.result (has_node c.args.scopes.now.current c.args.id) (λ n. n ≡ number_of c.args.scopes.now.current c.args.id) c.number.ensures (sym c.is_some.ensures ∙ c.if-is_some.true))

pub returns-in_ok-enter-in-Some-clause-leads : goal.returns-in_ok-enter-in-Some-clause-leads
returns-in_ok-enter-in-Some-clause-leads c root done whole leads =
    let fresh : has_node c.args.scopes.now.current c.args.id ≡ false =
    no-number c.number.result (has_node c.args.scopes.now.current c.args.id) (λ n. n ≡ number_of c.args.scopes.now.current c.args.id) c.number.ensures (sym c.is_some.ensures ∙ c.if-is_some.false)
    in
    enter-leads c.args.table.now root c.args.scopes.now c.enter.new.scopes c.args.id c.in-Some.body c.in-Some.field-0-0.now c.args.steps.now c.enter.new.steps c.args.text.now c.enter.new.text done whole
    c.in-Some.ensures.some c.kids-kids.ensures.table c.requires.node c.requires.scopes fresh
    c.in_ok-enter-in-Some.ensures.current c.in_ok-enter-in-Some.ensures.outer c.in_ok-enter-in-Some.ensures.steps c.in_ok-enter-in-Some.ensures.text leads

pub returns-in_ok-enter-in-Some-clause-scopes : goal.returns-in_ok-enter-in-Some-clause-scopes
returns-in_ok-enter-in-Some-clause-scopes c =
    enter-scopes c.args.table.now c.args.scopes.now c.enter.new.scopes c.requires.scopes c.in_ok-enter-in-Some.ensures.current c.in_ok-enter-in-Some.ensures.outer

pub returns-in_ok-push_visits-in-None-clause-leads : goal.returns-in_ok-push_visits-in-None-clause-leads
returns-in_ok-push_visits-in-None-clause-leads c root done whole leads =
    let fresh : has_node c.args.scopes.now.current c.args.id ≡ false =
    no-number c.number.result (has_node c.args.scopes.now.current c.args.id) (λ n. n ≡ number_of c.args.scopes.now.current c.args.id) c.number.ensures (sym c.is_some.ensures ∙ c.if-is_some.false)
    in
    application-leads c.args.table.now root c.args.scopes.now c.args.id c.kids-kids.result.now c.args.steps.now c.push_visits.new.steps (done ++ c.args.text.now) whole
    c.kids-kids.ensures.table c.requires.node c.requires.scopes fresh c.in-None.ensures.none
    (some-below c.args.table.now (tree c.args.table.now c.args.id) c.kids-kids.result.now c.is_empty.result c.is_empty.ensures c.if-is_empty.false c.kids-kids.ensures.terms)
    c.kids-kids.ensures.terms (kids-nodes c.args.table.now c.args.id c.kids-kids.result.now c.requires.node c.kids-kids.ensures.below)
    (c.in_ok-push_visits-in-None.ensures ∙ ap (λ ss. visits c.kids-kids.result.now ++ ss) c.in_ok-push-in-None.ensures.ok) leads

pub returns-in_ok-push_visits-in-None-clause-nearer : goal.returns-in_ok-push_visits-in-None-clause-nearer
returns-in_ok-push_visits-in-None-clause-nearer c =
    nearer-application c.args.table.now c.args.id c.kids-kids.result.now c.args.steps.now c.push_visits.new.steps c.in-None.ensures.none c.kids-kids.ensures.terms
    (c.in_ok-push_visits-in-None.ensures ∙ ap (λ ss. visits c.kids-kids.result.now ++ ss) c.in_ok-push-in-None.ensures.ok)
