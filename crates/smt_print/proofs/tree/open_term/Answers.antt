use Rattle.std.proofs.Common.{◌++◌, ◌∷◌, [], ap, sym, ◌∙◌}
use Rattle.term_table.specs.Formulas.{tree}
use Rattle.smt_print.specs.TreeSteps.{operand_steps}
use Rattle.smt_print.proofs.TreeTexts.{leads-leaf, leads-opened, nearer-opened, kids-nodes, body-parts, body-node, parts-applied, none-below, some-below}
use Rattle.smt_print.proofs.tree.open_term.Goals as goal

pub returns-then-is_empty-clause-leads : goal.returns-then-is_empty-clause-leads
returns-then-is_empty-clause-leads c done whole leads =
    leads-leaf c.args.table.now (tree c.args.table.now c.args.id) c.args.steps.now c.args.text.now c.push_head.new.out done whole
    (none-below c.args.table.now (tree c.args.table.now c.args.id) c.kids-kids.result.now c.is_empty.result c.is_empty.ensures c.if-is_empty.true c.kids-kids.ensures.terms)
    c.in_ok-push_head.ensures leads

pub returns-in_ok-push_operands-in-Some-clause-leads : goal.returns-in_ok-push_operands-in-Some-clause-leads
returns-in_ok-push_operands-in-Some-clause-leads c done whole leads =
    let bound = c.in-Some.ensures.some in
    leads-opened c.args.table.now (tree c.args.table.now c.args.id) (c.in-Some.body ∷ []) c.args.steps.now c.push_operands.new.steps c.args.text.now c.push_binder.new.out done whole
    (some-below c.args.table.now (tree c.args.table.now c.args.id) c.kids-kids.result.now c.is_empty.result c.is_empty.ensures c.if-is_empty.false c.kids-kids.ensures.terms)
    c.in_ok-push_binder-in-Some.ensures (body-parts c.args.table.now (tree c.args.table.now c.args.id) c.in-Some.field-0-0.now c.in-Some.body bound)
    (body-node c.args.table.now (tree c.args.table.now c.args.id) c.in-Some.field-0-0.now c.in-Some.body bound)
    (c.in_ok-push_operands-in-Some.ensures ∙ ap (λ ss. operand_steps (c.in-Some.body ∷ []) ++ ss) c.in_ok-push-in-Some.ensures.ok) leads

pub returns-in_ok-push_operands-in-None-clause-leads : goal.returns-in_ok-push_operands-in-None-clause-leads
returns-in_ok-push_operands-in-None-clause-leads c done whole leads =
    leads-opened c.args.table.now (tree c.args.table.now c.args.id) c.kids-kids.result.now c.args.steps.now c.push_operands-in-None.new.steps c.args.text.now c.push_application.new.out done whole
    (some-below c.args.table.now (tree c.args.table.now c.args.id) c.kids-kids.result.now c.is_empty.result c.is_empty.ensures c.if-is_empty.false c.kids-kids.ensures.terms)
    c.in_ok-push_application-in-None.ensures (c.kids-kids.ensures.terms ∙ sym (parts-applied (tree c.args.table.now c.args.id) c.in-None.ensures.none))
    (kids-nodes c.args.table.now c.args.id c.kids-kids.result.now c.requires c.kids-kids.ensures.below)
    (c.in_ok-push_operands-in-None.ensures ∙ ap (λ ss. operand_steps c.kids-kids.result.now ++ ss) c.in_ok-push-in-None.ensures.ok) leads

pub returns-in_ok-push_operands-in-None-clause-nearer : goal.returns-in_ok-push_operands-in-None-clause-nearer
returns-in_ok-push_operands-in-None-clause-nearer c =
    nearer-opened c.args.table.now (tree c.args.table.now c.args.id) c.kids-kids.result.now c.args.steps.now c.push_operands-in-None.new.steps c.in-None.ensures.none c.kids-kids.ensures.terms
    (c.in_ok-push_operands-in-None.ensures ∙ ap (λ ss. operand_steps c.kids-kids.result.now ++ ss) c.in_ok-push-in-None.ensures.ok)
