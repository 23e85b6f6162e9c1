use Rattle.std.proofs.Common.{Err, ap, sym, ◌∙◌}
use Rattle.smt_lex.specs.Forest.{token_at}
use Rattle.script_terms.proofs.AppliedNodes.{arguments_fit, arguments_number, arguments_refused, definition_expanded}
use Rattle.script_terms.proofs.Stepped.{fault_is}
use Rattle.script_terms.proofs.terms.applications.apply_definition.Goals as goal

pub returns-in-Some-clause-term : goal.returns-in-Some-clause-term
returns-in-Some-clause-term c xs live sorts =
    let place = (token_at c.args.forest.now.tokens c.args.list).start in
    arguments_refused c.args.table.now c.requires.table c.args.fresh.now c.args.definition.now c.requires.definition c.args.kids.now c.requires.kids xs sorts place live c.in-Some.cause c.in-Some.ensures
    ∙ ap Err (sym (fault_is c.fault.result c.in-Some.cause place c.fault.ensures.cause c.fault.ensures.start))

pub expand-requires-clause-number : goal.expand-requires-clause-number
expand-requires-clause-number c = arguments_number c.args.table.now c.requires.table c.args.fresh.now c.args.definition.now c.requires.definition c.args.kids.now c.requires.kids c.in_default.ensures

pub expand-requires-clause-map : goal.expand-requires-clause-map
expand-requires-clause-map c = arguments_fit c.args.table.now c.requires.table c.args.fresh.now c.args.definition.now c.requires.definition c.args.kids.now c.requires.kids c.in_default.ensures

pub returns-clause-term : goal.returns-clause-term
returns-clause-term c xs live sorts =
    definition_expanded c.args.table.now c.requires.table c.args.fresh.now c.args.definition.now c.requires.definition c.args.kids.now c.requires.kids xs sorts
    (token_at c.args.forest.now.tokens c.args.list).start live c.expand.new.table c.expand.new.fresh c.in_ok-node.node c.in_default.ensures c.in_ok-node.ensures.node c.in_ok-node.ensures.term c.in_ok-node.ensures.left
