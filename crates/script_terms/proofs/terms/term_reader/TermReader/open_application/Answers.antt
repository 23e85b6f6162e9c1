use Rattle.std.proofs.Common.{◌≡◌, length, vec_len, rules, ap, sym, ◌∙◌}
use Rattle.std.proofs.lemmas.Result.{err_from_is_err_and}
use Rattle.script_terms.specs.declared.causes.Cause.TheVariants.{BadForm}
use Rattle.script_terms.specs.Places.{forms_from}
use Rattle.script_terms.proofs.Stepped.{fault_is}
use Rattle.script_terms.proofs.StepsOfCalls.{lacks_operand, head_refused, operand_begins}
use Rattle.script_terms.proofs.terms.term_reader.TermReader.open_application.Goals as goal

pub returns-then-not-begins-clause-steps : goal.returns-then-not-begins-clause-steps
returns-then-not-begins-clause-steps c r going =
    lacks_operand c.args.forest.now.tokens c.args.table.now c.args.sofar.now c.args.self.now c.args.list r going c.args.first c.requires.opens
    c.bad_form.result (fault_is c.bad_form.result BadForm _ c.bad_form.ensures.cause c.bad_form.ensures.start)
    (ap (forms_from c.args.forest.now.tokens) (sym c.after-operand.ensures.behind) ∙ c.begins.ensures.no c.if-not-begins.true)

pub returns-in_err-callee-clause-steps : goal.returns-in_err-callee-clause-steps
returns-in_err-callee-clause-steps c r going =
    let p = err_from_is_err_and c.from_residual.result c.from_residual.ensures.1 in
    rw (p.1, p.2)
    (head_refused c.args.forest.now.tokens c.args.table.now c.args.sofar.now c.args.self.now c.args.list r going c.args.first c.requires.opens
    c.after-operand.result (c.begins.ensures.yes c.if-not-begins.false) c.after-operand.ensures.behind
    c.read_callee.new.table _ (c.in_err-callee.ensures.callee c.args.sofar.now.fresh going.live going.context.locals going.known going.stands.shown))

pub returns-clause-steps : goal.returns-clause-steps
returns-clause-steps c r going =
    let held : vec_len c.args.self.now.operands ≡ length c.args.self.now.operands.items = search rules in
    operand_begins c.args.forest.now.tokens c.args.table.now c.args.sofar.now c.args.self.now c.args.list r going c.args.first c.requires.opens
    c.after-operand.result (c.begins.ensures.yes c.if-not-begins.false) c.after-operand.ensures.behind
    c.read_callee.new.table c.in_ok-callee.ensures.grows c.in_ok-callee.callee (c.in_ok-callee.ensures.callee c.args.sofar.now.fresh going.live going.context.locals going.known going.stands.shown)
    c.push.new.self c.in_ok-push.ensures.items c.len.result (c.len.ensures ∙ held) c.push-2.new.self c.in_ok-push-2.ensures.items
