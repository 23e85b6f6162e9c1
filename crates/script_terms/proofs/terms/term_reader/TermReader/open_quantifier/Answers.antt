use Rattle.std.proofs.Common.{◌≡◌, length, map, refl, ap, subst, arith}
use Rattle.std.proofs.lemmas.Result.{err_from_is_err_and}
use Rattle.script_terms.proofs.StepsOfQuantifiers.{quantifier_refused, variables_refused, quantified_begins}
use Rattle.script_terms.proofs.BoundVariables.{drawn_count}
use Rattle.smt_terms.specs.Term.{constant_of}
use Rattle.script_terms.specs.Read.{constant_names, renamed}
use Rattle.script_terms.specs.Bound.{is_taken_in, variables_seen, symbols_seen, entered}
use Rattle.script_terms.proofs.terms.term_reader.TermReader.open_quantifier.Goals as goal

pub enter-requires-clause-count : goal.enter-requires-clause-count
enter-requires-clause-count c =
    let count = drawn_count c.read_variables.new.table c.draw_constants.new.table c.args.forest.now.tokens c.args.sofar.now.fresh (is_taken_in c.args.sofar.now.scope c.args.self.now.locals)
    c.deref.result.now c.in_ok-constants.constants.items c.in_ok-constants.ensures.symbols in
    omega (arith, count, ap length c.deref.ensures.value, ap length c.deref-2.ensures.value, ap length c.deref-3.ensures.value)

pub returns-in_err-part-clause-steps : goal.returns-in_err-part-clause-steps
returns-in_err-part-clause-steps c r going =
    let p = err_from_is_err_and c.from_residual.result c.from_residual.ensures.1 in
    rw (p.1, p.2)
    (quantifier_refused c.args.forest.now.tokens c.args.table.now c.args.sofar.now c.args.self.now c.args.list r going c.args.quantifier c.args.first c.requires.opens c.args.table.now c.args.self.now _ c.in_err-part.ensures)

pub returns-in_err-variables-clause-steps : goal.returns-in_err-variables-clause-steps
returns-in_err-variables-clause-steps c r going =
    let p = err_from_is_err_and c.from_residual-in_err-variables.result c.from_residual-in_err-variables.ensures.1 in
    rw (p.1, p.2)
    (variables_refused c.args.forest.now.tokens c.args.table.now c.args.sofar.now c.args.self.now c.args.list r going c.args.quantifier c.args.first c.requires.opens c.in_ok-part.part c.in_ok-part.body c.in_ok-part.ensures c.read_variables.new.table c.args.self.now _ c.in_err-variables.ensures.variables)

pub returns-clause-steps : goal.returns-clause-steps
returns-clause-steps c r going =
    let ts = c.args.forest.now.tokens in
    let t = c.read_variables.new.table in
    let u = c.draw_constants.new.table in
    let taken = is_taken_in c.args.sofar.now.scope c.args.self.now.locals in
    let vs = c.in_ok-variables.variables.items in
    let cs = c.in_ok-constants.constants.items in
    quantified_begins c.args.forest.now.tokens c.args.table.now c.args.sofar.now c.args.self.now c.args.list r going c.args.quantifier c.args.first c.requires.opens c.in_ok-part.part c.in_ok-part.body c.in_ok-part.ensures
    t u c.in_ok-variables.ensures.grows c.in_ok-constants.ensures.grows c.draw_constants.new.fresh c.in_ok-constants.ensures.later vs cs
    c.in_ok-variables.ensures.variables
    (subst (λ xs. c.draw_constants.new.fresh ≡ (constant_names taken (variables_seen t ts xs) c.args.sofar.now.fresh).1) c.deref.ensures.value c.in_ok-constants.ensures.names)
    (subst (λ xs. symbols_seen u cs ≡ map constant_of (renamed (variables_seen t ts xs) (constant_names taken (variables_seen t ts xs) c.args.sofar.now.fresh).0)) c.deref.ensures.value c.in_ok-constants.ensures.symbols)
    c.in_ok-constants.ensures.constants
    c.know_table.ensures.sorts c.requires.text c.in_ok-variables.ensures.within
    c.in_ok-constants.constants refl c.enter.new.locals
    (subst (λ xs. c.enter.new.locals ≡ entered ts xs cs c.args.self.now.locals) c.deref-2.ensures.value
    (subst (λ ds. c.enter.new.locals ≡ entered ts c.deref-2.result.now ds c.args.self.now.locals) c.deref-3.ensures.value c.in_ok-enter.ensures))
    c.push.new.self c.in_ok-push.ensures.items
