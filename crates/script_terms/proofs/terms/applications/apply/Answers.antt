use Rattle.std.proofs.Common.{sym, subst}
use Rattle.smt_lex.specs.Forest.{token_at}
use Rattle.term_table.specs.Formulas.{trees_at}
use Rattle.script_terms.specs.ApplicationClauses.{ReadsWith}
use Rattle.script_terms.specs.Heads.{applied}
use Rattle.script_terms.specs.Waiting.{ShowsCallee, now_at}
use Rattle.script_terms.proofs.AppliedNodes.{definition_is, definition_meant, reads_term}
use Rattle.script_terms.proofs.Showing.{shows_stays}
use Rattle.script_terms.proofs.Stepped.{still_shows}
use Rattle.script_terms.proofs.terms.applications.apply.Goals as goal

pub apply_operator-requires-clause-apt : goal.apply_operator-requires-clause-apt
apply_operator-requires-clause-apt c =
    (subst (λ k. ShowsCallee c.args.forest.now.tokens (now_at c.args.table.now c.args.sofar.now) k c.requires.callee.0) c.in-Written.is c.requires.callee.1).1

pub apply_definition-requires-clause-definition : goal.apply_definition-requires-clause-definition
apply_definition-requires-clause-definition c =
    let ts = c.args.forest.now.tokens in
    let shown = subst (λ k. ShowsCallee ts (now_at c.args.table.now c.args.sofar.now) k c.requires.callee.0) c.in-Defined.is c.requires.callee.1 in
    definition_is ts c.args.table.now c.args.sofar.now c.in-Defined.number c.definition-definition.result.now c.definition-definition.ensures c.requires.known.0 c.requires.known.1 shown.1

pub returns-in-Written-clause-term : goal.returns-in-Written-clause-term
returns-in-Written-clause-term c o live callee shows =
    let ts = c.args.forest.now.tokens in
    let t = c.args.table.now in
    let u = c.apply_operator.new.table in
    let sofar = c.args.sofar.now in
    let place = (token_at ts c.args.list).start in
    let shown = subst (λ k. ShowsCallee ts (now_at t sofar) k o) c.in-Written.is callee in
    reads_term u sofar.scope sofar.fresh live (applied o place (trees_at t c.args.kids.now) (record { live = live; supply = sofar.fresh })) c.apply_operator.result
    (still_shows t u sofar live c.apply_operator.ensures.grows shows)
    (subst (λ x. ReadsWith u sofar.fresh live (applied x place (trees_at t c.args.kids.now) (record { live = live; supply = sofar.fresh })) c.apply_operator.result) (sym shown.0)
    (c.apply_operator.ensures.term sofar.fresh live c.requires.kids))

pub returns-in-ArrayOf-clause-term : goal.returns-in-ArrayOf-clause-term
returns-in-ArrayOf-clause-term c o live callee shows =
    let ts = c.args.forest.now.tokens in
    let t = c.args.table.now in
    let u = c.apply_array.new.table in
    let sofar = c.args.sofar.now in
    let place = (token_at ts c.args.list).start in
    let shown = subst (λ k. ShowsCallee ts (now_at t sofar) k o) c.in-ArrayOf.is callee in
    reads_term u sofar.scope sofar.fresh live (applied o place (trees_at t c.args.kids.now) (record { live = live; supply = sofar.fresh })) c.apply_array.result
    (still_shows t u sofar live c.apply_array.ensures.grows shows)
    (subst (λ x. ReadsWith u sofar.fresh live (applied x place (trees_at t c.args.kids.now) (record { live = live; supply = sofar.fresh })) c.apply_array.result) (sym shown.1)
    (c.apply_array.ensures.term sofar.fresh live c.requires.kids))

pub returns-in-Called-clause-term : goal.returns-in-Called-clause-term
returns-in-Called-clause-term c o live callee shows =
    let ts = c.args.forest.now.tokens in
    let t = c.args.table.now in
    let u = c.apply_symbol.new.table in
    let sofar = c.args.sofar.now in
    let place = (token_at ts c.args.list).start in
    let shown = subst (λ k. ShowsCallee ts (now_at t sofar) k o) c.in-Called.is callee in
    reads_term u sofar.scope sofar.fresh live (applied o place (trees_at t c.args.kids.now) (record { live = live; supply = sofar.fresh })) c.apply_symbol.result
    (still_shows t u sofar live c.apply_symbol.ensures.grows shows)
    (subst (λ x. ReadsWith u sofar.fresh live (applied x place (trees_at t c.args.kids.now) (record { live = live; supply = sofar.fresh })) c.apply_symbol.result) (sym shown.1)
    (c.apply_symbol.ensures.term sofar.fresh live shown.2 c.requires.kids))

pub returns-in-Defined-clause-term : goal.returns-in-Defined-clause-term
returns-in-Defined-clause-term c o live callee shows =
    let ts = c.args.forest.now.tokens in
    let t = c.args.table.now in
    let u = c.apply_definition.new.table in
    let left = c.apply_definition.new.fresh in
    let sofar = c.args.sofar.now in
    let place = (token_at ts c.args.list).start in
    let shown = subst (λ k. ShowsCallee ts (now_at t sofar) k o) c.in-Defined.is callee in
    let meant = definition_meant ts t sofar c.in-Defined.number c.definition-definition.result.now c.definition-definition.ensures o shown in
    reads_term u sofar.scope left live (applied o place (trees_at t c.args.kids.now) (record { live = live; supply = sofar.fresh })) c.apply_definition.result
    (shows_stays t u sofar.fresh left c.apply_definition.ensures.grows c.apply_definition.ensures.later sofar.scope live shows)
    (subst (λ x. ReadsWith u left live (applied x place (trees_at t c.args.kids.now) (record { live = live; supply = sofar.fresh })) c.apply_definition.result) (sym meant.2)
    (c.apply_definition.ensures.term meant.0 live meant.1))
