use Rattle.std.proofs.Common.{Some, Err, ap, sym, ◌∙◌}
use Rattle.smt_lex.specs.Names.{is_among, is_reserved_for_declaring}
use Rattle.script_terms.specs.Bound.{name_at}
use Rattle.script_terms.specs.Parts.{place_of, symbol_in}
use Rattle.script_terms.specs.Places.{form_from}
use Rattle.script_terms.proofs.BinderReading.{variable-new, variable-again, among-same}
use Rattle.script_terms.proofs.NameFacts.{not_theory}
use Rattle.script_terms.proofs.binders.check_name.Goals as goal

pub returns-then-has-clause-new : goal.returns-then-has-clause-new
returns-then-has-clause-new c earlier same b live f =
    let ts = c.args.forest.now.tokens in
    let part = place_of (form_from ts c.args.part) in
    let place = place_of (form_from ts c.args.i) in
    variable-again b live earlier part place f (symbol_in (form_from ts c.args.i)) c.name-name.result.now
    (c.is_symbol.ensures.yes c.if-not-is_symbol.false ∙ sym (ap Some c.name-name.ensures))
    (sym c.is_reserved_for_declaring.ensures ∙ c.if-is_reserved_for_declaring.false)
    (among-same earlier c.args.names.now c.name-name.result.now same ∙ sym c.has.ensures ∙ c.if-has.true)
    ∙ sym (ap Err (λ i. record { cause = c.fault-then-has.ensures.cause i; place = c.fault-then-has.ensures.place i }))

pub returns-clause-new : goal.returns-clause-new
returns-clause-new c earlier same b live f =
    let ts = c.args.forest.now.tokens in
    let part = place_of (form_from ts c.args.part) in
    let place = place_of (form_from ts c.args.i) in
    let n = name_at ts c.args.i in
    variable-new b live earlier part place f (symbol_in (form_from ts c.args.i)) n
    (c.is_symbol.ensures.yes c.if-not-is_symbol.false)
    (ap is_reserved_for_declaring (sym c.name-name.ensures) ∙ sym c.is_reserved_for_declaring.ensures ∙ c.if-is_reserved_for_declaring.false)
    (ap (is_among earlier) (sym c.name-name.ensures) ∙ among-same earlier c.args.names.now c.name-name.result.now same ∙ sym c.has.ensures ∙ c.if-has.false)

pub returns-clause-own : goal.returns-clause-own
returns-clause-own c = not_theory _ (ap is_reserved_for_declaring (sym c.name-name.ensures) ∙ sym c.is_reserved_for_declaring.ensures ∙ c.if-is_reserved_for_declaring.false)
