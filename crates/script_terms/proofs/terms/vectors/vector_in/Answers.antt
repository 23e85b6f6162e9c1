use Rattle.std.proofs.Common.{Some, sym, ap, ◌∙◌}
use Rattle.smt_lex.specs.Forest.{token_at}
use Rattle.script_terms.specs.Places.{form_from, forms_from}
use Rattle.script_terms.proofs.Refusing.{refused_at}
use Rattle.script_terms.proofs.TheoryConstants.{vector_is}
use Rattle.script_terms.proofs.terms.vectors.vector_in.Goals as goal

pub returns-in-Ok-clause-constant : goal.returns-in-Ok-clause-constant
returns-in-Ok-clause-constant c =
    let ts = c.args.forest.now.tokens in
    let place = (token_at ts c.args.list).start in
    vector_is place (forms_from ts c.args.name) (form_from ts c.in-Two.name) (form_from ts c.in-Two.width) c.name.result.now c.in-Some.digits.now c.in-Some-numeral_at.width c.in-Two.ensures.forms
    (c.is_symbol.ensures.yes c.if-not-is_symbol.false ∙ ap Some (sym c.name.ensures)) c.in-Some.ensures.0 c.in-Some.ensures.1 (sym c.in-Some-numeral_at.is ∙ c.numeral_at.ensures)
    ∙ c.in-Ok.ensures.constant place

pub returns-in-Err-clause-constant : goal.returns-in-Err-clause-constant
returns-in-Err-clause-constant c =
    let ts = c.args.forest.now.tokens in
    let place = (token_at ts c.args.list).start in
    vector_is place (forms_from ts c.args.name) (form_from ts c.in-Two.name) (form_from ts c.in-Two.width) c.name.result.now c.in-Some.digits.now c.in-Some-numeral_at.width c.in-Two.ensures.forms
    (c.is_symbol.ensures.yes c.if-not-is_symbol.false ∙ ap Some (sym c.name.ensures)) c.in-Some.ensures.0 c.in-Some.ensures.1 (sym c.in-Some-numeral_at.is ∙ c.numeral_at.ensures)
    ∙ c.in-Err.ensures.constant place
    ∙ refused_at c.fault.result c.in-Err.cause place c.fault.ensures.cause c.fault.ensures.start
