use Rattle.std.proofs.Common.{None, codes, sym, ◌∙◌, arith}
use Rattle.script_terms.specs.Parts.{symbol_in, is_name}
use Rattle.script_terms.specs.Places.{form_from}
use Rattle.model_texts.proofs.EquationsFound.{taken, left_out, left_named, right_named, none_named}
use Rattle.model_texts.proofs.conditions.equality.Goals as goal

pub returns-then-not-is_named : goal.returns-then-not-is_named
returns-then-not-is_named c =
    let ts = c.args.forest.now.tokens in
    left_out ts c.args.sorts.now c.args.parameters.now c.requires.count (is_name (codes "=") (symbol_in (form_from ts c.args.word))) _ (sym c.is_named.ensures ∙ c.if-not-is_named.true)

pub returns-in-Some : goal.returns-in-Some
returns-in-Some c =
    let ts = c.args.forest.now.tokens in
    taken ts c.args.sorts.now c.args.parameters.now c.requires.count (is_name (codes "=") (symbol_in (form_from ts c.args.word))) _ _ (sym c.is_named.ensures ∙ c.if-not-is_named.false)
    (left_named ts c.args.sorts.now c.args.parameters.now c.requires.count c.args.left c.args.right c.in-Some.parameter c.in-Some.ensures.place (omega (arith, c.in-Some.ensures.within, c.requires.count)) c.requires.right)

pub returns-in_err-parameter_of : goal.returns-in_err-parameter_of
returns-in_err-parameter_of c =
    let ts = c.args.forest.now.tokens in
    rw c.from_residual.ensures
    (taken ts c.args.sorts.now c.args.parameters.now c.requires.count (is_name (codes "=") (symbol_in (form_from ts c.args.word))) _ None (sym c.is_named.ensures ∙ c.if-not-is_named.false)
    (none_named ts c.args.sorts.now c.args.parameters.now c.requires.count c.args.left c.args.right c.in_default.ensures.place c.in_err-parameter_of.ensures.place))

pub returns : goal.returns
returns c =
    let ts = c.args.forest.now.tokens in
    taken ts c.args.sorts.now c.args.parameters.now c.requires.count (is_name (codes "=") (symbol_in (form_from ts c.args.word))) _ _ (sym c.is_named.ensures ∙ c.if-not-is_named.false)
    (right_named ts c.args.sorts.now c.args.parameters.now c.requires.count c.args.left c.args.right c.in_ok-parameter_of.field-0 c.in_default.ensures.place c.in_ok-parameter_of.ensures.place (omega (arith, c.in_ok-parameter_of.ensures.within, c.requires.count)) c.requires.left)
