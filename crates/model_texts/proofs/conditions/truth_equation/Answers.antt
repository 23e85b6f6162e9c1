use Rattle.std.proofs.Common.{sym, ◌∙◌, arith}
use Rattle.script_terms.specs.Places.{form_from}
use Rattle.model_texts.proofs.EquationsFound.{unnamed, of_other_sort, of_truth}
use Rattle.model_texts.proofs.conditions.truth_equation.Goals as goal

pub returns-in_err-parameter : goal.returns-in_err-parameter
returns-in_err-parameter c =
    let ts = c.args.forest.now.tokens in
    rw c.from_residual.ensures (unnamed ts c.args.sorts.now c.args.parameters.now c.requires.count c.args.truth (form_from ts c.args.at) c.in_err-parameter.ensures.place)

pub returns-then-not-is_bool : goal.returns-then-not-is_bool
returns-then-not-is_bool c =
    let ts = c.args.forest.now.tokens in
    of_other_sort ts c.args.sorts.now c.args.parameters.now c.requires.count c.args.truth (form_from ts c.args.at) c.in_ok-parameter.parameter c.in_ok-parameter.ensures.place
    (omega (arith, c.in_ok-parameter.ensures.within, c.requires.count)) (sym c.is_bool.ensures ∙ c.if-not-is_bool.true)

pub returns : goal.returns
returns c =
    let ts = c.args.forest.now.tokens in
    of_truth ts c.args.sorts.now c.args.parameters.now c.requires.count c.args.truth (form_from ts c.args.at) c.in_ok-parameter.parameter c.in_ok-parameter.ensures.place
    (omega (arith, c.in_ok-parameter.ensures.within, c.requires.count)) (sym c.is_bool.ensures ∙ c.if-not-is_bool.false)
