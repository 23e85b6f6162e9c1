use Rattle.std.proofs.Common.{true, ap, sym, ◌∙◌}
use Rattle.smt_lex.specs.Forest.{token_at}
use Rattle.smt_lex.specs.Forms.{node}
use Rattle.script_terms.specs.Places.{form_from, forms_from}
use Rattle.model_texts.specs.Tables.{truth_equation, parameter_in, equation}
use Rattle.model_texts.proofs.EquationsFound.{alike, no_equation_in}
use Rattle.model_texts.proofs.conditions.equation_of.Goals as goal

pub returns-in_default : goal.returns-in_default
returns-in_default c =
    let ts = c.args.forest.now.tokens in
    let is = c.in_default.ensures in
    alike ts c.args.sorts.now c.args.parameters.now c.requires.count _ (λ ys. equation ys (form_from ts c.args.at)) c.truth_equation.result
    (λ ys. ap (equation ys) is ∙ ap (λ g. truth_equation true (parameter_in ys g)) (sym is)) c.truth_equation.ensures

pub returns-in-Two : goal.returns-in-Two
returns-in-Two c =
    let ts = c.args.forest.now.tokens in
    alike ts c.args.sorts.now c.args.parameters.now c.requires.count _ (λ ys. equation ys (form_from ts c.args.at)) c.denial.result
    (λ ys. ap (equation ys) (c.in-Some.ensures.0 ∙ ap (node (token_at ts c.args.at).start) c.in-Two.ensures.forms)) c.denial.ensures

pub returns-in-Three : goal.returns-in-Three
returns-in-Three c =
    let ts = c.args.forest.now.tokens in
    alike ts c.args.sorts.now c.args.parameters.now c.requires.count _ (λ ys. equation ys (form_from ts c.args.at)) c.equality.result
    (λ ys. ap (equation ys) (c.in-Some.ensures.0 ∙ ap (node (token_at ts c.args.at).start) c.in-Three.ensures.forms)) c.equality.ensures

pub returns-in_default-few_from : goal.returns-in_default-few_from
returns-in_default-few_from c =
    let ts = c.args.forest.now.tokens in
    no_equation_in ts c.args.sorts.now c.args.parameters.now c.requires.count (form_from ts c.args.at) (token_at ts c.args.at).start (forms_from ts c.in-Some.first) c.few_from.result
    c.in-Some.ensures.0 c.few_from.ensures c.in_default-few_from.not-Two c.in_default-few_from.not-Three
