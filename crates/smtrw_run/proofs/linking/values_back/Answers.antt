use Rattle.smtrw_answers.specs.Outputs.{commands, names_left}
use Rattle.smtrw_run.proofs.LinkedModels.{flags_there, values_failed, values_over, values_wanting, values_written}
use Rattle.smtrw_run.proofs.linking.values_back.Goals as goal

pub answer_model-requires-clause-flags : goal.answer_model-requires-clause-flags
answer_model-requires-clause-flags c = flags_there c.requires.way.0 c.requires.way.1 c.args.check c.args.way.now c.args.constants.now c.requires.way.2 c.args.values.now c.requires.lengths

pub returns-in_err-model : goal.returns-in_err-model
returns-in_err-model c = λ b ps is. values_wanting b ps c.args.check c.args.values.now c.from_residual.result c.from_residual.ensures.1

pub returns-in_err-model-2 : goal.returns-in_err-model-2
returns-in_err-model-2 c = λ b ps is.
    values_failed b ps c.args.check c.args.way.now c.args.constants.now is c.args.values.now c.requires.lengths c.in_ok-model.model c.in_ok-model.ensures.model c.in_err-model-2.field-0.0 c.from_residual-in_err-model-2.result
    (c.in_err-model-2.ensures ps (commands b) (names_left b) is.way.leads.plan is.way.leads.ready is.way.leads.order) c.from_residual-in_err-model-2.ensures.1

pub printed-requires-clause-over : goal.printed-requires-clause-over
printed-requires-clause-over c =
    let b = c.requires.way.0 in
    let ps = c.requires.way.1 in
    let is = c.requires.way.2 in
    values_over b ps c.args.check c.args.way.now c.args.constants.now is c.args.values.now c.requires.lengths c.in_ok-model.model c.in_ok-model.ensures.model c.in_ok-model-2.model
    (c.in_ok-model-2.ensures ps (commands b) (names_left b) is.way.leads.plan is.way.leads.ready is.way.leads.order)

pub returns-in_err-text : goal.returns-in_err-text
returns-in_err-text c = λ b ps is. values_wanting b ps c.args.check c.args.values.now c.from_residual-in_err-text.result c.from_residual-in_err-text.ensures.1

pub returns : goal.returns
returns c = λ b ps is.
    values_written b ps c.args.check c.args.way.now c.args.constants.now is c.args.values.now c.requires.lengths c.in_ok-model.model c.in_ok-model.ensures.model c.in_ok-model-2.model
    (c.in_ok-model-2.ensures ps (commands b) (names_left b) is.way.leads.plan is.way.leads.ready is.way.leads.order) c.in_ok-text.text c.in_ok-text.ensures
