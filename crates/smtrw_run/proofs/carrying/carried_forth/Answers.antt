use Rattle.smtrw_answers.specs.Asked.{numbered}
use Rattle.smtrw_answers.specs.Faults.{status_of_carrying}
use Rattle.smtrw_answers.specs.Outputs.{commands, names_left}
use Rattle.smtrw_answers.specs.declared.status.Status.TheVariants.{OutOfMemory}
use Rattle.smtrw_run.specs.Carrying.{extension}
use Rattle.smtrw_run.specs.Prepared.{EndsBefore, texts_beside}
use Rattle.smtrw_run.proofs.CarriedModels.{if_refused, numbers_proper, extending_carried, extending_read, extended_over, extended_prepared}
use Rattle.smtrw_run.proofs.ReadTexts.{memory_before}
use Rattle.smtrw_run.proofs.carrying.carried_forth.Goals as goal

pub model_in_file-requires-clause-signature : goal.model_in_file-requires-clause-signature
model_in_file-requires-clause-signature g c = c.requires.1.leads.before.live

pub model_in_file-requires-clause-proper : goal.model_in_file-requires-clause-proper
model_in_file-requires-clause-proper g c = numbers_proper _ _ _ c.requires.1.leads.before

pub forth-requires-clause-plan : goal.forth-requires-clause-plan
forth-requires-clause-plan g c = c.requires.1.leads.over

pub forth-requires-clause-numbers : goal.forth-requires-clause-numbers
forth-requires-clause-numbers g c = c.in_ok-model.ensures.model.numbers

pub forth-requires-clause-valid : goal.forth-requires-clause-valid
forth-requires-clause-valid g c = c.in_ok-model.ensures.model.over.valid

pub printed-requires-clause-signature : goal.printed-requires-clause-signature
printed-requires-clause-signature g c = c.requires.1.leads.behind.live

pub printed-requires-clause-over : goal.printed-requires-clause-over
printed-requires-clause-over g c =
    let asked = c.args.asked.now in
    let b = c.requires.0 in
    let ps = asked.passes in
    let is = c.requires.1 in
    let told = g.I.Inputs.text c.args.inputs.now asked.model.name.now in
    extended_over b ps asked.check c.args.way.now is told (numbered asked.script) (numbered asked.model) c.in_ok-model.model c.in_ok-model.ensures.model c.in_ok-model-2.model
    (c.in_ok-model-2.ensures ps (commands b) (names_left b) is.leads.plan is.leads.ready is.leads.order)

pub returns-in_err-model-clause-before : goal.returns-in_err-model-clause-before
returns-in_err-model-clause-before g c = λ b is.
    let asked = c.args.asked.now in
    let told = g.I.Inputs.text c.args.inputs.now asked.model.name.now in
    let before = g.I.Inputs.faults c.args.inputs.now in
    let now = g.I.Inputs.faults c.model_in_file.new.inputs in
    if_refused _ (EndsBefore (texts_beside b (g.I.Inputs.text c.args.inputs.now) (extension asked)) before now (extension asked)) c.in_err-model.field-0.0 c.from_residual.ensures.1
    (extending_read b asked.passes asked.check c.args.way.now is told (numbered asked.script) (numbered asked.model) before now c.in_err-model.field-0.0 c.in_err-model.ensures.ends)

pub returns-in_err-model-2-clause-before : goal.returns-in_err-model-2-clause-before
returns-in_err-model-2-clause-before g c = λ b is.
    let asked = c.args.asked.now in
    let ps = asked.passes in
    let told = g.I.Inputs.text c.args.inputs.now asked.model.name.now in
    let before = g.I.Inputs.faults c.args.inputs.now in
    let now = g.I.Inputs.faults c.model_in_file.new.inputs in
    let fault = c.in_err-model-2.field-0.0 in
    if_refused _ (EndsBefore (texts_beside b (g.I.Inputs.text c.args.inputs.now) (extension asked)) before now (extension asked)) (status_of_carrying fault) c.from_residual-in_err-model-2.ensures.1
    (extending_carried b ps asked.check c.args.way.now is told (numbered asked.script) (numbered asked.model) before now c.in_ok-model.model c.in_ok-model.ensures.model fault
    (c.in_err-model-2.ensures ps (commands b) (names_left b) is.leads.plan is.leads.ready is.leads.order))

pub returns-in_err-text-clause-before : goal.returns-in_err-text-clause-before
returns-in_err-text-clause-before g c = λ b is.
    let asked = c.args.asked.now in
    let ts = texts_beside b (g.I.Inputs.text c.args.inputs.now) (extension asked) in
    let before = g.I.Inputs.faults c.args.inputs.now in
    let now = g.I.Inputs.faults c.model_in_file.new.inputs in
    if_refused _ (EndsBefore ts before now (extension asked)) OutOfMemory c.from_residual-in_err-text.ensures.1 (memory_before ts before now (extension asked))

pub returns-clause-text : goal.returns-clause-text
returns-clause-text g c = λ b rules is.
    let asked = c.args.asked.now in
    let ps = asked.passes in
    let told = g.I.Inputs.text c.args.inputs.now asked.model.name.now in
    extended_prepared b ps asked.check c.args.way.now is told (numbered asked.script) (numbered asked.model) c.in_ok-model.model c.in_ok-model.ensures.model c.in_ok-model-2.model
    (c.in_ok-model-2.ensures ps (commands b) (names_left b) is.leads.plan is.leads.ready is.leads.order) rules c.in_ok-text.text c.in_ok-text.ensures
