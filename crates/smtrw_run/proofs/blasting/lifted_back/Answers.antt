use Rattle.smtrw_answers.specs.Asked.{numbered}
use Rattle.smtrw_answers.specs.Faults.{status_of_carrying}
use Rattle.smtrw_answers.specs.Outputs.{commands, names_left}
use Rattle.smtrw_answers.specs.declared.status.Status.TheVariants.{OutOfMemory}
use Rattle.smtrw_run.specs.Blasting.{unblasting}
use Rattle.smtrw_run.specs.Prepared.{EndsBefore, texts_beside}
use Rattle.smtrw_run.proofs.BlastedModels.{blasted_last, lifted_valid, unblasted_over, unblasted_prepared, unblasting_carried}
use Rattle.smtrw_run.proofs.CarriedModels.{if_refused}
use Rattle.smtrw_run.proofs.ReadTexts.{memory_before}
use Rattle.smtrw_run.proofs.blasting.lifted_back.Goals as goal

pub signature_at-requires-clause-last : goal.signature_at-requires-clause-last
signature_at-requires-clause-last g c = blasted_last c.requires.0 c.args.asked.now.passes c.args.asked.now.check c.args.blasted.now c.requires.1

pub returns-in_err-model-2-clause-before : goal.returns-in_err-model-2-clause-before
returns-in_err-model-2-clause-before g c = λ b is.
    let asked = c.args.asked.now in
    let ts = texts_beside b (g.I.Inputs.text c.args.inputs.now) (unblasting asked) in
    let before = g.I.Inputs.faults c.args.inputs.now in
    let now = g.I.Inputs.faults c.model_in_file.new.inputs in
    if_refused _ (EndsBefore ts before now (unblasting asked)) OutOfMemory c.from_residual-in_err-model-2.ensures.1 (memory_before ts before now (unblasting asked))

pub back-requires-clause-valid : goal.back-requires-clause-valid
back-requires-clause-valid g c =
    let asked = c.args.asked.now in
    let declared = c.in_ok-declared in
    lifted_valid c.requires.0 asked.passes asked.check c.args.blasted.now c.requires.1 declared.declared declared.ensures.numbers declared.ensures.signature
    (g.I.Inputs.text c.args.inputs.now asked.model.name.now) (numbered asked.script) (numbered asked.model) c.in_ok-model.model c.in_ok-model.ensures.model c.in_ok-model-2.model c.in_ok-model-2.ensures.model

pub returns-in_err-model-3-clause-before : goal.returns-in_err-model-3-clause-before
returns-in_err-model-3-clause-before g c = λ b is.
    let asked = c.args.asked.now in
    let ps = asked.passes in
    let declared = c.in_ok-declared in
    let told = g.I.Inputs.text c.args.inputs.now asked.model.name.now in
    let before = g.I.Inputs.faults c.args.inputs.now in
    let now = g.I.Inputs.faults c.model_in_file.new.inputs in
    let fault = c.in_err-model-3.field-0.0 in
    if_refused _ (EndsBefore (texts_beside b (g.I.Inputs.text c.args.inputs.now) (unblasting asked)) before now (unblasting asked)) (status_of_carrying fault) c.from_residual-in_err-model-3.ensures.1
    (unblasting_carried b ps asked.check c.args.blasted.now is declared.declared declared.ensures.numbers declared.ensures.signature told (numbered asked.script) (numbered asked.model) c.in_ok-model.model c.in_ok-model.ensures.model
    c.in_ok-model-2.model c.in_ok-model-2.ensures.model before now fault (c.in_err-model-3.ensures ps (commands b) (names_left b) is.way.leads.plan is.way.leads.ready is.way.leads.order))

pub printed-requires-clause-over : goal.printed-requires-clause-over
printed-requires-clause-over g c =
    let asked = c.args.asked.now in
    let b = c.requires.0 in
    let ps = asked.passes in
    let is = c.requires.1 in
    let declared = c.in_ok-declared in
    unblasted_over b ps asked.check c.args.blasted.now is declared.declared declared.ensures.numbers declared.ensures.signature
    (g.I.Inputs.text c.args.inputs.now asked.model.name.now) (numbered asked.script) (numbered asked.model) c.in_ok-model.model c.in_ok-model.ensures.model c.in_ok-model-2.model c.in_ok-model-2.ensures.model
    c.in_ok-model-3.model (c.in_ok-model-3.ensures ps (commands b) (names_left b) is.way.leads.plan is.way.leads.ready is.way.leads.order)

pub returns-in_err-text-clause-before : goal.returns-in_err-text-clause-before
returns-in_err-text-clause-before g c = λ b is.
    let asked = c.args.asked.now in
    let ts = texts_beside b (g.I.Inputs.text c.args.inputs.now) (unblasting asked) in
    let before = g.I.Inputs.faults c.args.inputs.now in
    let now = g.I.Inputs.faults c.model_in_file.new.inputs in
    if_refused _ (EndsBefore ts before now (unblasting asked)) OutOfMemory c.from_residual-in_err-text.ensures.1 (memory_before ts before now (unblasting asked))

pub returns-clause-text : goal.returns-clause-text
returns-clause-text g c = λ b rules is.
    let asked = c.args.asked.now in
    let ps = asked.passes in
    let declared = c.in_ok-declared in
    unblasted_prepared b ps asked.check c.args.blasted.now is declared.declared declared.ensures.numbers declared.ensures.signature
    (g.I.Inputs.text c.args.inputs.now asked.model.name.now) (numbered asked.script) (numbered asked.model) c.in_ok-model.model c.in_ok-model.ensures.model c.in_ok-model-2.model c.in_ok-model-2.ensures.model
    c.in_ok-model-3.model (c.in_ok-model-3.ensures ps (commands b) (names_left b) is.way.leads.plan is.way.leads.ready is.way.leads.order) rules c.in_ok-text.text c.in_ok-text.ensures
