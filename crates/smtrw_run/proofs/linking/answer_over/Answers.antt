use Rattle.smtrw_answers.specs.Asked.{numbered}
use Rattle.smtrw_answers.specs.Faults.{status_of_linking}
use Rattle.smtrw_run.specs.Linking.{answering}
use Rattle.smtrw_run.specs.Prepared.{EndsBefore, texts_beside}
use Rattle.smtrw_run.proofs.CarriedModels.{if_refused}
use Rattle.smtrw_run.proofs.LinkedModels.{answering_way}
use Rattle.smtrw_run.proofs.LinkedWays.{clauses_refused, linked_way_is, over_slice}
use Rattle.smtrw_run.proofs.Passages.{script_last}
use Rattle.smtrw_run.proofs.linking.answer_over.Goals as goal

pub clause_constants-requires-clause-numbers : goal.clause_constants-requires-clause-numbers
clause_constants-requires-clause-numbers g c = c.requires.is.numbers

pub clause_constants-requires-clause-printable : goal.clause_constants-requires-clause-printable
clause_constants-requires-clause-printable g c = c.requires.is.carried.ready.printable

pub clause_constants-requires-clause-first : goal.clause_constants-requires-clause-first
clause_constants-requires-clause-first g c = c.requires.is.way.leads.within.0

pub clause_constants-requires-clause-last : goal.clause_constants-requires-clause-last
clause_constants-requires-clause-last g c = script_last c.requires.text c.requires.passes c.args.asked.now.check c.requires.rules c.args.passage.now c.requires.is c.requires.unruled

pub answer_back-requires : goal.answer_back-requires
answer_back-requires g c =
    let constants = c.in_ok-constants in (
      c.requires.text,
      c.requires.passes,
      over_slice c.requires.text c.requires.passes c.args.asked.now.check c.args.passage.now.way constants.constants.items c.as_slice.result.now c.as_slice.ensures.value (linked_way_is c.requires.text c.requires.passes c.args.asked.now.check c.requires.rules c.args.passage.now c.requires.is c.requires.unruled constants.ensures.clauses c.checks_are_linked.ensures
          constants.constants.items constants.ensures.numbers constants.ensures.constants constants.ensures.flags),
    )

pub returns-in_err-constants-clause-before : goal.returns-in_err-constants-clause-before
returns-in_err-constants-clause-before g c = λ b rules is unruled.
    let asked = c.args.asked.now in
    let told = g.I.Inputs.text c.args.inputs.now asked.model.name.now in
    let faults = g.I.Inputs.faults c.args.inputs.now in
    let fault = c.in_err-constants.field-0.0 in
    if_refused _ (EndsBefore (texts_beside b (g.I.Inputs.text c.args.inputs.now) (answering asked)) faults faults (answering asked)) (status_of_linking fault) c.from_residual.ensures.1
    (answering_way b asked.passes asked.check told (numbered asked.script) (numbered asked.model) faults faults (status_of_linking fault) (clauses_refused b asked.passes asked.check rules c.args.passage.now is unruled fault c.in_err-constants.ensures.fault))

pub returns-clause-before : goal.returns-clause-before
returns-clause-before g c = λ b rules is unruled.
    let asked = c.args.asked.now in
    let constants = c.in_ok-constants in
    c.answer_back.ensures.before b (over_slice b asked.passes asked.check c.args.passage.now.way constants.constants.items c.as_slice.result.now c.as_slice.ensures.value (linked_way_is b asked.passes asked.check rules c.args.passage.now is unruled constants.ensures.clauses c.checks_are_linked.ensures constants.constants.items constants.ensures.numbers constants.ensures.constants constants.ensures.flags))

pub returns-clause-text : goal.returns-clause-text
returns-clause-text g c = λ b rules names is unruled.
    let asked = c.args.asked.now in
    let constants = c.in_ok-constants in
    c.answer_back.ensures.text b names (over_slice b asked.passes asked.check c.args.passage.now.way constants.constants.items c.as_slice.result.now c.as_slice.ensures.value (linked_way_is b asked.passes asked.check rules c.args.passage.now is unruled constants.ensures.clauses c.checks_are_linked.ensures constants.constants.items constants.ensures.numbers constants.ensures.constants constants.ensures.flags))
