use Rattle.std.proofs.Common.{◌∙◌}
use Rattle.smtrw_answers.specs.Asked.{numbered}
use Rattle.smtrw_run.specs.Linking.{answering}
use Rattle.smtrw_run.specs.Prepared.{EndsBefore, texts_beside}
use Rattle.smtrw_run.proofs.CarriedModels.{if_refused}
use Rattle.smtrw_run.proofs.LinkedModels.{answering_way}
use Rattle.smtrw_run.proofs.LinkedWays.{moved, of_some, passing_on_the_way}
use Rattle.smtrw_run.proofs.linking.answered.Goals as goal

pub answer_over-requires : goal.answer_over-requires
answer_over-requires g c = of_some c.args.forest.now.bytes c.args.asked.now.passes c.args.asked.now.check _ c.in_ok-passage.passage c.deref.result.now (c.deref.ensures ∙ c.new-passage.ensures) c.in_ok-passage.ensures.passage c.requires.rules

pub returns-in_err-passage-clause-before : goal.returns-in_err-passage-clause-before
returns-in_err-passage-clause-before g c =
    let asked = c.args.asked.now in
    let b = c.args.forest.now.bytes in
    let told = g.I.Inputs.text c.args.inputs.now asked.model.name.now in
    let faults = g.I.Inputs.faults c.args.inputs.now in
    let status = c.in_err-passage.field-0.0 in
    if_refused _ (EndsBefore (texts_beside b (g.I.Inputs.text c.args.inputs.now) (answering asked)) faults faults (answering asked)) status c.from_residual.ensures.1
    (answering_way b asked.passes asked.check told (numbered asked.script) (numbered asked.model) faults faults status (passing_on_the_way b asked.passes asked.check status c.in_err-passage.ensures.ends))

pub returns-clause-before : goal.returns-clause-before
returns-clause-before g c =
    let asked = c.args.asked.now in
    let b = c.args.forest.now.bytes in
    c.answer_over.ensures.before b _ (moved b asked.passes asked.check _ c.in_ok-passage.passage c.deref.result.now (c.deref.ensures ∙ c.new-passage.ensures) c.in_ok-passage.ensures.passage) c.requires.rules

pub returns-clause-text : goal.returns-clause-text
returns-clause-text g c = λ rules.
    let asked = c.args.asked.now in
    let b = c.args.forest.now.bytes in
    c.answer_over.ensures.text b _ rules (moved b asked.passes asked.check _ c.in_ok-passage.passage c.deref.result.now (c.deref.ensures ∙ c.new-passage.ensures) c.in_ok-passage.ensures.passage) c.requires.rules
