use Rattle.std.proofs.Common.{length, subst}
use Rattle.dimacs_link.specs.declared.answers.Answer.{Answer}
use Rattle.smtrw_answers.specs.Asked.{numbered}
use Rattle.smtrw_run.specs.Linking.{IsAnswerRead}
use Rattle.smtrw_run.proofs.LinkedModels.{values_before, values_prepared}
use Rattle.smtrw_run.proofs.linking.answer_back.Goals as goal

pub returns-in-Sat-clause-before : goal.returns-in-Sat-clause-before
returns-in-Sat-clause-before g c = λ b is.
    let asked = c.args.asked.now in
    let told = g.I.Inputs.text c.args.inputs.now asked.model.name.now in
    let before = g.I.Inputs.faults c.args.inputs.now in
    let now = g.I.Inputs.faults c.answer_in_file.new.inputs in
    values_before b asked.passes asked.check c.args.way.now c.args.constants.now is told (numbered asked.script) (numbered asked.model) c.in-Sat.values
    (subst (λ (a : Answer). IsAnswerRead (length c.args.constants.now) told a) c.in-Sat.is c.in_ok-values.ensures.answer) before now c.values_back.result (c.values_back.ensures b asked.passes is)

pub returns-in-Sat-clause-text : goal.returns-in-Sat-clause-text
returns-in-Sat-clause-text g c = λ b rules is.
    let asked = c.args.asked.now in
    let told = g.I.Inputs.text c.args.inputs.now asked.model.name.now in
    values_prepared b asked.passes asked.check c.args.way.now c.args.constants.now is told (numbered asked.script) (numbered asked.model) c.in-Sat.values
    (subst (λ (a : Answer). IsAnswerRead (length c.args.constants.now) told a) c.in-Sat.is c.in_ok-values.ensures.answer) rules c.values_back.result (c.values_back.ensures b asked.passes is)
