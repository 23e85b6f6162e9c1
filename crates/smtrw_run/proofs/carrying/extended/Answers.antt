use Rattle.std.proofs.Common.{ap, sym, subst, ◌∙◌}
use Rattle.smtrw_answers.specs.Asked.{numbered}
use Rattle.smtrw_run.specs.declared.carrying.Passage.{Passage}
use Rattle.smtrw_run.specs.declared.carrying.Way.{Way}
use Rattle.smtrw_run.specs.Carrying.{IsWay, extension}
use Rattle.smtrw_run.specs.Prepared.{EndsBefore, texts_beside}
use Rattle.smtrw_run.proofs.CarriedModels.{if_refused, extending_way}
use Rattle.smtrw_run.proofs.carrying.extended.Goals as goal

pub carried_forth-requires : goal.carried_forth-requires
carried_forth-requires g c =
    let asked = c.args.asked.now in
    let b = c.args.forest.now.bytes in
    (b, subst (λ (w : Way). IsWay b asked.passes asked.check w) (sym (ap (λ (p : Passage). p.way) (c.deref.ensures ∙ c.new-passage.ensures))) c.in_ok-passage.ensures.passage.way)

pub returns-in_err-passage-clause-before : goal.returns-in_err-passage-clause-before
returns-in_err-passage-clause-before g c =
    let asked = c.args.asked.now in
    let b = c.args.forest.now.bytes in
    let told = g.I.Inputs.text c.args.inputs.now asked.model.name.now in
    let faults = g.I.Inputs.faults c.args.inputs.now in
    if_refused _ (EndsBefore (texts_beside b (g.I.Inputs.text c.args.inputs.now) (extension asked)) faults faults (extension asked)) c.in_err-passage.field-0.0 c.from_residual.ensures.1
    (extending_way b asked.passes asked.check told (numbered asked.script) (numbered asked.model) faults faults c.in_err-passage.field-0.0 c.in_err-passage.ensures.ends)

pub returns-clause-before : goal.returns-clause-before
returns-clause-before g c =
    let asked = c.args.asked.now in
    let b = c.args.forest.now.bytes in
    c.carried_forth.ensures.before b (subst (λ (w : Way). IsWay b asked.passes asked.check w) (sym (ap (λ (p : Passage). p.way) (c.deref.ensures ∙ c.new-passage.ensures))) c.in_ok-passage.ensures.passage.way)

pub returns-clause-text : goal.returns-clause-text
returns-clause-text g c =
    let asked = c.args.asked.now in
    let b = c.args.forest.now.bytes in
    c.carried_forth.ensures.text b _ (subst (λ (w : Way). IsWay b asked.passes asked.check w) (sym (ap (λ (p : Passage). p.way) (c.deref.ensures ∙ c.new-passage.ensures))) c.in_ok-passage.ensures.passage.way)
