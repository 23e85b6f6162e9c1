use Rattle.std.proofs.Common.{◌∙◌}
use Rattle.smtrw_answers.specs.Words.{dimacs}
use Rattle.smtrw_run.specs.Prepared.{EndsBefore, texts_beside}
use Rattle.smtrw_run.proofs.CarriedModels.{if_refused}
use Rattle.smtrw_run.proofs.LinkedModels.{linked_failed, linked_prepared, linking_before}
use Rattle.smtrw_run.proofs.LinkedWays.{moved, of_some, passing_on_the_way}
use Rattle.smtrw_run.proofs.linking.linked.Goals as goal

pub clause_text-requires : goal.clause_text-requires
clause_text-requires g c = of_some c.args.forest.now.bytes c.args.passes.now c.args.check _ c.in_ok-passage.passage c.deref.result.now (c.deref.ensures ∙ c.new-passage.ensures) c.in_ok-passage.ensures.passage c.requires.rules

pub returns-in_err-passage-clause-before : goal.returns-in_err-passage-clause-before
returns-in_err-passage-clause-before g c = λ script text before now.
    let b = c.args.forest.now.bytes in
    let ps = c.args.passes.now in
    let k = c.args.check in
    let asked = dimacs ps k script in
    let status = c.in_err-passage.field-0.0 in
    if_refused _ (EndsBefore (texts_beside b text asked) before now asked) status c.from_residual.ensures.1
    (linking_before b ps k script text before now status (passing_on_the_way b ps k status c.in_err-passage.ensures.ends))

pub returns-clause-before : goal.returns-clause-before
returns-clause-before g c = λ script text before now.
    let b = c.args.forest.now.bytes in
    let ps = c.args.passes.now in
    let k = c.args.check in
    let is = moved b ps k _ c.in_ok-passage.passage c.deref.result.now (c.deref.ensures ∙ c.new-passage.ensures) c.in_ok-passage.ensures.passage in
    linked_failed b ps k script text before now c.clause_text.result (c.clause_text.ensures b ps _ is c.requires.rules)

pub returns-clause-text : goal.returns-clause-text
returns-clause-text g c = λ script rules text.
    let b = c.args.forest.now.bytes in
    let ps = c.args.passes.now in
    let k = c.args.check in
    let passage = c.in_ok-passage.ensures.passage in
    let is = moved b ps k _ c.in_ok-passage.passage c.deref.result.now (c.deref.ensures ∙ c.new-passage.ensures) passage in
    linked_prepared b ps k script text rules c.clause_text.result passage.way.script passage.way.check (c.clause_text.ensures b ps _ is c.requires.rules)
