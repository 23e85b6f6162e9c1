use Rattle.std.proofs.Common.{◌≡◌, ◌∙◌}
use Rattle.smtrw_answers.specs.declared.status.Status.TheVariants.{OutOfMemory}
use Rattle.smtrw_answers.specs.Blasting.{blasted_text}
use Rattle.smtrw_answers.specs.Words.{blast}
use Rattle.smtrw_run.specs.Prepared.{EndsBefore, texts_beside}
use Rattle.smtrw_run.proofs.BlastedModels.{blasted_lines, blasted_prepared, blasting_before}
use Rattle.smtrw_run.proofs.CarriedModels.{if_refused}
use Rattle.smtrw_run.proofs.ReadTexts.{memory_before}
use Rattle.smtrw_run.proofs.blasting.blasted.Goals as goal

pub returns-in_err-blasted-clause-before : goal.returns-in_err-blasted-clause-before
returns-in_err-blasted-clause-before g c = λ script text before now.
    let b = c.args.forest.now.bytes in
    let asked = blast c.args.passes.now c.args.check script in
    if_refused _ (EndsBefore (texts_beside b text asked) before now asked) c.in_err-blasted.field-0.0 c.from_residual.ensures.1
    (blasting_before b c.args.passes.now c.args.check script text before now c.in_err-blasted.field-0.0 c.in_err-blasted.ensures.ends)

pub returns-in_err-script_into-clause-before : goal.returns-in_err-script_into-clause-before
returns-in_err-script_into-clause-before g c = λ script text before now.
    let b = c.args.forest.now.bytes in
    let asked = blast c.args.passes.now c.args.check script in
    if_refused _ (EndsBefore (texts_beside b text asked) before now asked) OutOfMemory c.from_residual-in_err-script_into.ensures.1 (memory_before (texts_beside b text asked) before now asked)

pub returns-clause-text : goal.returns-clause-text
returns-clause-text g c = λ script rules text.
    let b = c.args.forest.now.bytes in
    let ps = c.args.passes.now in
    let k = c.args.check in
    let way = c.in_ok-blasted.blasted in
    let is = c.in_ok-blasted.ensures.way in
    let written : c.script_into.new.out ≡ blasted_text b ps k =
    blasted_lines b ps k way is c.deref.result.now c.deref-2.result.now (c.deref.ensures ∙ c.new-blasted.ensures) (c.deref-2.ensures ∙ c.new-blasted.ensures) c.new-text.result c.script_into.new.out c.new-text.ensures c.in_ok-script_into.ensures.ok in
    blasted_prepared b ps k script text rules c.script_into.new.out way is written
