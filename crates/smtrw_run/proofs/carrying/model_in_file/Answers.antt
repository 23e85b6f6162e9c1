use Rattle.std.proofs.Common.{refl}
use Rattle.models.specs.LiveNumbers.{signature_of}
use Rattle.smtrw_answers.specs.Asked.{numbered}
use Rattle.smtrw_run.proofs.ModelTexts.{ends_in_file, long_ends, model_in_file, read_as_told}
use Rattle.smtrw_run.proofs.carrying.model_in_file.Goals as goal

pub returns-in-Ok-clause-model : goal.returns-in-Ok-clause-model
returns-in-Ok-clause-model g c =
    let t = c.args.table.now in
    let sig = signature_of t c.args.signature.now in
    let told = g.I.Inputs.text c.args.inputs.now c.args.file.name.now in
    model_in_file t sig told c.model_in_text.result (read_as_told t sig c.in-Ok.bytes.items told c.model_in_text.result c.in-Ok.ensures.whole c.model_in_text.ensures)

pub returns-in-Ok-clause-ends : goal.returns-in-Ok-clause-ends
returns-in-Ok-clause-ends g c =
    let t = c.args.table.now in
    let sig = signature_of t c.args.signature.now in
    let told = g.I.Inputs.text c.args.inputs.now c.args.file.name.now in
    ends_in_file t sig told (g.I.Inputs.faults c.args.inputs.now) (g.I.Inputs.faults c.read_all.new.inputs) (numbered c.args.file) c.model_in_text.result
    (read_as_told t sig c.in-Ok.bytes.items told c.model_in_text.result c.in-Ok.ensures.whole c.model_in_text.ensures)

pub returns-in-Err-TooLong-clause-ends : goal.returns-in-Err-TooLong-clause-ends
returns-in-Err-TooLong-clause-ends g c =
    long_ends (signature_of c.args.table.now c.args.signature.now) (g.I.Inputs.text c.args.inputs.now c.args.file.name.now) (g.I.Inputs.rest c.read_all.new.inputs) (g.I.Inputs.given c.args.inputs.now) (g.I.Inputs.given c.read_all.new.inputs)
    (rw c.in-Err-TooLong.field-0-is at c.in-Err-TooLong.ensures.too_long refl)
