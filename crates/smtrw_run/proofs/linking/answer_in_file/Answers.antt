use Rattle.std.proofs.Common.{refl}
use Rattle.smtrw_answers.specs.Asked.{numbered}
use Rattle.smtrw_run.proofs.AnswerTexts.{answer_in_file, ends_in_file, long_answer, read_as_told}
use Rattle.smtrw_run.proofs.linking.answer_in_file.Goals as goal

pub returns-in-Ok-clause-answer : goal.returns-in-Ok-clause-answer
returns-in-Ok-clause-answer g c =
    let told = g.I.Inputs.text c.args.inputs.now c.args.file.name.now in
    answer_in_file c.args.constants told c.answer_in_text.result (read_as_told c.args.constants c.in-Ok.bytes.items told c.answer_in_text.result c.in-Ok.ensures.whole c.answer_in_text.ensures)

pub returns-in-Ok-clause-ends : goal.returns-in-Ok-clause-ends
returns-in-Ok-clause-ends g c =
    let told = g.I.Inputs.text c.args.inputs.now c.args.file.name.now in
    ends_in_file c.args.constants told (g.I.Inputs.faults c.args.inputs.now) (g.I.Inputs.faults c.read_all.new.inputs) (numbered c.args.file) c.answer_in_text.result
    (read_as_told c.args.constants c.in-Ok.bytes.items told c.answer_in_text.result c.in-Ok.ensures.whole c.answer_in_text.ensures)

pub returns-in-Err-TooLong-clause-ends : goal.returns-in-Err-TooLong-clause-ends
returns-in-Err-TooLong-clause-ends g c =
    long_answer c.args.constants (g.I.Inputs.text c.args.inputs.now c.args.file.name.now) (g.I.Inputs.rest c.read_all.new.inputs) (g.I.Inputs.given c.args.inputs.now) (g.I.Inputs.given c.read_all.new.inputs)
    (rw c.in-Err-TooLong.field-0-is at c.in-Err-TooLong.ensures.too_long refl)
