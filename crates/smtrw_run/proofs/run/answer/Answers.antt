use Rattle.std.proofs.Common.{map}
use Rattle.std.specs.Prelude.{string_bytes}
use Rattle.smtrw_answers.specs.Asked.{asked_seen}
use Rattle.smtrw_answers.specs.declared.status.Status.TheVariants.{OutOfMemory}
use Rattle.smtrw_answers.specs.Words.{asked}
use Rattle.smtrw_run.specs.Run.{IsComplete, MayEnd, Promised, ReadFits, TextsFit, texts_of}
use Rattle.smtrw_run.specs.WholeRun.{IsUnbegun}
use Rattle.smtrw_run.proofs.AskedNumbers.{asked_in_range}
use Rattle.smtrw_run.proofs.Unbegun.{complete, memory_wanting, ends, texts, unsent, where_asked, words}
use Rattle.smtrw_run.proofs.run.answer.Goals as goal

pub carry_out-requires : goal.carry_out-requires
carry_out-requires g c = record { range = asked_in_range (map string_bytes c.args.words.now) (asked_seen c.in-Ok.asked) c.in-Ok.ensures }

pub returns-in-Err-Memory-clause-words : goal.returns-in-Err-Memory-clause-words
returns-in-Err-Memory-clause-words g c =
    let w = asked (map string_bytes c.args.words.now) in
    let is : IsUnbegun w OutOfMemory = memory_wanting w c.in-Err-Memory.field-0 c.in-Err-Memory.field-0-is c.in-Err-Memory.ensures in
    words w OutOfMemory is

pub returns-in-Err-Memory-clause-ends : goal.returns-in-Err-Memory-clause-ends
returns-in-Err-Memory-clause-ends g c =
    let w = asked (map string_bytes c.args.words.now) in
    let is : IsUnbegun w OutOfMemory = memory_wanting w c.in-Err-Memory.field-0 c.in-Err-Memory.field-0-is c.in-Err-Memory.ensures in
    where_asked w (λ s a. MayEnd a s) ends OutOfMemory is

pub returns-in-Err-Memory-clause-read : goal.returns-in-Err-Memory-clause-read
returns-in-Err-Memory-clause-read g c =
    let w = asked (map string_bytes c.args.words.now) in
    let is : IsUnbegun w OutOfMemory = memory_wanting w c.in-Err-Memory.field-0 c.in-Err-Memory.field-0-is c.in-Err-Memory.ensures in
    where_asked w (λ s. ReadFits (g.I.Inputs.faults c.args.inputs.now) (g.I.Inputs.faults c.args.inputs.now) s) (λ a. tt) OutOfMemory is

pub returns-in-Err-Memory-clause-texts : goal.returns-in-Err-Memory-clause-texts
returns-in-Err-Memory-clause-texts g c =
    let w = asked (map string_bytes c.args.words.now) in
    let is : IsUnbegun w OutOfMemory = memory_wanting w c.in-Err-Memory.field-0 c.in-Err-Memory.field-0-is c.in-Err-Memory.ensures in
    where_asked w (λ s a. TextsFit (texts_of (g.I.Inputs.text c.args.inputs.now) a) s a) (λ a. texts (texts_of (g.I.Inputs.text c.args.inputs.now) a) a) OutOfMemory is

pub returns-in-Err-Memory-clause-out : goal.returns-in-Err-Memory-clause-out
returns-in-Err-Memory-clause-out g c = unsent (asked (map string_bytes c.args.words.now)) (g.O.Sink.sent c.args.out.now)

pub returns-in-Err-Memory-clause-promise : goal.returns-in-Err-Memory-clause-promise
returns-in-Err-Memory-clause-promise g c =
    let w = asked (map string_bytes c.args.words.now) in
    let is : IsUnbegun w OutOfMemory = memory_wanting w c.in-Err-Memory.field-0 c.in-Err-Memory.field-0-is c.in-Err-Memory.ensures in
    where_asked w (λ s a. Promised (texts_of (g.I.Inputs.text c.args.inputs.now) a) (g.O.Sink.sent c.args.out.now) (g.O.Sink.sent c.args.out.now) s a) (λ a. tt) OutOfMemory is

pub returns-in-Err-Memory-clause-complete : goal.returns-in-Err-Memory-clause-complete
returns-in-Err-Memory-clause-complete g c =
    let w = asked (map string_bytes c.args.words.now) in
    let is : IsUnbegun w OutOfMemory = memory_wanting w c.in-Err-Memory.field-0 c.in-Err-Memory.field-0-is c.in-Err-Memory.ensures in
    where_asked w (λ s a. IsComplete (texts_of (g.I.Inputs.text c.args.inputs.now) a) (g.I.Inputs.faults c.args.inputs.now) (g.I.Inputs.faults c.args.inputs.now) (g.O.Sink.faults c.args.out.now) (g.O.Sink.faults c.args.out.now) s a) (λ a. complete (texts_of (g.I.Inputs.text c.args.inputs.now) a) (g.I.Inputs.faults c.args.inputs.now) (g.I.Inputs.faults c.args.inputs.now) (g.O.Sink.faults c.args.out.now) (g.O.Sink.faults c.args.out.now) a) OutOfMemory is
