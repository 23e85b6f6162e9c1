use Rattle.smtrw_answers.specs.Asked.{asked_seen}
use Rattle.smtrw_run.specs.Run.{texts_of}
use Rattle.smtrw_run.proofs.EarlyEnds.{early_complete, early_out, early_promise, early_quiet, early_write}
use Rattle.smtrw_run.proofs.Sent.{sent_complete, sent_ends, sent_out, sent_promise, sent_quiet, sent_read, sent_texts, sent_words}
use Rattle.smtrw_run.proofs.run.carry_out.Goals as goal

pub returns-in-Ok-clause-words : goal.returns-in-Ok-clause-words
returns-in-Ok-clause-words g c = sent_words _ _ (asked_seen c.args.asked.now) _ _ _ _ c.in-Ok.ensures.text c.deliver.result c.deliver.ensures.out

pub returns-in-Ok-clause-ends : goal.returns-in-Ok-clause-ends
returns-in-Ok-clause-ends g c = sent_ends _ _ (asked_seen c.args.asked.now) _ _ _ _ c.in-Ok.ensures.text c.deliver.result c.deliver.ensures.out

pub returns-in-Ok-clause-read : goal.returns-in-Ok-clause-read
returns-in-Ok-clause-read g c = sent_read _ _ (asked_seen c.args.asked.now) _ _ _ _ c.in-Ok.ensures.text c.deliver.result c.deliver.ensures.out (g.I.Inputs.faults c.args.inputs.now) (g.I.Inputs.faults c.prepare.new.inputs)

pub returns-in-Ok-clause-texts : goal.returns-in-Ok-clause-texts
returns-in-Ok-clause-texts g c = sent_texts _ _ (asked_seen c.args.asked.now) _ _ _ _ c.in-Ok.ensures.text c.deliver.result c.deliver.ensures.out

pub returns-in-Ok-clause-out : goal.returns-in-Ok-clause-out
returns-in-Ok-clause-out g c = sent_out _ _ (asked_seen c.args.asked.now) _ _ _ _ c.in-Ok.ensures.text c.deliver.result c.deliver.ensures.out

pub returns-in-Ok-clause-quiet : goal.returns-in-Ok-clause-quiet
returns-in-Ok-clause-quiet g c = sent_quiet _ _ (asked_seen c.args.asked.now) _ _ _ _ c.in-Ok.ensures.text c.deliver.result c.deliver.ensures.out

pub returns-in-Ok-clause-promise : goal.returns-in-Ok-clause-promise
returns-in-Ok-clause-promise g c = sent_promise _ _ (asked_seen c.args.asked.now) _ _ _ _ c.in-Ok.ensures.text c.deliver.result c.deliver.ensures.out

pub returns-in-Ok-clause-complete : goal.returns-in-Ok-clause-complete
returns-in-Ok-clause-complete g c = sent_complete _ _ (asked_seen c.args.asked.now) _ _ _ _ c.in-Ok.ensures.text c.deliver.result c.deliver.ensures.out (g.I.Inputs.faults c.args.inputs.now) (g.I.Inputs.faults c.prepare.new.inputs) (g.O.Sink.faults c.args.out.now) (g.O.Sink.faults c.deliver.new.out) c.deliver.ensures.write

pub returns-in-Err-clause-words : goal.returns-in-Err-clause-words
returns-in-Err-clause-words g c = c.in-Err.ensures.before.words

pub returns-in-Err-clause-ends : goal.returns-in-Err-clause-ends
returns-in-Err-clause-ends g c = c.in-Err.ensures.before.ends

pub returns-in-Err-clause-read : goal.returns-in-Err-clause-read
returns-in-Err-clause-read g c = c.in-Err.ensures.before.read

pub returns-in-Err-clause-write : goal.returns-in-Err-clause-write
returns-in-Err-clause-write g c = early_write _ _ c.in-Err.status c.in-Err.ensures.before.early

pub returns-in-Err-clause-texts : goal.returns-in-Err-clause-texts
returns-in-Err-clause-texts g c = c.in-Err.ensures.before.texts

pub returns-in-Err-clause-out : goal.returns-in-Err-clause-out
returns-in-Err-clause-out g c = early_out _ _ _ _ c.in-Err.status (asked_seen c.args.asked.now) c.in-Err.ensures.before.early

pub returns-in-Err-clause-quiet : goal.returns-in-Err-clause-quiet
returns-in-Err-clause-quiet g c = early_quiet _ c.in-Err.status c.in-Err.ensures.before.early

pub returns-in-Err-clause-promise : goal.returns-in-Err-clause-promise
returns-in-Err-clause-promise g c = early_promise (texts_of (g.I.Inputs.text c.args.inputs.now) (asked_seen c.args.asked.now)) _ _ c.in-Err.status (asked_seen c.args.asked.now) c.in-Err.ensures.before.early

pub returns-in-Err-clause-complete : goal.returns-in-Err-clause-complete
returns-in-Err-clause-complete g c = early_complete _ _ (asked_seen c.args.asked.now) (texts_of (g.I.Inputs.text c.args.inputs.now) (asked_seen c.args.asked.now)) _ _ c.in-Err.status c.in-Err.ensures.before
