use Rattle.std.proofs.Common.{rules, ◌≡◌, ◌∙◌, refl, sym, ap, subst, ℕ, ◌≤◌, List, length}
use Rattle.std.specs.Prelude.{IfSome}
use Rattle.smtrw_answers.specs.declared.words.File.{File}
use Rattle.smtrw_answers.specs.declared.words.Source.{Source as Found}
use Rattle.smtrw_answers.specs.declared.words.Source.TheVariants.{File as FromFile}
use Rattle.smtrw_answers.specs.Asked.{asked_seen, numbered, source_seen}
use Rattle.smtrw_answers.specs.Endings.{longest_text}
use Rattle.smtrw_answers.specs.Words.{greatest_size, Asked, Source, of_file, source_of}
use Rattle.smtrw_run.specs.Prepared.{EndsBefore, IsPrepared}
use Rattle.smtrw_run.specs.Run.{RoseForScript, script_text_of, texts_of}
use Rattle.smtrw_run.proofs.ReadTexts.{err_weaker, long_before, memory_before, ok_weaker, told_before, told_prepared, unread_before}
use Rattle.smtrw_run.proofs.run.prepare.Goals as goal

named : (found : Found) (file : File) (a : Asked) → found ≡ FromFile file → source_seen found ≡ source_of a → of_file (numbered file) ≡ source_of a
named found file a is seen = sym (ap source_seen is) ∙ seen

pub returns-in-Ok-clause-before : goal.returns-in-Ok-clause-before
returns-in-Ok-clause-before g c =
    let a = asked_seen c.args.asked.now in
    let b = c.in-Ok.bytes.items in
    let text = g.I.Inputs.text c.args.inputs.now in
    let later = g.I.Inputs.text c.read_all.new.inputs in
    let whole = subst (λ (s : Source). IfSome (script_text_of s text) (λ t. b ≡ t)) (named c.source.result c.in-File.file a c.in-File.is c.source.ensures) c.in-Ok.ensures.whole in
    err_weaker c.written-in-Ok.result _ (EndsBefore (texts_of text a) (g.I.Inputs.faults c.args.inputs.now) (g.I.Inputs.faults c.written-in-Ok.new.inputs) a)
    (told_before a b text later c.read_all.ensures.texts whole (g.I.Inputs.faults c.args.inputs.now) (g.I.Inputs.faults c.read_all.new.inputs) (g.I.Inputs.faults c.written-in-Ok.new.inputs) c.read_all.ensures.counts)
    c.written-in-Ok.ensures.before

pub returns-in-Ok-clause-text : goal.returns-in-Ok-clause-text
returns-in-Ok-clause-text g c =
    let a = asked_seen c.args.asked.now in
    let b = c.in-Ok.bytes.items in
    let text = g.I.Inputs.text c.args.inputs.now in
    let later = g.I.Inputs.text c.read_all.new.inputs in
    let whole = subst (λ (s : Source). IfSome (script_text_of s text) (λ t. b ≡ t)) (named c.source.result c.in-File.file a c.in-File.is c.source.ensures) c.in-Ok.ensures.whole in
    ok_weaker c.written-in-Ok.result _ (IsPrepared _ (texts_of text a) a) (told_prepared a b text later c.read_all.ensures.texts whole _) c.written-in-Ok.ensures.text

pub returns-in-Err-Failed-clause-before : goal.returns-in-Err-Failed-clause-before
returns-in-Err-Failed-clause-before g c =
    let a = asked_seen c.args.asked.now in
    let before = g.I.Inputs.faults c.args.inputs.now in
    let now = g.I.Inputs.faults c.read_all.new.inputs in
    unread_before (texts_of (g.I.Inputs.text c.args.inputs.now) a) before now a c.in-File.file.word
    (subst (λ (s : Source). RoseForScript before now c.in-File.file.word s) (named c.source.result c.in-File.file a c.in-File.is c.source.ensures) (refl, rw c.in-Err-Failed.field-0-is at c.in-Err-Failed.ensures.failed refl))

pub returns-in-Err-TooLong-clause-before : goal.returns-in-Err-TooLong-clause-before
returns-in-Err-TooLong-clause-before g c =
    let text = g.I.Inputs.text c.args.inputs.now in
    let rest = g.I.Inputs.rest c.read_all.new.inputs in
    let given = g.I.Inputs.given c.args.inputs.now in
    let given_now = g.I.Inputs.given c.read_all.new.inputs in
    let file = c.in-File.file in
    long_before c.args.asked.now text (numbered file) (named c.source.result file (asked_seen c.args.asked.now) c.in-File.is c.source.ensures) rest given given_now (g.I.Inputs.faults c.args.inputs.now) (g.I.Inputs.faults c.read_all.new.inputs)
    (rw c.in-Err-TooLong.field-0-is at c.in-Err-TooLong.ensures.too_long refl)

pub returns-in-Err-Memory-clause-before : goal.returns-in-Err-Memory-clause-before
returns-in-Err-Memory-clause-before g c =
    memory_before (texts_of (g.I.Inputs.text c.args.inputs.now) (asked_seen c.args.asked.now)) (g.I.Inputs.faults c.args.inputs.now) (g.I.Inputs.faults c.read_all.new.inputs) (asked_seen c.args.asked.now)

pub written-requires-clause-short : goal.written-requires-clause-short
written-requires-clause-short g c =
    let bytes = c.in_ok-bytes-in-Drawn.bytes in
    let most : c.in-Drawn.size ≤ greatest_size = search rules in
    let within : length bytes.items ≤ longest_text =
    subst (λ (b : List ℕ). length b ≤ longest_text) (sym c.in_ok-bytes-in-Drawn.ensures) (c.demo_scripts_are_accepted.ensures.short c.in-Drawn.seed c.in-Drawn.size most) in
    subst (λ (n : ℕ). n ≤ longest_text) (sym bytes.ok.0) within
