use Rattle.std.proofs.Common.{◌≡◌, ℕ, ◌≤◌, List, length, Option, Result, Ok, subst, sym}
use Rattle.std.specs.Prelude.{IfErr, IfOk}
use Rattle.smt_terms.specs.Sorts.{Name}
use Rattle.smtrw_answers.specs.declared.status.Status.{Status}
use Rattle.smtrw_answers.specs.declared.words.Asked.{Asked}
use Rattle.smtrw_answers.specs.declared.words.Asked.TheVariants.{Rewrite, Translate, Extend, Blast, Unblast, Dimacs, Answer, Stats, Demo}
use Rattle.smtrw_answers.specs.Asked.{asked_seen, numbered}
use Rattle.smtrw_answers.specs.Endings.{longest_text}
use Rattle.smtrw_answers.specs.Faults.{status_of_lexing}
use Rattle.smtrw_answers.specs.Words.{Word, model_file_of}
use Rattle.smtrw_answers.specs.Asked.{IsInRange}
use Rattle.smtrw_run.specs.Prepared.{EndsBefore, IsPrepared, texts_beside}
use Rattle.smtrw_run.specs.Run.{model_text_of}
use Rattle.smtrw_run.proofs.CarriedModels.{if_refused}
use Rattle.smtrw_run.proofs.Endings.{lexing_ends}
use Rattle.smtrw_run.proofs.Demonstrations.{made_is_sound}
use Rattle.smtrw_run.proofs.ReadTexts.{counting_before, counting_prepared, demonstration_before, demonstration_prepared, read_before, read_prepared, refused_before, rewriting_before, rewriting_prepared}
use Rattle.smtrw_run.proofs.run.written.Goals as goal

-- what holds of the command that was found holds of what was asked
before_asked : (b : List ℕ) (text : Word → Option (List ℕ)) (before now : Word → ℕ) (r : Result (List ℕ) Status) (asked found : Asked) → asked ≡ found
    → IfErr r (EndsBefore (texts_beside b text (asked_seen found)) before now (asked_seen found)) → IfErr r (EndsBefore (texts_beside b text (asked_seen asked)) before now (asked_seen asked))
before_asked b text before now r asked found is ends = subst (λ (a : Asked). IfErr r (EndsBefore (texts_beside b text (asked_seen a)) before now (asked_seen a))) (sym is) ends

prepared_asked : (rules : List Name) (b : List ℕ) (text : Word → Option (List ℕ)) (r : Result (List ℕ) Status) (asked found : Asked) → asked ≡ found
    → IfOk r (IsPrepared rules (texts_beside b text (asked_seen found)) (asked_seen found)) → IfOk r (IsPrepared rules (texts_beside b text (asked_seen asked)) (asked_seen asked))
prepared_asked rules b text r asked found is prepared = subst (λ (a : Asked). IfOk r (IsPrepared rules (texts_beside b text (asked_seen a)) (asked_seen a))) (sym is) prepared

pub returns-in_err-forest-clause-before : goal.returns-in_err-forest-clause-before
returns-in_err-forest-clause-before g c =
    let a = asked_seen c.args.asked.now in
    let b = c.args.bytes.items in
    let text = g.I.Inputs.text c.args.inputs.now in
    let faults = g.I.Inputs.faults c.args.inputs.now in
    let fault = c.in_err-forest.field-0.0 in
    let laws = c.demo_scripts_are_accepted.ensures in
    let short : length b ≤ longest_text = subst (λ (n : ℕ). n ≤ longest_text) c.args.bytes.ok.0 c.requires.short in
    if_refused _ (EndsBefore (texts_beside b text a) faults faults a) (status_of_lexing fault) c.from_residual.ensures.1
    (refused_before c.args.asked.now b (made_is_sound laws.accepted laws.short b a c.requires.range c.requires.made) (model_text_of (model_file_of a) text) faults faults (status_of_lexing fault) (lexing_ends b short fault c.in_err-forest.ensures.fault))

pub returns-in_err-rewriting-in-Rewrite-clause-before : goal.returns-in_err-rewriting-in-Rewrite-clause-before
returns-in_err-rewriting-in-Rewrite-clause-before g c =
    let b = c.args.bytes.items in
    let text = g.I.Inputs.text c.args.inputs.now in
    let faults = g.I.Inputs.faults c.args.inputs.now in
    let found : Asked = Rewrite c.in-Rewrite.passes c.in-Rewrite.layout c.in-Rewrite.file in
    let status = c.in_err-rewriting-in-Rewrite.field-0.0 in
    let result = c.from_residual-in_err-rewriting-in-Rewrite.result in
    before_asked b text faults faults result c.args.asked.now found c.in-Rewrite.is
    (if_refused result (EndsBefore (texts_beside b text (asked_seen found)) faults faults (asked_seen found)) status c.from_residual-in_err-rewriting-in-Rewrite.ensures.1
    (rewriting_before b c.in_ok-forest.forest.bytes c.in_ok-forest.ensures.bytes text faults faults c.in-Rewrite.passes c.in-Rewrite.layout (numbered c.in-Rewrite.file) status c.in_err-rewriting-in-Rewrite.ensures.ends))

pub returns-in_ok-rewriting-in-Rewrite-clause-text : goal.returns-in_ok-rewriting-in-Rewrite-clause-text
returns-in_ok-rewriting-in-Rewrite-clause-text g c =
    let b = c.args.bytes.items in
    let text = g.I.Inputs.text c.args.inputs.now in
    let found : Asked = Rewrite c.in-Rewrite.passes c.in-Rewrite.layout c.in-Rewrite.file in
    let rewriting = c.in_ok-rewriting-in-Rewrite.rewriting in
    let made = c.in_ok-rewriting-in-Rewrite.ensures in
    prepared_asked _ b text (Ok rewriting.text) c.args.asked.now found c.in-Rewrite.is
    (rewriting_prepared b c.in_ok-forest.forest.bytes c.in_ok-forest.ensures.bytes text c.in-Rewrite.passes c.in-Rewrite.layout (numbered c.in-Rewrite.file) _ rewriting made.ends made.made made.promise)

pub returns-in-Translate-clause-before : goal.returns-in-Translate-clause-before
returns-in-Translate-clause-before g c =
    let b = c.args.bytes.items in
    let text = g.I.Inputs.text c.args.inputs.now in
    let faults = g.I.Inputs.faults c.args.inputs.now in
    let later = g.I.Inputs.faults c.translated.new.inputs in
    let found : Asked = Translate c.in-Translate.carried in
    before_asked b text faults later c.translated.result c.args.asked.now found c.in-Translate.is
    (read_before b c.in_ok-forest.forest.bytes c.in_ok-forest.ensures.bytes text faults later (asked_seen found) c.translated.result c.translated.ensures.before)

pub returns-in-Translate-clause-text : goal.returns-in-Translate-clause-text
returns-in-Translate-clause-text g c =
    let b = c.args.bytes.items in
    let text = g.I.Inputs.text c.args.inputs.now in
    let found : Asked = Translate c.in-Translate.carried in
    prepared_asked _ b text c.translated.result c.args.asked.now found c.in-Translate.is
    (read_prepared b c.in_ok-forest.forest.bytes c.in_ok-forest.ensures.bytes text _ (asked_seen found) c.translated.result c.translated.ensures.text)

pub returns-in-Extend-clause-before : goal.returns-in-Extend-clause-before
returns-in-Extend-clause-before g c =
    let b = c.args.bytes.items in
    let text = g.I.Inputs.text c.args.inputs.now in
    let faults = g.I.Inputs.faults c.args.inputs.now in
    let later = g.I.Inputs.faults c.extended.new.inputs in
    let found : Asked = Extend c.in-Extend.carried in
    before_asked b text faults later c.extended.result c.args.asked.now found c.in-Extend.is
    (read_before b c.in_ok-forest.forest.bytes c.in_ok-forest.ensures.bytes text faults later (asked_seen found) c.extended.result c.extended.ensures.before)

pub returns-in-Extend-clause-text : goal.returns-in-Extend-clause-text
returns-in-Extend-clause-text g c =
    let b = c.args.bytes.items in
    let text = g.I.Inputs.text c.args.inputs.now in
    let found : Asked = Extend c.in-Extend.carried in
    prepared_asked _ b text c.extended.result c.args.asked.now found c.in-Extend.is
    (read_prepared b c.in_ok-forest.forest.bytes c.in_ok-forest.ensures.bytes text _ (asked_seen found) c.extended.result c.extended.ensures.text)

pub returns-in-Blast-clause-before : goal.returns-in-Blast-clause-before
returns-in-Blast-clause-before g c =
    let b = c.args.bytes.items in
    let text = g.I.Inputs.text c.args.inputs.now in
    let faults = g.I.Inputs.faults c.args.inputs.now in
    let found : Asked = Blast c.in-Blast.checked in
    before_asked b text faults faults c.blasted.result c.args.asked.now found c.in-Blast.is
    (read_before b c.in_ok-forest.forest.bytes c.in_ok-forest.ensures.bytes text faults faults (asked_seen found) c.blasted.result (c.blasted.ensures.before (numbered c.in-Blast.checked.script) text faults faults))

pub returns-in-Blast-clause-text : goal.returns-in-Blast-clause-text
returns-in-Blast-clause-text g c =
    let b = c.args.bytes.items in
    let text = g.I.Inputs.text c.args.inputs.now in
    let found : Asked = Blast c.in-Blast.checked in
    prepared_asked _ b text c.blasted.result c.args.asked.now found c.in-Blast.is
    (read_prepared b c.in_ok-forest.forest.bytes c.in_ok-forest.ensures.bytes text _ (asked_seen found) c.blasted.result (c.blasted.ensures.text (numbered c.in-Blast.checked.script) _ text))

pub returns-in-Unblast-clause-before : goal.returns-in-Unblast-clause-before
returns-in-Unblast-clause-before g c =
    let b = c.args.bytes.items in
    let text = g.I.Inputs.text c.args.inputs.now in
    let faults = g.I.Inputs.faults c.args.inputs.now in
    let later = g.I.Inputs.faults c.unblasted.new.inputs in
    let found : Asked = Unblast c.in-Unblast.carried in
    before_asked b text faults later c.unblasted.result c.args.asked.now found c.in-Unblast.is
    (read_before b c.in_ok-forest.forest.bytes c.in_ok-forest.ensures.bytes text faults later (asked_seen found) c.unblasted.result c.unblasted.ensures.before)

pub returns-in-Unblast-clause-text : goal.returns-in-Unblast-clause-text
returns-in-Unblast-clause-text g c =
    let b = c.args.bytes.items in
    let text = g.I.Inputs.text c.args.inputs.now in
    let found : Asked = Unblast c.in-Unblast.carried in
    prepared_asked _ b text c.unblasted.result c.args.asked.now found c.in-Unblast.is
    (read_prepared b c.in_ok-forest.forest.bytes c.in_ok-forest.ensures.bytes text _ (asked_seen found) c.unblasted.result (c.unblasted.ensures.text _))

pub returns-in-Dimacs-clause-before : goal.returns-in-Dimacs-clause-before
returns-in-Dimacs-clause-before g c =
    let b = c.args.bytes.items in
    let text = g.I.Inputs.text c.args.inputs.now in
    let faults = g.I.Inputs.faults c.args.inputs.now in
    let found : Asked = Dimacs c.in-Dimacs.checked in
    before_asked b text faults faults c.linked.result c.args.asked.now found c.in-Dimacs.is
    (read_before b c.in_ok-forest.forest.bytes c.in_ok-forest.ensures.bytes text faults faults (asked_seen found) c.linked.result (c.linked.ensures.before (numbered c.in-Dimacs.checked.script) text faults faults))

pub returns-in-Dimacs-clause-text : goal.returns-in-Dimacs-clause-text
returns-in-Dimacs-clause-text g c =
    let b = c.args.bytes.items in
    let text = g.I.Inputs.text c.args.inputs.now in
    let found : Asked = Dimacs c.in-Dimacs.checked in
    prepared_asked _ b text c.linked.result c.args.asked.now found c.in-Dimacs.is
    (read_prepared b c.in_ok-forest.forest.bytes c.in_ok-forest.ensures.bytes text _ (asked_seen found) c.linked.result (c.linked.ensures.text (numbered c.in-Dimacs.checked.script) _ text))

pub returns-in-Answer-clause-before : goal.returns-in-Answer-clause-before
returns-in-Answer-clause-before g c =
    let b = c.args.bytes.items in
    let text = g.I.Inputs.text c.args.inputs.now in
    let faults = g.I.Inputs.faults c.args.inputs.now in
    let later = g.I.Inputs.faults c.answered.new.inputs in
    let found : Asked = Answer c.in-Answer.carried in
    before_asked b text faults later c.answered.result c.args.asked.now found c.in-Answer.is
    (read_before b c.in_ok-forest.forest.bytes c.in_ok-forest.ensures.bytes text faults later (asked_seen found) c.answered.result c.answered.ensures.before)

pub returns-in-Answer-clause-text : goal.returns-in-Answer-clause-text
returns-in-Answer-clause-text g c =
    let b = c.args.bytes.items in
    let text = g.I.Inputs.text c.args.inputs.now in
    let found : Asked = Answer c.in-Answer.carried in
    prepared_asked _ b text c.answered.result c.args.asked.now found c.in-Answer.is
    (read_prepared b c.in_ok-forest.forest.bytes c.in_ok-forest.ensures.bytes text _ (asked_seen found) c.answered.result (c.answered.ensures.text _))

pub returns-in-Stats-clause-before : goal.returns-in-Stats-clause-before
returns-in-Stats-clause-before g c =
    let b = c.args.bytes.items in
    let text = g.I.Inputs.text c.args.inputs.now in
    let faults = g.I.Inputs.faults c.args.inputs.now in
    before_asked b text faults faults c.counted.result c.args.asked.now (Stats c.in-Stats.file) c.in-Stats.is
    (counting_before b c.in_ok-forest.forest.bytes c.in_ok-forest.ensures.bytes text faults faults (numbered c.in-Stats.file) c.counted.result c.counted.ensures)

pub returns-in-Stats-clause-text : goal.returns-in-Stats-clause-text
returns-in-Stats-clause-text g c =
    let b = c.args.bytes.items in
    let text = g.I.Inputs.text c.args.inputs.now in
    prepared_asked _ b text c.counted.result c.args.asked.now (Stats c.in-Stats.file) c.in-Stats.is
    (counting_prepared b c.in_ok-forest.forest.bytes c.in_ok-forest.ensures.bytes text (numbered c.in-Stats.file) _ c.counted.result c.counted.ensures)

pub returns-in-Demo-clause-before : goal.returns-in-Demo-clause-before
returns-in-Demo-clause-before g c =
    let b = c.args.bytes.items in
    let text = g.I.Inputs.text c.args.inputs.now in
    let faults = g.I.Inputs.faults c.args.inputs.now in
    before_asked b text faults faults c.demonstrated.result c.args.asked.now (Demo c.in-Demo.seed c.in-Demo.size) c.in-Demo.is
    (demonstration_before c.in-Demo.seed c.in-Demo.size b text c.demonstrated.result faults faults c.demonstrated.ensures.memory)

pub returns-in-Demo-clause-text : goal.returns-in-Demo-clause-text
returns-in-Demo-clause-text g c =
    let b = c.args.bytes.items in
    let text = g.I.Inputs.text c.args.inputs.now in
    prepared_asked _ b text c.demonstrated.result c.args.asked.now (Demo c.in-Demo.seed c.in-Demo.size) c.in-Demo.is
    (demonstration_prepared c.in-Demo.seed c.in-Demo.size b text c.demonstrated.result _ c.demonstrated.ensures.line)

pub translated-requires-clause-first : goal.translated-requires-clause-first
translated-requires-clause-first g c =
    let found : Asked = Translate c.in-Translate.carried in
    let is : c.args.asked.now ≡ found = c.in-Translate.is in
    subst (λ (a : Asked). IsInRange (asked_seen a)) is c.requires.range

pub extended-requires-clause-first : goal.extended-requires-clause-first
extended-requires-clause-first g c =
    let found : Asked = Extend c.in-Extend.carried in
    let is : c.args.asked.now ≡ found = c.in-Extend.is in
    subst (λ (a : Asked). IsInRange (asked_seen a)) is c.requires.range

pub blasted-requires-clause-first : goal.blasted-requires-clause-first
blasted-requires-clause-first g c =
    let found : Asked = Blast c.in-Blast.checked in
    let is : c.args.asked.now ≡ found = c.in-Blast.is in
    let range : IsInRange (asked_seen found) = subst (λ (a : Asked). IsInRange (asked_seen a)) is c.requires.range in
    range.0

pub blasted-requires-clause-rules : goal.blasted-requires-clause-rules
blasted-requires-clause-rules g c =
    let found : Asked = Blast c.in-Blast.checked in
    let is : c.args.asked.now ≡ found = c.in-Blast.is in
    let range : IsInRange (asked_seen found) = subst (λ (a : Asked). IsInRange (asked_seen a)) is c.requires.range in
    range.1

pub unblasted-requires-clause-first : goal.unblasted-requires-clause-first
unblasted-requires-clause-first g c =
    let found : Asked = Unblast c.in-Unblast.carried in
    let is : c.args.asked.now ≡ found = c.in-Unblast.is in
    let range : IsInRange (asked_seen found) = subst (λ (a : Asked). IsInRange (asked_seen a)) is c.requires.range in
    range.0

pub unblasted-requires-clause-rules : goal.unblasted-requires-clause-rules
unblasted-requires-clause-rules g c =
    let found : Asked = Unblast c.in-Unblast.carried in
    let is : c.args.asked.now ≡ found = c.in-Unblast.is in
    let range : IsInRange (asked_seen found) = subst (λ (a : Asked). IsInRange (asked_seen a)) is c.requires.range in
    range.1

pub linked-requires-clause-first : goal.linked-requires-clause-first
linked-requires-clause-first g c =
    let found : Asked = Dimacs c.in-Dimacs.checked in
    let is : c.args.asked.now ≡ found = c.in-Dimacs.is in
    let range : IsInRange (asked_seen found) = subst (λ (a : Asked). IsInRange (asked_seen a)) is c.requires.range in
    range.0

pub linked-requires-clause-rules : goal.linked-requires-clause-rules
linked-requires-clause-rules g c =
    let found : Asked = Dimacs c.in-Dimacs.checked in
    let is : c.args.asked.now ≡ found = c.in-Dimacs.is in
    let range : IsInRange (asked_seen found) = subst (λ (a : Asked). IsInRange (asked_seen a)) is c.requires.range in
    range.1

pub answered-requires-clause-first : goal.answered-requires-clause-first
answered-requires-clause-first g c =
    let found : Asked = Answer c.in-Answer.carried in
    let is : c.args.asked.now ≡ found = c.in-Answer.is in
    let range : IsInRange (asked_seen found) = subst (λ (a : Asked). IsInRange (asked_seen a)) is c.requires.range in
    range.0

pub answered-requires-clause-rules : goal.answered-requires-clause-rules
answered-requires-clause-rules g c =
    let found : Asked = Answer c.in-Answer.carried in
    let is : c.args.asked.now ≡ found = c.in-Answer.is in
    let range : IsInRange (asked_seen found) = subst (λ (a : Asked). IsInRange (asked_seen a)) is c.requires.range in
    range.1
