-- How a run ends, and what it prepares, by texts of which the script was read.
use Rattle.std.proofs.Common.{◌≡◌, ap, subst, sym, refl, ℕ, ◌<◌, inl, inr, List, length, Option, Some, None, Result, Ok, Err, arith}
use Rattle.std.specs.Prelude.{IfOk, IfErr, IfSome}
use Rattle.smt_io.specs.Counts.{NeverFalls, Rose}
use Rattle.smt_io.specs.Told.{TookMore}
use Rattle.smt_terms.specs.Sorts.{Name}
use Rattle.script_terms.specs.declared.faults.Refusal.{Refusal}
use Rattle.model_texts.specs.ModelText.{model_of}
use Rattle.smt_print.specs.declared.layout.Layout.{Layout}
use Rattle.pass_laws.specs.declared.names.Pass.{Pass}
use Rattle.pass_laws.specs.Carry.{back_stages, forth_stages}
use Rattle.smtrw_answers.specs.declared.status.Status.{Status}
use Rattle.smtrw_answers.specs.declared.status.Status.TheVariants.{Done, Refused, Usage, ReadFailed, WriteFailed, OutOfMemory, ModelRefused, Beyond128, PassRefused}
use Rattle.smtrw_answers.specs.declared.words.Asked.{Asked as AskedSeen}
use Rattle.smtrw_answers.specs.declared.words.Asked.TheVariants.{Rewrite, Translate, Extend, Blast, Unblast, Dimacs, Answer, Stats, Demo}
use Rattle.smtrw_answers.specs.Asked.{asked_seen}
use Rattle.dimacs_link.specs.AnswerTexts.{reading}
use Rattle.smtrw_answers.specs.Blasting.{signature_blasted}
use Rattle.smtrw_answers.specs.Linking.{linked_constants}
use Rattle.smtrw_answers.specs.Carrying.{signature_before, signature_behind}
use Rattle.smtrw_answers.specs.Headline.{IsRewriting}
use Rattle.smtrw_answers.specs.Words.{Word, Numbered, Source, of_file, drawn, Asked, rewrite, stats, demo, source_of, model_file_of}
use Rattle.smtrw_answers.specs.Endings.{longest_text, too_long, or_later, end_of, script_end, check_end, passes_end, blasting_end, linking_end, reading_end, model_end, rewrite_end, stats_end, text_end, unblast_stages}
use Rattle.smtrw_answers.specs.Outputs.{commands, names_left, stats_lines, demo_line, MayBeWritten}
use Rattle.smtrw_run.specs.declared.rewriting.Rewriting.{Rewriting}
use Rattle.smtrw_run.specs.Prepared.{EndsBefore, EndsEarly, IsPrepared, Writes, texts_beside}
use Rattle.smtrw_run.specs.Rewriting.{IsMadeBy}
use Rattle.smtrw_run.proofs.Endings.{rewrite_end_code, script_end_is_no_pass, too_long_ends}
use Rattle.smtrw_run.specs.Run.{EndFits, MayEnd, ReadFits, RoseForModel, RoseForScript, Texts, TextsFit, check_end_of, model_text_of, passes_end_of, script_text_of, texts_of}

pub err_weaker : {A : Type 0} (r : Result A Status) (P Q : Status → Type 0) → ((s : Status) → P s → Q s) → IfErr r P → IfErr r Q
err_weaker (Ok a) P Q to is = tt
err_weaker (Err s) P Q to is = to s is

pub ok_weaker : {A : Type 0} (r : Result A Status) (P Q : A → Type 0) → ((a : A) → P a → Q a) → IfOk r P → IfOk r Q
ok_weaker (Ok a) P Q to is = to a is
ok_weaker (Err s) P Q to is = tt

-- ---- a script alone

alone_ends : (b : List ℕ) (text : Word → Option (List ℕ)) (before now : Word → ℕ) (asked : Asked) (end : Option Status) → ((code assertion : ℕ) → end ≡ Some (PassRefused code assertion) → MayEnd asked (PassRefused code assertion)) → ((s : Status) → EndFits end s → TextsFit (texts_beside b text asked) s asked)
    → (status : Status) → EndsEarly end status → EndsBefore (texts_beside b text asked) before now asked status
alone_ends b text before now asked end may fits Done is = absurd is
alone_ends b text before now asked end may fits (Refused r) is = record { early = tt; words = tt; ends = tt; read = tt; texts = fits (Refused r) is }
alone_ends b text before now asked end may fits (Usage u) is = absurd is
alone_ends b text before now asked end may fits (ReadFailed word) is = absurd is
alone_ends b text before now asked end may fits WriteFailed is = absurd is
alone_ends b text before now asked end may fits OutOfMemory is = record { early = tt; words = tt; ends = tt; read = tt; texts = fits OutOfMemory tt }
alone_ends b text before now asked end may fits (ModelRefused code line byte) is = absurd is
alone_ends b text before now asked end may fits (Beyond128 assertion) is = absurd is
alone_ends b text before now asked end may fits (PassRefused code assertion) is = record { early = tt; words = tt; ends = may code assertion is; read = tt; texts = fits (PassRefused code assertion) is }

-- ---- a script that isn't accepted, whatever the command

-- one that is made is accepted
abbrev pub IsSoundFor : Source → List ℕ → Type 0
IsSoundFor (of_file file) b = Unit {0}
IsSoundFor (drawn seed size) b = script_end b ≡ None

end_refused : (a : AskedSeen) (b g : List ℕ) → IsSoundFor (source_of (asked_seen a)) b → (status : Status) → script_end b ≡ Some status → end_of (asked_seen a) b g ≡ Some status
end_refused (Rewrite ps l f) b g sound status is = ap (λ (o : Option Status). or_later o (passes_end b ps)) is
end_refused (Translate c) b g sound status is =
    ap (λ (o : Option Status). or_later o (or_later (check_end b c.check) (or_later (passes_end b c.passes) (text_end g (model_end (back_stages c.passes (commands b) (names_left b) c.check) (model_of g (signature_behind b c.passes c.check))))))) is
end_refused (Extend c) b g sound status is =
    ap (λ (o : Option Status). or_later o (or_later (check_end b c.check) (or_later (passes_end b c.passes) (text_end g (model_end (forth_stages c.passes (commands b) (names_left b) c.check) (model_of g (signature_before b c.check))))))) is
end_refused (Blast c) b g sound status is = ap (λ (o : Option Status). or_later o (or_later (check_end b c.check) (blasting_end b c.passes c.check))) is
end_refused (Unblast c) b g sound status is =
    ap (λ (o : Option Status). or_later o (or_later (check_end b c.check) (or_later (blasting_end b c.passes c.check) (text_end g (model_end (unblast_stages b c.passes c.check) (model_of g (signature_blasted b c.passes c.check))))))) is
end_refused (Dimacs c) b g sound status is = ap (λ (o : Option Status). or_later o (or_later (check_end b c.check) (linking_end b c.passes c.check))) is
end_refused (Answer c) b g sound status is =
    ap (λ (o : Option Status). or_later o (or_later (check_end b c.check) (or_later (linking_end b c.passes c.check) (text_end g (reading_end b c.passes c.check g (reading (length (linked_constants b c.passes c.check)) g)))))) is
end_refused (Stats f) b g sound status is = is
end_refused (Demo seed size) b g sound status is = absurd cc

texts_refused : (a : AskedSeen) (b : List ℕ) → IsSoundFor (source_of (asked_seen a)) b → (m : Option (List ℕ)) (r : Refusal) → script_end b ≡ Some (Refused r) → TextsFit (record { script = Some b; model = m }) (Refused r) (asked_seen a)
texts_refused a b sound None r is = ap (λ (o : Option Status). or_later o (or_later (check_end_of (asked_seen a) b) (passes_end_of (asked_seen a) b))) is
texts_refused a b sound (Some g) r is = end_refused a b g sound (Refused r) is

memory_texts : (asked : Asked) (s m : Option (List ℕ)) → TextsFit (record { script = s; model = m }) OutOfMemory asked
memory_texts asked None m = tt
memory_texts asked (Some b) None = tt
memory_texts asked (Some b) (Some g) = tt

unread_texts : (asked : Asked) (word : ℕ) (s m : Option (List ℕ)) → TextsFit (record { script = s; model = m }) (ReadFailed word) asked
unread_texts asked word None m = tt
unread_texts asked word (Some b) None = tt
unread_texts asked word (Some b) (Some g) = tt

pub memory_before : (ts : Texts) (before now : Word → ℕ) (asked : Asked) → EndsBefore ts before now asked OutOfMemory
memory_before ts before now asked = record { early = tt; words = tt; ends = tt; read = tt; texts = memory_texts asked ts.script ts.model }

pub unread_before : (ts : Texts) (before now : Word → ℕ) (asked : Asked) (word : ℕ) → RoseForScript before now word (source_of asked) → EndsBefore ts before now asked (ReadFailed word)
unread_before ts before now asked word rose = record { early = tt; words = tt; ends = tt; read = inl rose; texts = unread_texts asked word ts.script ts.model }

pub refused_before : (a : AskedSeen) (b : List ℕ) → IsSoundFor (source_of (asked_seen a)) b → (m : Option (List ℕ)) (before now : Word → ℕ) (status : Status) → EndsEarly (script_end b) status → EndsBefore (record { script = Some b; model = m }) before now (asked_seen a) status
refused_before a b sound m before now Done is = absurd is
refused_before a b sound m before now (Refused r) is = record { early = tt; words = tt; ends = tt; read = tt; texts = texts_refused a b sound m r is }
refused_before a b sound m before now (Usage u) is = absurd is
refused_before a b sound m before now (ReadFailed word) is = absurd is
refused_before a b sound m before now WriteFailed is = absurd is
refused_before a b sound m before now OutOfMemory is = memory_before (record { script = Some b; model = m }) before now (asked_seen a)
refused_before a b sound m before now (ModelRefused code line byte) is = absurd is
refused_before a b sound m before now (Beyond128 assertion) is = absurd is
refused_before a b sound m before now (PassRefused code assertion) is = absurd (script_end_is_no_pass b code assertion is)

-- a script that is too long
longer : (text : List ℕ) (rest : Option (List ℕ)) (given given_now : ℕ) → TookMore (Some text) rest given given_now → longest_text < length text
longer text (Some left) given given_now took = omega (arith, took)
longer text None given given_now took = absurd took

pub long_before : (a : AskedSeen) (text : Word → Option (List ℕ)) (file : Numbered) → of_file file ≡ source_of (asked_seen a) → (rest : Option (List ℕ)) (given given_now : ℕ) (before now : Word → ℕ) → TookMore (text file.word) rest given given_now
    → EndsBefore (texts_of text (asked_seen a)) before now (asked_seen a) (Refused too_long)
long_before a text file named rest given given_now before now took = record { early = tt; words = tt; ends = tt; read = tt; texts = subst Fits named (by (text file.word) took) }
  where
    model : Option (List ℕ)
    model = model_text_of (model_file_of (asked_seen a)) text

    Fits : Source → Type 0
    Fits source = TextsFit (record { script = script_text_of source text; model = model }) (Refused too_long) (asked_seen a)

    by : (o : Option (List ℕ)) → TookMore o rest given given_now → TextsFit (record { script = o; model = model }) (Refused too_long) (asked_seen a)
    by None took = tt
    by (Some b) took = texts_refused a b (subst (λ (source : Source). IsSoundFor source b) named tt) model too_long (too_long_ends b (longer b rest given given_now took))

-- ---- how the script was read

rose_since : (before middle now : ℕ) → NeverFalls before middle → Rose middle now → Rose before now
rose_since before middle now falls rose = let less = falls.0 in omega (arith, less, rose)

module _ (asked : Asked) (before middle now : Word → ℕ) (falls : (w : Word) → NeverFalls (before w) (middle w)) where
  rose_for_model : (word : ℕ) (o : Option Numbered) → RoseForModel middle now word o → RoseForModel before now word o
  rose_for_model word None is = is
  rose_for_model word (Some file) is = (is.0, rose_since (before file.word) (middle file.word) (now file.word) (falls file.word) is.1)

  rose_for_script : (word : ℕ) (source : Source) → RoseForScript middle now word source → RoseForScript before now word source
  rose_for_script word (of_file file) is = (is.0, rose_since (before file.word) (middle file.word) (now file.word) (falls file.word) is.1)
  rose_for_script word (drawn seed size) is = is

  pub fails_since : (status : Status) → ReadFits middle now status asked → ReadFits before now status asked
  fails_since (ReadFailed word) (inl is) = inl (rose_for_script word (source_of asked) is)
  fails_since (ReadFailed word) (inr is) = inr (rose_for_model word (model_file_of asked) is)
  fails_since Done is = tt
  fails_since (Refused r) is = tt
  fails_since (Usage u) is = tt
  fails_since WriteFailed is = tt
  fails_since OutOfMemory is = tt
  fails_since (ModelRefused code line byte) is = tt
  fails_since (Beyond128 assertion) is = tt
  fails_since (PassRefused code assertion) is = tt

module _ (asked : Asked) (b : List ℕ) (text later : Word → Option (List ℕ)) (stay : (w : Word) → later w ≡ text w) where
  model_stays : (o : Option Numbered) → model_text_of o later ≡ model_text_of o text
  model_stays None = refl
  model_stays (Some file) = stay file.word

  -- the told texts, of which the script is b where it is told
  module _ (whole : IfSome (script_text_of (source_of asked) text) (λ t. b ≡ t)) where
    same_beside : texts_beside b later asked ≡ texts_beside b text asked
    same_beside i = record { script = Some b; model = model_stays (model_file_of asked) i }

    told : (P : Texts → Type 0) → ((m : Option (List ℕ)) → P (record { script = None; model = m })) → P (texts_beside b later asked) → P (texts_of text asked)
    told P untold is = by (script_text_of (source_of asked) text) whole
      where
        by : (o : Option (List ℕ)) → IfSome o (λ t. b ≡ t) → P (record { script = o; model = model_text_of (model_file_of asked) text })
        by None w = untold (model_text_of (model_file_of asked) text)
        by (Some t) w = subst (λ (x : List ℕ). P (record { script = Some x; model = model_text_of (model_file_of asked) text })) w (subst P same_beside is)

    pub told_fits : (status : Status) → TextsFit (texts_beside b later asked) status asked → TextsFit (texts_of text asked) status asked
    told_fits status = told (λ ts. TextsFit ts status asked) (λ m. tt)

    pub told_prepared : (rules : List Name) (w : List ℕ) → IsPrepared rules (texts_beside b later asked) asked w → IsPrepared rules (texts_of text asked) asked w
    told_prepared rules w = told (λ ts. IsPrepared rules ts asked w) (λ m. record { texts = tt; output = tt; promise = tt })

    module _ (before middle now : Word → ℕ) (falls : (w : Word) → NeverFalls (before w) (middle w)) where
      pub told_before : (status : Status) → EndsBefore (texts_beside b later asked) middle now asked status → EndsBefore (texts_of text asked) before now asked status
      told_before status is = record { early = is.early; words = is.words; ends = is.ends; read = fails_since asked before middle now falls status is.read; texts = told_fits status is.texts }

-- ---- the commands that read a script alone

rewriting_may : (b : List ℕ) (ps : List Pass) (layout : Layout) (file : Numbered) (code assertion : ℕ) → rewrite_end b ps ≡ Some (PassRefused code assertion) → MayEnd (rewrite ps layout file) (PassRefused code assertion)
rewriting_may b ps layout file code assertion is = inl (rewrite_end_code b ps code assertion is, tt)

counting_may : (b : List ℕ) (file : Numbered) (code assertion : ℕ) → stats_end b ≡ Some (PassRefused code assertion) → MayEnd (stats file) (PassRefused code assertion)
counting_may b file code assertion is = absurd (script_end_is_no_pass b code assertion is)

module _ (b d : List ℕ) (same : d ≡ b) (text : Word → Option (List ℕ)) where
  pub rewriting_before : (before now : Word → ℕ) (ps : List Pass) (layout : Layout) (file : Numbered) (status : Status) → EndsEarly (rewrite_end d ps) status → EndsBefore (texts_beside b text (rewrite ps layout file)) before now (rewrite ps layout file) status
  rewriting_before before now ps layout file status ends =
      alone_ends b text before now (rewrite ps layout file) (rewrite_end b ps) (rewriting_may b ps layout file) (λ s fits. fits) status
      (subst (λ (x : List ℕ). EndsEarly (rewrite_end x ps) status) same ends)

  pub rewriting_prepared : (ps : List Pass) (layout : Layout) (file : Numbered) (rules : List Name) (r : Rewriting) → rewrite_end d ps ≡ None → IsMadeBy d ps rules layout r → IsRewriting d ps r.text
      → IsPrepared rules (texts_beside b text (rewrite ps layout file)) (rewrite ps layout file) r.text
  rewriting_prepared ps layout file rules r ends made promises = record {
    texts = subst (λ (x : List ℕ). rewrite_end x ps ≡ None) same ends;
    output = subst (λ (x : List ℕ). MayBeWritten x ps rules layout r.text) same (made.0, made.1, made.2);
    promise = subst (λ (x : List ℕ). IsRewriting x ps r.text) same promises;
  }

  pub counting_before : (before now : Word → ℕ) (file : Numbered) (r : Result (List ℕ) Status) → Writes (stats_end d) (λ w. w ≡ stats_lines d) r → IfErr r (EndsBefore (texts_beside b text (stats file)) before now (stats file))
  counting_before before now file (Ok w) writes = tt
  counting_before before now file (Err status) writes =
      alone_ends b text before now (stats file) (stats_end b) (counting_may b file) (λ s fits. fits) status
      (subst (λ (x : List ℕ). EndsEarly (stats_end x) status) same writes)

  pub counting_prepared : (file : Numbered) (rules : List Name) (r : Result (List ℕ) Status) → Writes (stats_end d) (λ w. w ≡ stats_lines d) r → IfOk r (IsPrepared rules (texts_beside b text (stats file)) (stats file))
  counting_prepared file rules (Ok w) writes = record {
    texts = subst (λ (x : List ℕ). stats_end x ≡ None) same writes.0;
    output = subst (λ (x : List ℕ). w ≡ stats_lines x) same writes.1;
    promise = tt;
  }
  counting_prepared file rules (Err status) writes = tt

  -- those that carry a model, of the bytes that were read
  pub read_before : (before now : Word → ℕ) (asked : Asked) (r : Result (List ℕ) Status) → IfErr r (EndsBefore (texts_beside d text asked) before now asked) → IfErr r (EndsBefore (texts_beside b text asked) before now asked)
  read_before before now asked r is = subst (λ (x : List ℕ). IfErr r (EndsBefore (texts_beside x text asked) before now asked)) same is

  pub read_prepared : (rules : List Name) (asked : Asked) (r : Result (List ℕ) Status) → IfOk r (IsPrepared rules (texts_beside d text asked) asked) → IfOk r (IsPrepared rules (texts_beside b text asked) asked)
  read_prepared rules asked r is = subst (λ (x : List ℕ). IfOk r (IsPrepared rules (texts_beside x text asked) asked)) same is

-- ---- the command that makes its script

module _ (seed size : ℕ) (b : List ℕ) (text : Word → Option (List ℕ)) (r : Result (List ℕ) Status) where
  pub demonstration_before : (before now : Word → ℕ) → IfErr r (λ status. status ≡ OutOfMemory) → IfErr r (EndsBefore (texts_beside b text (demo seed size)) before now (demo seed size))
  demonstration_before before now =
      err_weaker r (λ status. status ≡ OutOfMemory) (EndsBefore (texts_beside b text (demo seed size)) before now (demo seed size))
      (λ status is. subst (EndsBefore (texts_beside b text (demo seed size)) before now (demo seed size)) (sym is) (memory_before (texts_beside b text (demo seed size)) before now (demo seed size)))

  pub demonstration_prepared : (rules : List Name) → IfOk r (λ w. w ≡ demo_line seed size) → IfOk r (IsPrepared rules (texts_beside b text (demo seed size)) (demo seed size))
  demonstration_prepared rules =
      ok_weaker r (λ w. w ≡ demo_line seed size) (IsPrepared rules (texts_beside b text (demo seed size)) (demo seed size)) (λ w is. record { texts = refl; output = is; promise = tt })
