-- What comes of the texts that the words name before anything is sent.
use Rattle.std.specs.Prelude.{◌≡◌, ℕ, List, take, Option, Some, None, Result, Ok, Err}
use Rattle.smt_io.specs.Told.{with_bytes}
use Rattle.smt_terms.specs.Sorts.{Name}
use Rattle.smtrw_answers.specs.declared.status.Status.{Status}
use Rattle.smtrw_answers.specs.declared.status.Status.TheVariants.{Done, Refused, WriteFailed, OutOfMemory, PassRefused}
use Rattle.smtrw_answers.specs.Words.{Word, Source, of_file, drawn, Asked, rewrite, blast, dimacs, model_file_of}
use Rattle.smtrw_answers.specs.Blasting.{IsBlasting}
use Rattle.smtrw_answers.specs.Linking.{IsLinking}
use Rattle.smtrw_answers.specs.Headline.{IsRewriting}
use Rattle.smtrw_answers.specs.Outputs.{demo_script}
use Rattle.smtrw_answers.specs.Written.{IsOutputOf}
use Rattle.smtrw_run.specs.Run.{MayEnd, ReadFits, Texts, TextsFit, WhereTold, WordsFit, model_text_of}

-- ---- of a script alone

-- the script, or a pass that it goes through, ends the run before anything is sent
abbrev pub EndsEarly : Option Status → Status → Type 0
EndsEarly end (Refused r) = end ≡ Some (Refused r)
EndsEarly end (PassRefused code assertion) = end ≡ Some (PassRefused code assertion)
EndsEarly end OutOfMemory = Unit {0}
EndsEarly end _ = ⊥

-- such a text is written of it where nothing ends the run, or it ends before
abbrev pub Writes : Option Status → (List ℕ → Type 0) → Result (List ℕ) Status → Type 0
Writes end IsText (Ok w) = (end ≡ None) × IsText w
Writes end IsText (Err status) = EndsEarly end status

-- ---- of all texts

-- a script that was read, with the model's text as it is told
abbrev pub texts_beside : List ℕ → (Word → Option (List ℕ)) → Asked → Texts
texts_beside b text asked = record { script = Some b; model = model_text_of (model_file_of asked) text }

-- a script that is drawn from a seed was made
abbrev pub IsMadeFor : Source → List ℕ → Type 0
IsMadeFor (of_file file) b = Unit {0}
IsMadeFor (drawn seed size) b = b ≡ demo_script seed size

-- a status at which nothing was sent
abbrev pub IsEarly : Status → Type 0
IsEarly Done = ⊥
IsEarly WriteFailed = ⊥
IsEarly _ = Unit {0}

-- how a run ends before it sends anything, with the counts of faults before and now
pub record EndsBefore (ts : Texts) (before now : Word → ℕ) (asked : Asked) (status : Status) : Type 0 where
  pub early : IsEarly status
  pub words : WordsFit (Ok asked) status
  pub ends : MayEnd asked status
  pub read : ReadFits before now status asked
  pub texts : TextsFit ts status asked

-- what is written of a told script by `rewrite` is a rewriting of it, by `blast` what takes the place of its check, and by
-- `dimacs` its clauses
abbrev pub Promises : Option (List ℕ) → Asked → List ℕ → Type 0
Promises None asked w = Unit {0}
Promises (Some b) (rewrite passes layout file) w = IsRewriting b passes w
Promises (Some b) (blast passes check file) w = IsBlasting b passes check w
Promises (Some b) (dimacs passes check file) w = IsLinking b passes check w
Promises (Some b) asked w = Unit {0}

-- what is sent where nothing ends the run before
pub record IsPrepared (rules : List Name) (ts : Texts) (asked : Asked) (w : List ℕ) : Type 0 where
  pub texts : TextsFit ts Done asked
  pub output : WhereTold ts (λ b g. IsOutputOf rules asked b g w)
  pub promise : Promises ts.script asked w

-- ---- the output

-- at `Done` the whole text was sent and flushed, at `WriteFailed` a prefix of it sent
abbrev pub Delivers : Option (List ℕ) → Option (List ℕ) → Option (List ℕ) → List ℕ → Status → Type 0
Delivers before now flushed text Done = (now ≡ with_bytes before text) × (flushed ≡ now)
Delivers before now flushed text WriteFailed = (n : ℕ) × (now ≡ with_bytes before (take n text))
Delivers before now flushed text _ = ⊥
