-- A run that ends before it sends anything leaves its output as it was, and answers each told text that isn't refused.
use Rattle.std.proofs.Common.{◌≡◌, refl, ℕ, ◌⊎◌, inl, inr, List, Option, Some, None}
use Rattle.smt_terms.specs.Sorts.{Name}
use Rattle.smtrw_answers.specs.declared.status.Status.{Status}
use Rattle.smtrw_answers.specs.declared.status.Status.TheVariants.{Done, Refused, Usage, ReadFailed, WriteFailed, OutOfMemory, ModelRefused, Beyond128, PassRefused}
use Rattle.smtrw_answers.specs.Words.{Word, Numbered, Source, of_file, drawn, Asked, source_of, model_file_of}
use Rattle.smtrw_answers.specs.Endings.{end_of}
use Rattle.smtrw_run.specs.Prepared.{IsEarly, EndsBefore}
use Rattle.smtrw_run.specs.Run.{EndFits, IsComplete, NoneRose, NoneRoseOf, OutFits, Promised, Quiet, ReadFits, RoseForModel, RoseForScript, Texts, TextsFit, WriteFits}

pub early_write : (before now : ℕ) (status : Status) → IsEarly status → WriteFits before now status
early_write before now Done is = absurd is
early_write before now (Refused r) is = tt
early_write before now (Usage u) is = tt
early_write before now (ReadFailed word) is = tt
early_write before now WriteFailed is = absurd is
early_write before now OutOfMemory is = tt
early_write before now (ModelRefused code line byte) is = tt
early_write before now (Beyond128 assertion) is = tt
early_write before now (PassRefused code assertion) is = tt

pub early_quiet : (sent : Option (List ℕ)) (status : Status) → IsEarly status → Quiet sent sent status
early_quiet sent Done is = absurd is
early_quiet sent (Refused r) is = refl
early_quiet sent (Usage u) is = refl
early_quiet sent (ReadFailed word) is = refl
early_quiet sent WriteFailed is = absurd is
early_quiet sent OutOfMemory is = refl
early_quiet sent (ModelRefused code line byte) is = refl
early_quiet sent (Beyond128 assertion) is = refl
early_quiet sent (PassRefused code assertion) is = refl

pub early_out : (rules : List Name) (ts : Texts) (sent flushed : Option (List ℕ)) (status : Status) (asked : Asked) → IsEarly status → OutFits rules ts sent sent flushed status asked
early_out rules ts sent flushed Done asked is = absurd is
early_out rules ts sent flushed (Refused r) asked is = refl
early_out rules ts sent flushed (Usage u) asked is = refl
early_out rules ts sent flushed (ReadFailed word) asked is = refl
early_out rules ts sent flushed WriteFailed asked is = absurd is
early_out rules ts sent flushed OutOfMemory asked is = refl
early_out rules ts sent flushed (ModelRefused code line byte) asked is = refl
early_out rules ts sent flushed (Beyond128 assertion) asked is = refl
early_out rules ts sent flushed (PassRefused code assertion) asked is = refl

pub early_promise : (ts : Texts) (before now : Option (List ℕ)) (status : Status) (asked : Asked) → IsEarly status → Promised ts before now status asked
early_promise ts before now Done asked is = absurd is
early_promise ts before now (Refused r) asked is = tt
early_promise ts before now (Usage u) asked is = tt
early_promise ts before now (ReadFailed word) asked is = tt
early_promise ts before now WriteFailed asked is = absurd is
early_promise ts before now OutOfMemory asked is = tt
early_promise ts before now (ModelRefused code line byte) asked is = tt
early_promise ts before now (Beyond128 assertion) asked is = tt
early_promise ts before now (PassRefused code assertion) asked is = tt

-- ---- completeness

none_rose : (before now : Word → ℕ) (word : ℕ) (o : Option Numbered) → RoseForModel before now word o → NoneRose before now o → ⊥
none_rose before now word None rose none = absurd rose
none_rose before now word (Some file) rose none = none rose.1

none_rose_of : (before now : Word → ℕ) (word : ℕ) (source : Source) → RoseForScript before now word source → NoneRoseOf before now source → ⊥
none_rose_of before now word (of_file file) rose none = none rose.1
none_rose_of before now word (drawn seed size) rose none = absurd rose

ended : (end : Option Status) (status : Status) → end ≡ None → end ≡ Some status → ⊥
ended end status fine is = absurd cc

module _ (before now : Word → ℕ) (asked : Asked) where
  -- a text that isn't refused, from devices that don't fail, wants memory alone
  memory_wanting : (end : Option Status) (status : Status) → IsEarly status → ReadFits before now status asked → EndFits end status → end ≡ None → NoneRoseOf before now (source_of asked) → NoneRose before now (model_file_of asked)
      → (status ≡ Done) ⊎ (status ≡ OutOfMemory)
  memory_wanting end Done early read fits fine script model = absurd early
  memory_wanting end (Refused r) early read fits fine script model = absurd (ended end (Refused r) fine fits)
  memory_wanting end (Usage u) early read fits fine script model = absurd (ended end (Usage u) fine fits)
  memory_wanting end (ReadFailed word) early (inl rose) fits fine script model = absurd (none_rose_of before now word (source_of asked) rose script)
  memory_wanting end (ReadFailed word) early (inr rose) fits fine script model = absurd (none_rose before now word (model_file_of asked) rose model)
  memory_wanting end WriteFailed early read fits fine script model = absurd early
  memory_wanting end OutOfMemory early read fits fine script model = inr refl
  memory_wanting end (ModelRefused code line byte) early read fits fine script model = absurd (ended end (ModelRefused code line byte) fine fits)
  memory_wanting end (Beyond128 assertion) early read fits fine script model = absurd (ended end (Beyond128 assertion) fine fits)
  memory_wanting end (PassRefused code assertion) early read fits fine script model = absurd (ended end (PassRefused code assertion) fine fits)

  pub early_complete : (ts : Texts) (faults faults_now : ℕ) (status : Status) → EndsBefore ts before now asked status → IsComplete ts before now faults faults_now status asked
  early_complete ts faults faults_now status is = by ts.script ts.model is.texts
    where
      by : (s m : Option (List ℕ)) → TextsFit (record { script = s; model = m }) status asked → IsComplete (record { script = s; model = m }) before now faults faults_now status asked
      by None m fits = tt
      by (Some b) None fits = tt
      by (Some b) (Some g) fits = λ fine script model written. memory_wanting (end_of asked b g) status is.early is.read fits fine script model
