-- A run that sends what was prepared.
use Rattle.std.proofs.Common.{refl, ℕ, inl, List, Option, Some, None, Ok}
use Rattle.smt_terms.specs.Sorts.{Name}
use Rattle.smtrw_answers.specs.declared.status.Status.{Status}
use Rattle.smtrw_answers.specs.declared.status.Status.TheVariants.{Done, Refused, Usage, ReadFailed, WriteFailed, OutOfMemory, ModelRefused, Beyond128, PassRefused}
use Rattle.smtrw_answers.specs.Words.{Word, Asked, rewrite, translate, extend, blast, unblast, dimacs, answer, stats, demo}
use Rattle.smtrw_run.specs.Prepared.{Delivers, IsPrepared, Promises}
use Rattle.smtrw_run.specs.Run.{IsComplete, MayEnd, OutFits, Promised, Quiet, ReadFits, Texts, TextsFit, WordsFit, WriteFits}

-- the ends of a run that sends
abbrev IsSent : Status → Type 0
IsSent Done = Unit {0}
IsSent WriteFailed = Unit {0}
IsSent _ = ⊥

sent : (before now flushed : Option (List ℕ)) (w : List ℕ) (status : Status) → Delivers before now flushed w status → IsSent status
sent before now flushed w Done is = tt
sent before now flushed w (Refused r) is = is
sent before now flushed w (Usage u) is = is
sent before now flushed w (ReadFailed word) is = is
sent before now flushed w WriteFailed is = tt
sent before now flushed w OutOfMemory is = is
sent before now flushed w (ModelRefused code line byte) is = is
sent before now flushed w (Beyond128 assertion) is = is
sent before now flushed w (PassRefused code assertion) is = is

-- what holds of both ends holds of each
at_either : (P : Status → Type 0) → P Done → P WriteFailed → (status : Status) → IsSent status → P status
at_either P done failed Done is = done
at_either P done failed (Refused r) is = absurd is
at_either P done failed (Usage u) is = absurd is
at_either P done failed (ReadFailed word) is = absurd is
at_either P done failed WriteFailed is = failed
at_either P done failed OutOfMemory is = absurd is
at_either P done failed (ModelRefused code line byte) is = absurd is
at_either P done failed (Beyond128 assertion) is = absurd is
at_either P done failed (PassRefused code assertion) is = absurd is

failed_alike : (asked : Asked) (s m : Option (List ℕ)) → TextsFit (record { script = s; model = m }) Done asked → TextsFit (record { script = s; model = m }) WriteFailed asked
failed_alike asked None m fits = tt
failed_alike asked (Some b) None fits = fits
failed_alike asked (Some b) (Some g) fits = fits

module _ (rules : List Name) (ts : Texts) (asked : Asked) (before now flushed : Option (List ℕ)) (w : List ℕ) (prepared : IsPrepared rules ts asked w) (status : Status) (sends : Delivers before now flushed w status) where
  pub sent_words : WordsFit (Ok asked) status
  sent_words = at_either (WordsFit (Ok asked)) tt tt status (sent before now flushed w status sends)

  pub sent_ends : MayEnd asked status
  sent_ends = at_either (MayEnd asked) tt tt status (sent before now flushed w status sends)

  pub sent_read : (faults faults_now : Word → ℕ) → ReadFits faults faults_now status asked
  sent_read faults faults_now = at_either (λ s. ReadFits faults faults_now s asked) tt tt status (sent before now flushed w status sends)

  pub sent_texts : TextsFit ts status asked
  sent_texts = at_either (λ s. TextsFit ts s asked) prepared.texts (failed_alike asked ts.script ts.model prepared.texts) status (sent before now flushed w status sends)

  pub sent_quiet : Quiet before now status
  sent_quiet = at_either (Quiet before now) tt tt status (sent before now flushed w status sends)

  out : (s : Status) → Delivers before now flushed w s → OutFits rules ts before now flushed s asked
  out Done is = (w, prepared.output, is.0, is.1)
  out WriteFailed is = (w, prepared.output, is)
  out (Refused r) is = absurd is
  out (Usage u) is = absurd is
  out (ReadFailed word) is = absurd is
  out OutOfMemory is = absurd is
  out (ModelRefused code line byte) is = absurd is
  out (Beyond128 assertion) is = absurd is
  out (PassRefused code assertion) is = absurd is

  pub sent_out : OutFits rules ts before now flushed status asked
  sent_out = out status sends

  kept : (s : Option (List ℕ)) (a : Asked) → Promises s a w → Delivers before now flushed w Done → Promised (record { script = s; model = ts.model }) before now Done a
  kept None (rewrite passes layout file) promises is = tt
  kept (Some b) (rewrite passes layout file) promises is = (w, is.0, promises)
  kept s (translate passes check file model) promises is = tt
  kept s (extend passes check file model) promises is = tt
  kept None (blast passes check file) promises is = tt
  kept (Some b) (blast passes check file) promises is = (w, is.0, promises)
  kept s (unblast passes check file model) promises is = tt
  kept None (dimacs passes check file) promises is = tt
  kept (Some b) (dimacs passes check file) promises is = (w, is.0, promises)
  kept s (answer passes check file text) promises is = tt
  kept s (stats file) promises is = tt
  kept s (demo seed size) promises is = tt

  promise : (s : Status) → Delivers before now flushed w s → Promised ts before now s asked
  promise Done is = kept ts.script asked prepared.promise is
  promise WriteFailed is = tt
  promise (Refused r) is = absurd is
  promise (Usage u) is = absurd is
  promise (ReadFailed word) is = absurd is
  promise OutOfMemory is = absurd is
  promise (ModelRefused code line byte) is = absurd is
  promise (Beyond128 assertion) is = absurd is
  promise (PassRefused code assertion) is = absurd is

  pub sent_promise : Promised ts before now status asked
  sent_promise = promise status sends

  all_answered : (reads reads_now : Word → ℕ) (writes writes_now : ℕ) (s : Status) → IsSent s → WriteFits writes writes_now s → (m n : Option (List ℕ)) → IsComplete (record { script = m; model = n }) reads reads_now writes writes_now s asked
  all_answered reads reads_now writes writes_now s is write None n = tt
  all_answered reads reads_now writes writes_now s is write (Some b) None = tt
  all_answered reads reads_now writes writes_now Done is write (Some b) (Some g) = λ fine script model written. inl refl
  all_answered reads reads_now writes writes_now WriteFailed is write (Some b) (Some g) = λ fine script model written. absurd (written write)
  all_answered reads reads_now writes writes_now (Refused r) is write (Some b) (Some g) = absurd is
  all_answered reads reads_now writes writes_now (Usage u) is write (Some b) (Some g) = absurd is
  all_answered reads reads_now writes writes_now (ReadFailed word) is write (Some b) (Some g) = absurd is
  all_answered reads reads_now writes writes_now OutOfMemory is write (Some b) (Some g) = absurd is
  all_answered reads reads_now writes writes_now (ModelRefused code line byte) is write (Some b) (Some g) = absurd is
  all_answered reads reads_now writes writes_now (Beyond128 assertion) is write (Some b) (Some g) = absurd is
  all_answered reads reads_now writes writes_now (PassRefused code assertion) is write (Some b) (Some g) = absurd is

  pub sent_complete : (reads reads_now : Word → ℕ) (writes writes_now : ℕ) → WriteFits writes writes_now status → IsComplete ts reads reads_now writes writes_now status asked
  sent_complete reads reads_now writes writes_now write = all_answered reads reads_now writes writes_now status (sent before now flushed w status sends) write ts.script ts.model
