-- All that is known of a run of the program, by what it was given and by what the devices tell before and now.
use Rattle.std.specs.Prelude.{◌≡◌, ℕ, ◌⊎◌, List, Option, Result, Ok, Err}
use Rattle.smt_io.specs.Counts.{Rose}
use Rattle.smt_io.specs.Told.{with_bytes}
use Rattle.smt_terms.specs.Sorts.{Name}
use Rattle.smtrw_answers.specs.declared.status.Usage.{Usage as UsageFault}
use Rattle.smtrw_answers.specs.declared.status.Status.{Status}
use Rattle.smtrw_answers.specs.declared.status.Status.TheVariants.{Done, Usage, OutOfMemory}
use Rattle.smtrw_answers.specs.Answers.{err_line}
use Rattle.smtrw_answers.specs.Said.{GotPrefix}
use Rattle.smtrw_answers.specs.Words.{Asked, asked}
use Rattle.smtrw_run.specs.Run.{IsComplete, MayEnd, OutFits, Promised, Quiet, ReadFits, TextsFit, WhereAsked, WordsFit, WriteFits, texts_of}

-- a sink at one time: what was sent, what had been sent at its last flush, and the count of its faults
pub record Sunk : Type 0 where
  pub sent : Option (List ℕ)
  pub flushed : Option (List ℕ)
  pub faults : ℕ

-- a run with stored rules of these names, on these words and on the texts of names, with the counts of their faults
pub record IsRun (rules : List Name) (given : List (List ℕ)) (text : List ℕ → Option (List ℕ)) (before now : List ℕ → ℕ) (output output_now errors errors_now : Sunk) (status : Status) : Type 0 where
  pub words : WordsFit (asked given) status
  pub ends : WhereAsked (asked given) (λ a. MayEnd a status)
  pub read : WhereAsked (asked given) (ReadFits before now status)
  pub write : WriteFits output.faults output_now.faults status
  pub texts : WhereAsked (asked given) (λ a. TextsFit (texts_of text a) status a)
  pub out : WhereAsked (asked given) (λ a. OutFits rules (texts_of text a) output.sent output_now.sent output_now.flushed status a)
  pub quiet : Quiet output.sent output_now.sent status
  pub promise : WhereAsked (asked given) (λ a. Promised (texts_of text a) output.sent output_now.sent status a)
  pub complete : WhereAsked (asked given) (λ a. IsComplete (texts_of text a) before now output.faults output_now.faults status a)
  pub silent : status ≡ Done → errors_now.sent ≡ errors.sent
  pub prefix : GotPrefix errors.sent errors_now.sent (err_line status given)
  pub whole : Rose errors.faults errors_now.faults ⊎ (errors_now.sent ≡ with_bytes errors.sent (err_line status given))

-- how a run ends that has no memory to begin: a fault of the words still counts first
abbrev pub IsUnbegun : Result Asked UsageFault → Status → Type 0
IsUnbegun (Err fault) status = status ≡ Usage fault
IsUnbegun (Ok asked) status = status ≡ OutOfMemory
