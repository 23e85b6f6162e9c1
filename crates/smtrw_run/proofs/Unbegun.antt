-- A run that ends before it reads is a run like any other.
use Rattle.std.proofs.Common.{◌≡◌, ℕ, ◌⊎◌, inr, refl, sym, subst, List, Option, Some, None, Result, Ok, Err}
use Rattle.smt_io.specs.Counts.{Rose}
use Rattle.smt_io.specs.Told.{with_bytes}
use Rattle.smt_terms.specs.Sorts.{Name}
use Rattle.smtrw_answers.specs.declared.status.Usage.{Usage as UsageFault}
use Rattle.smtrw_answers.specs.declared.status.Status.{Status}
use Rattle.smtrw_answers.specs.declared.status.Status.TheVariants.{Done, Usage, OutOfMemory}
use Rattle.smtrw_answers.specs.Answers.{err_line}
use Rattle.smtrw_answers.specs.Said.{GotPrefix}
use Rattle.smtrw_answers.specs.declared.words.WordsFault.{WordsFault}
use Rattle.smtrw_answers.specs.declared.words.WordsFault.TheVariants.{Memory}
use Rattle.smtrw_answers.specs.Asked.{Answers}
use Rattle.smtrw_answers.specs.Words.{Asked, asked}
use Rattle.smtrw_run.specs.Run.{IsComplete, MayEnd, OutFits, Promised, Quiet, ReadFits, Texts, TextsFit, WhereAsked, WordsFit, WriteFits, texts_of}
use Rattle.smtrw_run.specs.WholeRun.{Sunk, IsRun, IsUnbegun}

-- what holds at both ends of such a run holds at the one that it has
at_either : (P : Status → Type 0) → ((fault : UsageFault) → P (Usage fault)) → P OutOfMemory → (r : Result Asked UsageFault) (status : Status) → IsUnbegun r status → P status
at_either P faulty short (Err fault) status is = subst P (sym is) (faulty fault)
at_either P faulty short (Ok a) status is = subst P (sym is) short

-- words without a fault may end it so
wanting : (r : Result Asked UsageFault) → Answers r (Err Memory) → IsUnbegun r OutOfMemory
wanting (Ok a) answers = refl
wanting (Err fault) answers = absurd cc

pub memory_wanting : (r : Result Asked UsageFault) (fault : WordsFault) → fault ≡ Memory → Answers r (Err fault) → IsUnbegun r OutOfMemory
memory_wanting r fault is answers = wanting r (subst (λ (f : WordsFault). Answers r (Err f)) is answers)

pub words_asked : (r : Result Asked UsageFault) (a : Asked) → r ≡ Ok a → IsUnbegun r OutOfMemory
words_asked r a is = subst (λ (x : Result Asked UsageFault). IsUnbegun x OutOfMemory) (sym is) refl

pub words : (r : Result Asked UsageFault) (status : Status) → IsUnbegun r status → WordsFit r status
words (Err fault) status is = is
words (Ok a) status is = subst (λ (s : Status). WordsFit (Ok a) s) (sym is) tt

-- words without a fault end it for want of memory
pub where_asked : (r : Result Asked UsageFault) (P : Status → Asked → Type 0) → ((a : Asked) → P OutOfMemory a) → (status : Status) → IsUnbegun r status → WhereAsked r (P status)
where_asked (Err fault) P short status is = tt
where_asked (Ok a) P short status is = subst (λ (s : Status). P s a) (sym is) (short a)

-- nothing is sent
pub unsent : (r : Result Asked UsageFault) (sent : Option (List ℕ)) → WhereAsked r (λ a. sent ≡ sent)
unsent (Err fault) sent = tt
unsent (Ok a) sent = refl

pub ends : (a : Asked) → MayEnd a OutOfMemory
ends a = tt

pub texts : (ts : Texts) (a : Asked) → TextsFit ts OutOfMemory a
texts ts a = by ts.script ts.model
  where
    by : (s m : Option (List ℕ)) → TextsFit (record { script = s; model = m }) OutOfMemory a
    by None m = tt
    by (Some b) None = tt
    by (Some b) (Some g) = tt

pub complete : (ts : Texts) (reads_before reads_now : List ℕ → ℕ) (before now : ℕ) (a : Asked) → IsComplete ts reads_before reads_now before now OutOfMemory a
complete ts reads_before reads_now before now a = by ts.script ts.model
  where
    by : (s m : Option (List ℕ)) → IsComplete (record { script = s; model = m }) reads_before reads_now before now OutOfMemory a
    by None m = tt
    by (Some b) None = tt
    by (Some b) (Some g) = λ fine script model written. inr refl

pub unbegun_run : (rules : List Name) (given : List (List ℕ)) (text : List ℕ → Option (List ℕ)) (before now : List ℕ → ℕ) (output errors errors_now : Sunk) (status : Status) → IsUnbegun (asked given) status → (status ≡ Done → errors_now.sent ≡ errors.sent) → GotPrefix errors.sent errors_now.sent (err_line status given)
    → Rose errors.faults errors_now.faults ⊎ (errors_now.sent ≡ with_bytes errors.sent (err_line status given)) → IsRun rules given text before now output output errors errors_now status
unbegun_run rules given text before now output errors errors_now status is silent prefix whole = record {
  words = words (asked given) status is;
  ends = where_asked (asked given) (λ s a. MayEnd a s) ends status is;
  read = where_asked (asked given) (λ s. ReadFits before now s) (λ a. tt) status is;
  write = at_either (λ s. WriteFits output.faults output.faults s) (λ fault. tt) tt (asked given) status is;
  texts = where_asked (asked given) (λ s a. TextsFit (texts_of text a) s a) (λ a. texts (texts_of text a) a) status is;
  out = where_asked (asked given) (λ s a. OutFits rules (texts_of text a) output.sent output.sent output.flushed s a) (λ a. refl) status is;
  quiet = at_either (λ s. Quiet output.sent output.sent s) (λ fault. refl) refl (asked given) status is;
  promise = where_asked (asked given) (λ s a. Promised (texts_of text a) output.sent output.sent s a) (λ a. tt) status is;
  complete = where_asked (asked given) (λ s a. IsComplete (texts_of text a) before now output.faults output.faults s a) (λ a. complete (texts_of text a) before now output.faults output.faults a) status is;
  silent = silent;
  prefix = prefix;
  whole = whole;
}

-- the same by what the devices are when the status is told, where they are as they were
pub unbegun_by : (rules : List Name) (given : List (List ℕ)) (text : List ℕ → Option (List ℕ)) (before now : List ℕ → ℕ) (output output_now errors errors_begun errors_now : Sunk) (status : Status) → output_now ≡ output → errors_begun ≡ errors → IsUnbegun (asked given) status
    → (status ≡ Done → errors_now.sent ≡ errors_begun.sent) → GotPrefix errors_begun.sent errors_now.sent (err_line status given) → Rose errors_begun.faults errors_now.faults ⊎ (errors_now.sent ≡ with_bytes errors_begun.sent (err_line status given))
    → IsRun rules given text before now output output_now errors errors_now status
unbegun_by rules given text before now output output_now errors errors_begun errors_now status unsent unsaid is silent prefix whole =
    subst (λ (o : Sunk). IsRun rules given text before now output o errors errors_now status) (sym unsent)
    (subst (λ (e : Sunk). IsRun rules given text before now output output e errors_now status) unsaid
    (unbegun_run rules given text before now output errors_begun errors_now status is silent prefix whole))
