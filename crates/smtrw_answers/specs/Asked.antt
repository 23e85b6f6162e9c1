-- What the program's code answers to its words.
use Rattle.std.specs.Prelude.{◌≡◌, ◌≤◌, ℕ, false, Result, Ok, Err, IsOk}
use Rattle.std.specs.List.{list_any}
use Rattle.smtrw_answers.specs.declared.status.Usage.{Usage as UsageFault}
use Rattle.smtrw_answers.specs.declared.words.File.{File}
use Rattle.smtrw_answers.specs.declared.words.Asked.{Asked}
use Rattle.smtrw_answers.specs.declared.words.Asked.TheVariants.{Rewrite, Translate, Extend, Blast, Unblast, Dimacs, Answer, Stats, Demo}
use Rattle.smtrw_answers.specs.declared.words.Source.{Source}
use Rattle.smtrw_answers.specs.declared.words.Source.TheVariants.{File as FromFile, Drawn}
use Rattle.smtrw_answers.specs.declared.words.Carried.{Carried}
use Rattle.smtrw_answers.specs.declared.words.Checked.{Checked}
use Rattle.smtrw_answers.specs.declared.words.WordsFault.{WordsFault}
use Rattle.smtrw_answers.specs.declared.words.WordsFault.TheVariants.{Usage, Memory}
use Rattle.smtrw_answers.specs.Words.{Numbered, Source as ScriptSource, of_file, drawn, is_rules, greatest_size, Asked as AskedFor, rewrite, translate, extend, blast, unblast, dimacs, answer, stats, demo}

-- the word of a file, with its number
abbrev pub numbered : File → Numbered
numbered f = record { number = f.word; word = f.name.now }

-- what the code says is asked for, in the definition's words
abbrev pub asked_seen : Asked → AskedFor
asked_seen (Rewrite ps l f) = rewrite ps l (numbered f)
asked_seen (Translate c) = translate c.passes c.check (numbered c.script) (numbered c.model)
asked_seen (Extend c) = extend c.passes c.check (numbered c.script) (numbered c.model)
asked_seen (Blast c) = blast c.passes c.check (numbered c.script)
asked_seen (Unblast c) = unblast c.passes c.check (numbered c.script) (numbered c.model)
asked_seen (Dimacs c) = dimacs c.passes c.check (numbered c.script)
asked_seen (Answer c) = answer c.passes c.check (numbered c.script) (numbered c.model)
asked_seen (Stats f) = stats (numbered f)
asked_seen (Demo seed size) = demo seed size

abbrev pub source_seen : Source → ScriptSource
source_seen (FromFile f) = of_file (numbered f)
source_seen (Drawn seed size) = drawn seed size

-- exactly what is asked for, or exactly the first fault; memory may be wanting only where there is no fault
abbrev pub Answers : Result AskedFor UsageFault → Result Asked WordsFault → Type 0
Answers r (Ok a) = r ≡ Ok (asked_seen a)
Answers r (Err (Usage u)) = r ≡ Err u
Answers r (Err Memory) = IsOk r

-- ---- what `translate`, `extend`, `unblast` and `answer` have in common

-- the numbers of the words of the script and of the model
abbrev pub CarriesFiles : ℕ → ℕ → Result AskedFor UsageFault → Type 0
CarriesFiles script model (Ok (translate ps k s m)) = (s.number ≡ script) × (m.number ≡ model)
CarriesFiles script model (Ok (extend ps k s m)) = (s.number ≡ script) × (m.number ≡ model)
CarriesFiles script model (Ok (unblast ps k s m)) = (s.number ≡ script) × (m.number ≡ model)
CarriesFiles script model (Ok (answer ps k s a)) = (s.number ≡ script) × (a.number ≡ model)
CarriesFiles script model _ = ⊥

abbrev pub IsCarried : AskedFor → Carried → Type 0
IsCarried (translate ps k s m) c = (ps ≡ c.passes) × (k ≡ c.check) × (s ≡ numbered c.script) × (m ≡ numbered c.model)
IsCarried (extend ps k s m) c = (ps ≡ c.passes) × (k ≡ c.check) × (s ≡ numbered c.script) × (m ≡ numbered c.model)
IsCarried (unblast ps k s m) c = (ps ≡ c.passes) × (k ≡ c.check) × (s ≡ numbered c.script) × (m ≡ numbered c.model)
IsCarried (answer ps k s a) c = (ps ≡ c.passes) × (k ≡ c.check) × (s ≡ numbered c.script) × (a ≡ numbered c.model)
IsCarried _ c = ⊥

-- exactly the values of the words, or want of memory
abbrev pub GivesCarried : Result AskedFor UsageFault → Result Carried WordsFault → Type 0
GivesCarried (Ok a) (Ok c) = IsCarried a c
GivesCarried (Ok a) (Err e) = e ≡ Memory
GivesCarried (Err u) r = ⊥

-- ---- what `blast` and `dimacs` have in common

-- the number of the word of the script
abbrev pub ChecksFile : ℕ → Result AskedFor UsageFault → Type 0
ChecksFile script (Ok (blast ps k f)) = f.number ≡ script
ChecksFile script (Ok (dimacs ps k f)) = f.number ≡ script
ChecksFile script _ = ⊥

abbrev pub IsChecked : AskedFor → Checked → Type 0
IsChecked (blast ps k f) c = (ps ≡ c.passes) × (k ≡ c.check) × (f ≡ numbered c.script)
IsChecked (dimacs ps k f) c = (ps ≡ c.passes) × (k ≡ c.check) × (f ≡ numbered c.script)
IsChecked _ c = ⊥

-- exactly the values of the words, or want of memory
abbrev pub GivesChecked : Result AskedFor UsageFault → Result Checked WordsFault → Type 0
GivesChecked (Ok a) (Ok c) = IsChecked a c
GivesChecked (Ok a) (Err e) = e ≡ Memory
GivesChecked (Err u) r = ⊥

-- ---- ranges

-- checks are counted from 1, no stored rules are among the passes of what is made of bits or clauses, and a demonstration has at least
-- one step and at most so many
abbrev pub IsInRange : AskedFor → Type 0
IsInRange (translate ps k s m) = 1 ≤ k
IsInRange (extend ps k s m) = 1 ≤ k
IsInRange (blast ps k f) = (1 ≤ k) × (list_any is_rules ps ≡ false)
IsInRange (unblast ps k s m) = (1 ≤ k) × (list_any is_rules ps ≡ false)
IsInRange (dimacs ps k f) = (1 ≤ k) × (list_any is_rules ps ≡ false)
IsInRange (answer ps k s a) = (1 ≤ k) × (list_any is_rules ps ≡ false)
IsInRange (demo seed size) = (1 ≤ size) × (size ≤ greatest_size)
IsInRange _ = Unit {0}
