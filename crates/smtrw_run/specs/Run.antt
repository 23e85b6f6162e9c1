-- What a run of the program may answer, and what it leaves behind at each answer, by what its words ask for.
use Rattle.std.specs.Prelude.{◌≡◌, ℕ, ◌<◌, ◌⊎◌, List, [], take, Option, Some, None, Result, Ok, Err}
use Rattle.smt_io.specs.Counts.{Rose}
use Rattle.smt_terms.specs.Sorts.{Name}
use Rattle.smt_io.specs.Told.{with_bytes}
use Rattle.smtrw_answers.specs.declared.status.Usage.{Usage as UsageFault}
use Rattle.smtrw_answers.specs.declared.status.Status.{Status}
use Rattle.smtrw_answers.specs.declared.status.Why.TheVariants.{NoSuchCheck}
use Rattle.smtrw_answers.specs.declared.status.Status.TheVariants.{Done, Refused, Usage, ReadFailed, WriteFailed, OutOfMemory, ModelRefused, Beyond128, PassRefused}
use Rattle.smtrw_answers.specs.Words.{Word, Numbered, Source, of_file, drawn, Asked, rewrite, translate, extend, blast, unblast, dimacs, answer, source_of, model_file_of}
use Rattle.smtrw_answers.specs.Endings.{or_later, script_end, check_end, passes_end, blasting_end, linking_end, end_of}
use Rattle.smtrw_answers.specs.Blasting.{IsBlasting}
use Rattle.smtrw_answers.specs.Linking.{IsLinking}
use Rattle.smtrw_answers.specs.Headline.{IsRewriting}
use Rattle.smtrw_answers.specs.Outputs.{demo_script}
use Rattle.smtrw_answers.specs.Written.{IsOutputOf}

-- ---- the words

-- of what the words ask for, where they ask for something
abbrev pub WhereAsked : Result Asked UsageFault → (Asked → Type 0) → Type 0
WhereAsked (Err fault) P = Unit {0}
WhereAsked (Ok asked) P = P asked

-- the commands that carry a model, one that is read or one that an answer stands for
abbrev pub CarriesModel : Asked → Type 0
CarriesModel (translate passes check script model) = Unit {0}
CarriesModel (extend passes check script model) = Unit {0}
CarriesModel (unblast passes check script model) = Unit {0}
CarriesModel (answer passes check script text) = Unit {0}
CarriesModel _ = ⊥

-- the commands that run passes
abbrev pub RunsPasses : Asked → Type 0
RunsPasses (rewrite passes layout script) = Unit {0}
RunsPasses (blast passes check script) = Unit {0}
RunsPasses (dimacs passes check script) = Unit {0}
RunsPasses asked = CarriesModel asked

-- the commands that make a check over bit vectors one over truth values
abbrev pub BlastsCheck : Asked → Type 0
BlastsCheck (blast passes check script) = Unit {0}
BlastsCheck (unblast passes check script model) = Unit {0}
BlastsCheck _ = ⊥

-- the commands that take a check for clauses
abbrev pub LinksCheck : Asked → Type 0
LinksCheck (dimacs passes check script) = Unit {0}
LinksCheck (answer passes check script text) = Unit {0}
LinksCheck _ = ⊥

-- the check that is asked for is missing: there are fewer
abbrev pub IsMissing : ℕ → UsageFault → Type 0
IsMissing check fault = (n : ℕ) × (fault ≡ record { word = 0; why = NoSuchCheck check n }) × (n < check)

abbrev pub MissesCheck : Asked → UsageFault → Type 0
MissesCheck (translate passes check script model) fault = IsMissing check fault
MissesCheck (extend passes check script model) fault = IsMissing check fault
MissesCheck (blast passes check script) fault = IsMissing check fault
MissesCheck (unblast passes check script model) fault = IsMissing check fault
MissesCheck (dimacs passes check script) fault = IsMissing check fault
MissesCheck (answer passes check script text) fault = IsMissing check fault
MissesCheck _ fault = ⊥

-- `Usage` comes exactly where the words have a fault, and is that one; else it says of no word that the check is missing
abbrev pub WordsFit : Result Asked UsageFault → Status → Type 0
WordsFit (Err fault) status = status ≡ Usage fault
WordsFit (Ok asked) (Usage fault) = MissesCheck asked fault
WordsFit (Ok asked) _ = Unit {0}

-- a model is refused, and a value or a width of a term, only where a model is carried; a pass refuses only where passes are run, and what
-- isn't over bits only where a check is made one over truth values, and what is no clause only where a check is taken for clauses
abbrev pub MayEnd : Asked → Status → Type 0
MayEnd asked (ModelRefused code line byte) = CarriesModel asked
MayEnd asked (Beyond128 assertion) = CarriesModel asked
MayEnd asked (PassRefused code assertion) = ((code ≡ 50) × RunsPasses asked) ⊎ (((code ≡ 71) × CarriesModel asked) ⊎ (((code ≡ 90) × BlastsCheck asked) ⊎ ((code ≡ 96) × LinksCheck asked)))
MayEnd asked _ = Unit {0}

-- ---- the texts that the words name

-- each where it is told: a script that is made always is, and a command that reads no model has an empty one
pub record Texts : Type 0 where
  pub script : Option (List ℕ)
  pub model : Option (List ℕ)

abbrev pub model_text_of : Option Numbered → (Word → Option (List ℕ)) → Option (List ℕ)
model_text_of None text = Some []
model_text_of (Some file) text = text file.word

abbrev pub script_text_of : Source → (Word → Option (List ℕ)) → Option (List ℕ)
script_text_of (of_file file) text = text file.word
script_text_of (drawn seed size) text = Some (demo_script seed size)

abbrev pub texts_of : (Word → Option (List ℕ)) → Asked → Texts
texts_of text asked = record { script = script_text_of (source_of asked) text; model = model_text_of (model_file_of asked) text }

-- of both texts, where they are told
abbrev pub WhereTold : Texts → (List ℕ → List ℕ → Type 0) → Type 0
WhereTold ts P = elim ts.script [ None ↦ Unit {0} | Some b ↦ elim ts.model [ None ↦ Unit {0} | Some g ↦ P b g ] ]

-- ---- devices

-- of the file at a word, the count of faults rose
abbrev pub RoseFor : (Word → ℕ) → (Word → ℕ) → ℕ → Numbered → Type 0
RoseFor before now word file = (word ≡ file.number) × Rose (before file.word) (now file.word)

abbrev pub RoseForScript : (Word → ℕ) → (Word → ℕ) → ℕ → Source → Type 0
RoseForScript before now word (of_file file) = RoseFor before now word file
RoseForScript before now word (drawn seed size) = ⊥

abbrev pub RoseForModel : (Word → ℕ) → (Word → ℕ) → ℕ → Option Numbered → Type 0
RoseForModel before now word None = ⊥
RoseForModel before now word (Some file) = RoseFor before now word file

-- `ReadFailed` comes only where the count of faults rose that the inputs have for the file at its word
abbrev pub ReadFits : (Word → ℕ) → (Word → ℕ) → Status → Asked → Type 0
ReadFits before now (ReadFailed word) asked = RoseForScript before now word (source_of asked) ⊎ RoseForModel before now word (model_file_of asked)
ReadFits before now _ asked = Unit {0}

-- `WriteFailed` comes only where the output's count of faults rose
abbrev pub WriteFits : ℕ → ℕ → Status → Type 0
WriteFits before now WriteFailed = Rose before now
WriteFits before now _ = Unit {0}

-- ---- how it ends by its texts

abbrev pub check_end_of : Asked → List ℕ → Option Status
check_end_of (translate passes check script model) b = check_end b check
check_end_of (extend passes check script model) b = check_end b check
check_end_of (blast passes check script) b = check_end b check
check_end_of (unblast passes check script model) b = check_end b check
check_end_of (dimacs passes check script) b = check_end b check
check_end_of (answer passes check script text) b = check_end b check
check_end_of _ b = None

-- with the bits, where the check is made one over truth values, and with the clauses, where it is taken for these
abbrev pub passes_end_of : Asked → List ℕ → Option Status
passes_end_of (rewrite passes layout script) b = passes_end b passes
passes_end_of (translate passes check script model) b = passes_end b passes
passes_end_of (extend passes check script model) b = passes_end b passes
passes_end_of (blast passes check script) b = blasting_end b passes check
passes_end_of (unblast passes check script model) b = blasting_end b passes check
passes_end_of (dimacs passes check script) b = linking_end b passes check
passes_end_of (answer passes check script text) b = linking_end b passes check
passes_end_of _ b = None

-- before a model is read
abbrev pub early_end : Asked → List ℕ → Option Status
early_end asked b = or_later (script_end b) (or_later (check_end_of asked b) (passes_end_of asked b))

-- a told script is refused exactly where it is too long or isn't accepted, and so; a check is missing exactly where it has fewer,
-- and a pass refuses exactly where it meets what it refuses, or where a live term isn't one over bits, or no clause
abbrev pub ScriptFits : Asked → List ℕ → Status → Type 0
ScriptFits asked b (Refused r) = early_end asked b ≡ Some (Refused r)
ScriptFits asked b (Usage u) = early_end asked b ≡ Some (Usage u)
ScriptFits asked b (PassRefused code assertion) = (early_end asked b ≡ Some (PassRefused code assertion)) ⊎ ((code ≡ 71) × (early_end asked b ≡ None))
ScriptFits asked b (ReadFailed word) = Unit {0}
ScriptFits asked b OutOfMemory = Unit {0}
ScriptFits asked b _ = early_end asked b ≡ None

-- the same with a told model: the run ends as the texts say
abbrev pub EndFits : Option Status → Status → Type 0
EndFits end Done = end ≡ None
EndFits end WriteFailed = end ≡ None
EndFits end (ReadFailed word) = Unit {0}
EndFits end OutOfMemory = Unit {0}
EndFits end status = end ≡ Some status

abbrev pub TextsFit : Texts → Status → Asked → Type 0
TextsFit ts status asked =
    elim ts.script [ None ↦ Unit {0} | Some b ↦ elim ts.model [ None ↦ ScriptFits asked b status | Some g ↦ EndFits (end_of asked b g) status ] ]

-- ---- the output

-- at `Done` the whole text was sent and flushed, at `WriteFailed` a prefix of it was sent, and else nothing
abbrev pub OutFits : List Name → Texts → Option (List ℕ) → Option (List ℕ) → Option (List ℕ) → Status → Asked → Type 0
OutFits rules ts before now flushed Done asked =
    (w : List ℕ) × WhereTold ts (λ b g. IsOutputOf rules asked b g w) × (now ≡ with_bytes before w) × (flushed ≡ now)
OutFits rules ts before now flushed WriteFailed asked =
    (w : List ℕ) × WhereTold ts (λ b g. IsOutputOf rules asked b g w) × ((n : ℕ) × (now ≡ with_bytes before (take n w)))
OutFits rules ts before now flushed _ asked = now ≡ before

-- at any other status nothing was sent
abbrev pub Quiet : Option (List ℕ) → Option (List ℕ) → Status → Type 0
Quiet before now Done = Unit {0}
Quiet before now WriteFailed = Unit {0}
Quiet before now _ = now ≡ before

-- what was sent of a told script at `Done` is a rewriting of it by the passes, or what takes the place of its check behind them, or the
-- check's clauses
abbrev pub Promised : Texts → Option (List ℕ) → Option (List ℕ) → Status → Asked → Type 0
Promised ts before now Done (rewrite passes layout file) =
    elim ts.script [ None ↦ Unit {0} | Some b ↦ (w : List ℕ) × (now ≡ with_bytes before w) × IsRewriting b passes w ]
Promised ts before now Done (blast passes check file) =
    elim ts.script [ None ↦ Unit {0} | Some b ↦ (w : List ℕ) × (now ≡ with_bytes before w) × IsBlasting b passes check w ]
Promised ts before now Done (dimacs passes check file) =
    elim ts.script [ None ↦ Unit {0} | Some b ↦ (w : List ℕ) × (now ≡ with_bytes before w) × IsLinking b passes check w ]
Promised ts before now status asked = Unit {0}

abbrev pub NoneRose : (Word → ℕ) → (Word → ℕ) → Option Numbered → Type 0
NoneRose before now None = Unit {0}
NoneRose before now (Some file) = Rose (before file.word) (now file.word) → ⊥

abbrev pub NoneRoseOf : (Word → ℕ) → (Word → ℕ) → Source → Type 0
NoneRoseOf before now (of_file file) = NoneRose before now (Some file)
NoneRoseOf before now (drawn seed size) = Unit {0}

-- told texts that aren't refused are answered, where no device fails and memory is there
abbrev pub IsComplete : Texts → (Word → ℕ) → (Word → ℕ) → ℕ → ℕ → Status → Asked → Type 0
IsComplete ts reads_before reads_now before now status asked =
    WhereTold ts
    (λ b g. end_of asked b g ≡ None → NoneRoseOf reads_before reads_now (source_of asked) → NoneRose reads_before reads_now (model_file_of asked) →
    (Rose before now → ⊥) → (status ≡ Done) ⊎ (status ≡ OutOfMemory))
