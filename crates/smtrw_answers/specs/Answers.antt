-- The line that the program writes to its error output where it doesn't end well.
use Rattle.std.specs.Prelude.{ℕ, ◌==◌, ◌-◌, if◌then◌else◌, List, [], ◌∷◌, ◌++◌, codes, slice_get, unwrap_or}
use Rattle.smt_lex.specs.Lexicon.{line_feed}
use Rattle.smt_terms.specs.Numeral.{numeral}
use Rattle.smtrw_answers.specs.declared.status.Why.{Why}
use Rattle.smtrw_answers.specs.declared.status.Why.TheVariants.{Missing, UnknownCommand, BadOption, Repeated, BadValue, BadPass, AfterRules, Extra, TwoInputs, NoSuchCheck}
use Rattle.smtrw_answers.specs.declared.status.Status.{Status}
use Rattle.smtrw_answers.specs.declared.status.Status.TheVariants.{Done, Refused, Usage, ReadFailed, WriteFailed, OutOfMemory, ModelRefused, Beyond128, PassRefused}
use Rattle.smtrw_answers.specs.Words.{Word}

abbrev pub number_of : Status → ℕ
number_of Done = 0
number_of (Refused r) = 1
number_of (Usage u) = 2
number_of (ReadFailed word) = 3
number_of WriteFailed = 4
number_of OutOfMemory = 5
number_of (ModelRefused code line byte) = 6
number_of (Beyond128 assertion) = 7
number_of (PassRefused code assertion) = 8

-- ---- the names of causes, by their numbers

abbrev pub cause_names : List (ℕ × Word)
cause_names =
    (2, codes "TooLong")
    ∷ (10, codes "BadByte") ∷ (11, codes "BadToken") ∷ (12, codes "OpenText") ∷ (13, codes "Unbalanced")
    ∷ (20, codes "WrongArity") ∷ (21, codes "WrongSort") ∷ (22, codes "WidthLimit") ∷ (23, codes "BadIndex")
    ∷ (30, codes "UnknownCommand") ∷ (31, codes "UnsupportedCommand") ∷ (32, codes "BadForm") ∷ (33, codes "UnknownName")
    ∷ (34, codes "Redeclared") ∷ (35, codes "ReservedName") ∷ (36, codes "PopTooFar") ∷ (37, codes "NumberLimit")
    ∷ (38, codes "RealSort") ∷ (39, codes "QuantifiedSort") ∷ (40, codes "IndexSort") ∷ (41, codes "SortArity")
    ∷ (42, codes "UnsupportedOption")
    ∷ (50, codes "QuantifiedUse")
    ∷ (60, codes "ModelForm") ∷ (61, codes "ModelSort") ∷ (62, codes "NotATable") ∷ (63, codes "ModelNumber") ∷ (64, codes "ModelTwice")
    ∷ (71, codes "EvalWidth")
    ∷ (90, codes "NotBits")
    ∷ (95, codes "DimacsForm") ∷ (96, codes "NotClauses")
    ∷ []

abbrev pub name_among : List (ℕ × Word) → ℕ → Word
name_among [] code = []
name_among (p ∷ ps) code = if p.0 == code then p.1 else name_among ps code

unfoldable pub cause_name : ℕ → Word
cause_name code = name_among cause_names code

-- ---- lines

-- the number and the name of a cause
abbrev pub cause_text : ℕ → List ℕ
cause_text code = numeral code ++ codes " " ++ cause_name code

abbrev pub place_text : ℕ → ℕ → List ℕ
place_text line byte = codes "line " ++ numeral line ++ codes ", byte " ++ numeral byte

abbrev pub program_line : List ℕ → List ℕ
program_line text = codes "smtrw: " ++ text ++ line_feed ∷ []

abbrev pub word_text : ℕ → Word → List ℕ
word_text word name = codes "usage: word " ++ numeral word ++ codes ": " ++ name

abbrev pub usage_text : ℕ → Why → List ℕ
usage_text word Missing = word_text word (codes "Missing")
usage_text word UnknownCommand = word_text word (codes "UnknownCommand")
usage_text word BadOption = word_text word (codes "BadOption")
usage_text word Repeated = word_text word (codes "Repeated")
usage_text word BadValue = word_text word (codes "BadValue")
usage_text word BadPass = word_text word (codes "BadPass")
usage_text word AfterRules = word_text word (codes "AfterRules")
usage_text word Extra = word_text word (codes "Extra")
usage_text word TwoInputs = word_text word (codes "TwoInputs")
usage_text word (NoSuchCheck check checks) = codes "usage: check " ++ numeral check ++ codes " of " ++ numeral checks

-- the word of a number, counted from 1
abbrev pub word_at : List Word → ℕ → Word
word_at words i = unwrap_or (slice_get words (i - 1)) []

-- the line for a status and the program's words; none where it ended well
abbrev pub err_line : Status → List Word → List ℕ
err_line Done words = []
err_line (Refused r) words =
    program_line (codes "script refused: " ++ cause_text r.code ++ codes " at command " ++ numeral r.command ++ codes ", " ++ place_text r.line r.byte)
err_line (Usage u) words = program_line (usage_text u.word u.why)
err_line (ReadFailed word) words = program_line (codes "reading " ++ word_at words word ++ codes " failed")
err_line WriteFailed words = program_line (codes "writing failed")
err_line OutOfMemory words = program_line (codes "out of memory")
err_line (ModelRefused code line byte) words = program_line (codes "model refused: " ++ cause_text code ++ codes " at " ++ place_text line byte)
err_line (Beyond128 assertion) words = program_line (codes "value beyond 128 bits in assertion " ++ numeral assertion)
err_line (PassRefused code assertion) words = program_line (codes "pass refused: " ++ cause_text code ++ codes " in assertion " ++ numeral assertion)
