-- Worked rows of the lines to the error output.
use Rattle.std.specs.Prelude.{◌≡◌, ℕ, List, [], ◌∷◌, map, codes, refl}
use Rattle.smtrw_answers.specs.declared.status.Why.{Why}
use Rattle.smtrw_answers.specs.declared.status.Why.TheVariants.{Missing, UnknownCommand, BadOption, Repeated, BadValue, BadPass, AfterRules, Extra, TwoInputs, NoSuchCheck}
use Rattle.smtrw_answers.specs.declared.status.Status.{Status}
use Rattle.smtrw_answers.specs.declared.status.Status.TheVariants.{Done, Refused, Usage, ReadFailed, WriteFailed, OutOfMemory, ModelRefused, Beyond128, PassRefused}
use Rattle.smtrw_answers.specs.Answers.{cause_name, number_of, err_line}

abbrev words : List (List ℕ)
words = map codes ("extend" ∷ "script.smt2" ∷ "model.txt" ∷ [])

abbrev refused : ℕ → ℕ → ℕ → ℕ → Status
refused code command line byte = Refused (record { code = code; command = command; line = line; byte = byte })

abbrev usage : ℕ → Why → Status
usage word why = Usage (record { word = word; why = why })

ended_well : err_line Done words ≡ []
ended_well = refl

-- ---- refusals of the script

popped_too_far : err_line (refused 36 2 2 9) words ≡ codes "smtrw: script refused: 36 PopTooFar at command 2, line 2, byte 9\n"
unfolding cause_name
popped_too_far = refl

too_long : err_line (refused 2 0 0 67108864) words ≡ codes "smtrw: script refused: 2 TooLong at command 0, line 0, byte 67108864\n"
unfolding cause_name
too_long = refl

bad_byte : err_line (refused 10 0 1 2) words ≡ codes "smtrw: script refused: 10 BadByte at command 0, line 1, byte 2\n"
unfolding cause_name
bad_byte = refl

not_closed : err_line (refused 13 0 1 9) words ≡ codes "smtrw: script refused: 13 Unbalanced at command 0, line 1, byte 9\n"
unfolding cause_name
not_closed = refl

names_of_causes : map cause_name (11 ∷ 12 ∷ 20 ∷ 21 ∷ 22 ∷ 23 ∷ 30 ∷ 31 ∷ 32 ∷ 33 ∷ 34 ∷ 35 ∷ 37 ∷ 38 ∷ 39 ∷ 40 ∷ 41 ∷ 42 ∷ []) ≡ map codes ("BadToken" ∷ "OpenText" ∷ "WrongArity" ∷ "WrongSort" ∷ "WidthLimit" ∷ "BadIndex" ∷ "UnknownCommand" ∷ "UnsupportedCommand" ∷ "BadForm" ∷ "UnknownName" ∷ "Redeclared" ∷ "ReservedName" ∷ "NumberLimit" ∷ "RealSort" ∷ "QuantifiedSort" ∷ "IndexSort" ∷ "SortArity" ∷ "UnsupportedOption" ∷ [])
unfolding cause_name
names_of_causes = refl

-- ---- faults of the words

rules_first : err_line (usage 3 AfterRules) words ≡ codes "smtrw: usage: word 3: AfterRules\n"
rules_first = refl

no_such_check : err_line (usage 0 (NoSuchCheck 3 2)) words ≡ codes "smtrw: usage: check 3 of 2\n"
no_such_check = refl

other_faults : map (λ why. err_line (usage 10 why) words) (Missing ∷ UnknownCommand ∷ BadOption ∷ Repeated ∷ BadValue ∷ BadPass ∷ Extra ∷ TwoInputs ∷ []) ≡ map codes ("smtrw: usage: word 10: Missing\n" ∷ "smtrw: usage: word 10: UnknownCommand\n" ∷ "smtrw: usage: word 10: BadOption\n" ∷ "smtrw: usage: word 10: Repeated\n" ∷ "smtrw: usage: word 10: BadValue\n" ∷ "smtrw: usage: word 10: BadPass\n" ∷ "smtrw: usage: word 10: Extra\n" ∷ "smtrw: usage: word 10: TwoInputs\n" ∷ [])
other_faults = refl

-- ---- devices and memory

reading_failed : err_line (ReadFailed 3) words ≡ codes "smtrw: reading model.txt failed\n"
reading_failed = refl

writing_failed : err_line WriteFailed words ≡ codes "smtrw: writing failed\n"
writing_failed = refl

out_of_memory : err_line OutOfMemory words ≡ codes "smtrw: out of memory\n"
out_of_memory = refl

-- ---- models and passes

wrong_sort_of_model : err_line (ModelRefused 61 1 1) words ≡ codes "smtrw: model refused: 61 ModelSort at line 1, byte 1\n"
unfolding cause_name
wrong_sort_of_model = refl

names_of_model_causes : map cause_name (60 ∷ 62 ∷ 63 ∷ 64 ∷ []) ≡ map codes ("ModelForm" ∷ "NotATable" ∷ "ModelNumber" ∷ "ModelTwice" ∷ [])
unfolding cause_name
names_of_model_causes = refl

beyond_range : err_line (Beyond128 7) words ≡ codes "smtrw: value beyond 128 bits in assertion 7\n"
beyond_range = refl

quantified_use : err_line (PassRefused 50 1) words ≡ codes "smtrw: pass refused: 50 QuantifiedUse in assertion 1\n"
unfolding cause_name
quantified_use = refl

too_many_bits : err_line (PassRefused 71 1) words ≡ codes "smtrw: pass refused: 71 EvalWidth in assertion 1\n"
unfolding cause_name
too_many_bits = refl

not_bits : err_line (PassRefused 90 1) words ≡ codes "smtrw: pass refused: 90 NotBits in assertion 1\n"
unfolding cause_name
not_bits = refl

not_clauses : err_line (PassRefused 96 1) words ≡ codes "smtrw: pass refused: 96 NotClauses in assertion 1\n"
unfolding cause_name
not_clauses = refl

no_answer : err_line (ModelRefused 95 2 18) words ≡ codes "smtrw: model refused: 95 DimacsForm at line 2, byte 18\n"
unfolding cause_name
no_answer = refl

numbers : map number_of (Done ∷ refused 36 2 2 9 ∷ usage 1 Missing ∷ ReadFailed 2 ∷ WriteFailed ∷ OutOfMemory ∷ ModelRefused 60 1 0 ∷ Beyond128 1 ∷ PassRefused 50 1 ∷ []) ≡ 0 ∷ 1 ∷ 2 ∷ 3 ∷ 4 ∷ 5 ∷ 6 ∷ 7 ∷ 8 ∷ []
numbers = refl
