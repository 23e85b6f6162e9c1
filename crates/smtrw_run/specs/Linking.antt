-- A check of a script behind passes whose live assertions are clauses, and the way back from a solver's answer to it.
use Rattle.std.specs.Prelude.{◌≡◌, ℕ, Bool, false, nat_lt, List, length, Option, Some, None, IfSome, Result, Ok, Err}
use Rattle.std.specs.List.{list_any}
use Rattle.smt_lex.specs.Lex.{line_at}
use Rattle.smt_terms.specs.declared.ids.SymId.{SymId}
use Rattle.smt_terms.specs.Sorts.{Name}
use Rattle.pass_laws.specs.declared.names.Pass.{Pass}
use Rattle.pass_laws.specs.Carry.{Stage, back_stages}
use Rattle.dimacs_link.specs.declared.answers.Answer.{Answer}
use Rattle.dimacs_link.specs.declared.answers.Answer.TheVariants.{Sat}
use Rattle.dimacs_link.specs.AnswerModels.{AreFlags}
use Rattle.dimacs_link.specs.AnswerTexts.{reading, HasValues}
use Rattle.dimacs_link.specs.Checks.{IsLinked}
use Rattle.dimacs_link.specs.Constants.{constants_at, AreConstants}
use Rattle.smtrw_answers.specs.declared.status.Status.{Status}
use Rattle.smtrw_answers.specs.declared.status.Status.TheVariants.{ReadFailed, OutOfMemory, ModelRefused, Beyond128, PassRefused}
use Rattle.smtrw_answers.specs.declared.words.Carried.{Carried}
use Rattle.smtrw_answers.specs.Asked.{numbered}
use Rattle.smtrw_answers.specs.Carrying.{signature_behind}
use Rattle.smtrw_answers.specs.Endings.{linking_end, longest_text, stages_end, text_end}
use Rattle.smtrw_answers.specs.Linking.{linked_constants, linked_model, answer_lines, IsLinking}
use Rattle.smtrw_answers.specs.Outputs.{commands, names_left, rewritten_commands}
use Rattle.smtrw_answers.specs.Words.{Word, Numbered, is_rules, Asked, answer}
use Rattle.smtrw_run.specs.declared.carrying.Way.{Way}
use Rattle.smtrw_run.specs.declared.carrying.Passage.{Passage}
use Rattle.smtrw_run.specs.Carrying.{EndsOnTheWay, IsPassage, IsWay}
use Rattle.smtrw_run.specs.Run.{RoseFor}

-- what is asked for
abbrev pub answering : Carried → Asked
answering c = answer c.passes c.check (numbered c.script) (numbered c.model)

-- ---- the clauses

-- some script has gone over passes without stored rules
pub record IsPassageOfSome (k : ℕ) (p : Passage) : Type 0 where
  pub text : List ℕ
  pub passes : List Pass
  pub rules : List Name
  pub is : IsPassage text passes k rules p
  pub unruled : list_any is_rules passes ≡ false

-- the clauses of check k, or how the run ends
abbrev pub LinksText : List ℕ → List Pass → ℕ → Result (List ℕ) Status → Type 0
LinksText b ps k (Ok w) = (linking_end b ps k ≡ None) × IsLinking b ps k w
LinksText b ps k (Err status) = EndsOnTheWay b k (linking_end b ps k) status

-- ---- the way back

-- nothing in the script b ends the run before the answer, the way leads over the passes from its commands, and these are the constants of
-- the clauses of its check k behind them
pub record IsLinkedWay (b : List ℕ) (ps : List Pass) (k : ℕ) (w : Way) (constants : List SymId) : Type 0 where
  pub way : IsWay b ps k w
  pub fine : linking_end b ps k ≡ None
  pub linked : IsLinked (rewritten_commands b ps) k
  pub are : constants_at w.table constants ≡ linked_constants b ps k
  pub symbols : AreConstants w.table constants
  pub flags : AreFlags (signature_behind b ps k).symbols (linked_constants b ps k)

-- it is the one of some script
abbrev pub IsLinkedWayOfSome : ℕ → Way → List SymId → Type 0
IsLinkedWayOfSome k way constants = (b : List ℕ) × (ps : List Pass) × IsLinkedWay b ps k way constants

-- ---- the answer's text, over so many constants

abbrev pub reading_refusal : List ℕ → Result Answer ℕ → Option Status
reading_refusal g (Ok a) = None
reading_refusal g (Err place) = Some (ModelRefused 95 (line_at g place) place)

abbrev pub answer_refusal : ℕ → List ℕ → Option Status
answer_refusal n g = text_end g (reading_refusal g (reading n g))

-- where it is told it ends the run so
abbrev pub EndsAtAnswer : ℕ → Option (List ℕ) → Status → Type 0
EndsAtAnswer n told (ModelRefused code line byte) = IfSome told (λ g. answer_refusal n g ≡ Some (ModelRefused code line byte))
EndsAtAnswer n told OutOfMemory = Unit {0}
EndsAtAnswer n told _ = ⊥

-- a text that is no longer than may be read gives the answer
abbrev pub GivesAnswer : ℕ → List ℕ → Answer → Type 0
GivesAnswer n g a = (nat_lt longest_text (length g) ≡ false) × (reading n g ≡ Ok a)

pub record IsAnswerRead (n : ℕ) (told : Option (List ℕ)) (a : Answer) : Type 0 where
  pub values : HasValues n a
  pub given : IfSome told (λ g. GivesAnswer n g a)

-- the answer that a text gives, or how the run ends by it
abbrev pub ReadsAnswer : ℕ → Option (List ℕ) → Result Answer Status → Type 0
ReadsAnswer n told (Ok a) = IsAnswerRead n told a
ReadsAnswer n told (Err status) = EndsAtAnswer n told status

-- the same of the text in a file, with the counts of faults before and now
abbrev pub EndsAtAnswerFile : ℕ → Option (List ℕ) → (Word → ℕ) → (Word → ℕ) → Numbered → Status → Type 0
EndsAtAnswerFile n told before now file (ReadFailed word) = RoseFor before now word file
EndsAtAnswerFile n told before now file status = EndsAtAnswer n told status

-- ---- truth values carried back

abbrev pub linked_stages : List ℕ → List Pass → ℕ → List Bool → List Stage
linked_stages b ps k vs = back_stages ps (commands b) (names_left b) k (linked_model b ps k vs)

abbrev pub EndsAtStages : List Stage → Status → Type 0
EndsAtStages stages (Beyond128 assertion) = stages_end stages ≡ Some (Beyond128 assertion)
EndsAtStages stages (PassRefused code assertion) = (code ≡ 71) × (stages_end stages ≡ Some (PassRefused code assertion))
EndsAtStages stages OutOfMemory = Unit {0}
EndsAtStages stages _ = ⊥

-- the text of the model that truth values stand for, or how the run ends
abbrev pub CarriesAnswer : List ℕ → List Pass → ℕ → List Bool → Result (List ℕ) Status → Type 0
CarriesAnswer b ps k vs (Ok w) = (stages_end (linked_stages b ps k vs) ≡ None) × (w ≡ answer_lines b ps k (Sat vs))
CarriesAnswer b ps k vs (Err status) = EndsAtStages (linked_stages b ps k vs) status
