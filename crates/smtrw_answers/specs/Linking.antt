-- A check of a text whose live assertions, behind passes, are clauses: its DIMACS text, a solver's answer as a model of the text, and the
-- sentence that is kept.
use Rattle.std.specs.Prelude.{◌≡◌, ℕ, Bool, true, List, codes, length, Result, Ok, Err, IsTrue}
use Rattle.smt_terms.specs.Models.{Model}
use Rattle.smt_terms.specs.Sorts.{Symbol}
use Rattle.script_read.specs.Satisfied.{sat}
use Rattle.script_read.specs.Scenes.{holds}
use Rattle.model_texts.specs.ModelLines.{model_lines}
use Rattle.pass_laws.specs.declared.names.Pass.{Pass}
use Rattle.dimacs_link.specs.declared.answers.Answer.{Answer}
use Rattle.dimacs_link.specs.declared.answers.Answer.TheVariants.{Sat, Unsat, Unknown}
use Rattle.dimacs_link.specs.AnswerModels.{truths_in}
use Rattle.dimacs_link.specs.AnswerTexts.{reading}
use Rattle.models.specs.LiveRoots.{flags}
use Rattle.dimacs_link.specs.Checks.{linked_text as linked_check, answered_model, satisfies_check}
use Rattle.smtrw_answers.specs.Carrying.{translated, extended, signature_before}
use Rattle.smtrw_answers.specs.Headline.{IsModelAt}
use Rattle.smtrw_answers.specs.Outputs.{rewritten_commands}

-- ---- clauses

-- the constants of the clauses at check k behind the passes
abbrev pub linked_constants : List ℕ → List Pass → ℕ → List Symbol
linked_constants b ps k = flags (rewritten_commands b ps) k

abbrev pub linked_text : List ℕ → List Pass → ℕ → List ℕ
linked_text b ps k = linked_check (rewritten_commands b ps) k

-- truth values of the constants make all clauses true
abbrev pub satisfies_clauses : List ℕ → List Pass → ℕ → List Bool → Bool
satisfies_clauses b ps k vs = satisfies_check (rewritten_commands b ps) k vs

-- ---- answers

-- the model behind the passes that truth values stand for, and the one of the text
abbrev pub linked_model : List ℕ → List Pass → ℕ → List Bool → Model
linked_model b ps k vs = answered_model (rewritten_commands b ps) k vs

abbrev pub answered : List ℕ → List Pass → ℕ → List Bool → Model
answered b ps k vs = translated b ps k (linked_model b ps k vs)

abbrev pub answer_lines : List ℕ → List Pass → ℕ → Answer → List ℕ
answer_lines b ps k (Sat vs) = model_lines (answered b ps k vs) (signature_before b k)
answer_lines b ps k Unsat = codes "unsat\n"
answer_lines b ps k Unknown = codes "unknown\n"

abbrev pub lines_if_read : List ℕ → List Pass → ℕ → Result Answer ℕ → Result (List ℕ) ℕ
lines_if_read b ps k (Ok a) = Ok (answer_lines b ps k a)
lines_if_read b ps k (Err place) = Err place

-- what `answer` writes of the solver's answer g, or the place of its first fault
abbrev pub answer_text : List ℕ → List Pass → ℕ → List ℕ → Result (List ℕ) ℕ
answer_text b ps k g = lines_if_read b ps k (reading (length (linked_constants b ps k)) g)

-- ---- the sentence

-- The text w has the clauses of check k of the text b behind the passes ps. Truth values of the constants make them true exactly where
-- the model that they stand for satisfies the check behind the passes. Those that make them true stand for a model of b at the check,
-- and every model of b there, carried forth, has truth values that make them true. So where there are no such truth values there is
-- no model of b.
pub record IsLinking (b : List ℕ) (ps : List Pass) (k : ℕ) (w : List ℕ) : Type 0 where
  pub text : w ≡ linked_text b ps k
  pub exact : (vs : List Bool) → length vs ≡ length (linked_constants b ps k) → sat (linked_model b ps k vs) (rewritten_commands b ps) k ≡ satisfies_clauses b ps k vs
  pub translation : (vs : List Bool) → length vs ≡ length (linked_constants b ps k) → satisfies_clauses b ps k vs ≡ true →
      IsModelAt b k (answered b ps k vs) × IsTrue (holds (answered b ps k vs) b k)
  pub extension : (m : Model) → IsModelAt b k m → IsTrue (holds m b k) → satisfies_clauses b ps k (truths_in (extended b ps k m) (linked_constants b ps k)) ≡ true
