-- A check of a text over bit vectors, behind passes, as a text over truth values: what is written of it, the models of both carried
-- across, and the sentence that is kept.
use Rattle.std.specs.Prelude.{◌≡◌, ℕ, true, List, [], ◌∷◌, Result, None, All, IsTrue}
use Rattle.smt_terms.specs.Fresh.{Supply}
use Rattle.smt_terms.specs.Models.{Model}
use Rattle.smt_terms.specs.Term.{Term}
use Rattle.script_read.specs.Commands.{Command, Signature, checked, ended, kinds, all_asserted, signature}
use Rattle.script_read.specs.Scenes.{forms_script, holds}
use Rattle.script_read.specs.Script.{fault}
use Rattle.smt_print.specs.declared.layout.Layout.TheVariants.{Dag}
use Rattle.smt_print.specs.Text.{lines}
use Rattle.model_texts.specs.ModelText.{model_of}
use Rattle.model_texts.specs.Refusals.{Unmodelled}
use Rattle.pass_laws.specs.declared.names.Pass.{Pass}
use Rattle.pass_laws.specs.Passed.{passed}
use Rattle.bit_blast.specs.Laws.{is_boolean}
use Rattle.models.specs.LiveRoots.{is_flag}
use Rattle.bit_scripts.specs.Scripts.{blasted_script, lifted_model, lowered_model}
use Rattle.smtrw_answers.specs.Carrying.{translated, extended, signature_before, carried_text}
use Rattle.smtrw_answers.specs.Headline.{signature_at, IsModelAt}
use Rattle.smtrw_answers.specs.Outputs.{commands, names_left, rewritten_commands}

-- ---- the text over truth values

-- the names that the passes leave to draw
abbrev pub names_behind : List ℕ → List Pass → Supply
names_behind b ps = (passed ps (commands b) (names_left b)).1

-- what takes the place of check k of the text behind the passes
abbrev pub blasted_commands : List ℕ → List Pass → ℕ → List (Command Term)
blasted_commands b ps k = blasted_script (rewritten_commands b ps) k (names_behind b ps)

abbrev pub blasted_text : List ℕ → List Pass → ℕ → List ℕ
blasted_text b ps k = lines Dag (blasted_commands b ps k)

-- what it declares at its check
abbrev pub signature_blasted : List ℕ → List Pass → ℕ → Signature
signature_blasted b ps k = signature (blasted_commands b ps k) 1

-- ---- models

-- a model of it as one of the text behind the passes
abbrev pub lifted : List ℕ → List Pass → ℕ → Model → Model
lifted b ps k m = lifted_model (rewritten_commands b ps) k (names_behind b ps) m

-- and as one of the text
abbrev pub unblasted : List ℕ → List Pass → ℕ → Model → Model
unblasted b ps k m = translated b ps k (lifted b ps k m)

-- a model of the text as one of it
abbrev pub blasted_model : List ℕ → List Pass → ℕ → Model → Model
blasted_model b ps k m = lowered_model (rewritten_commands b ps) k (names_behind b ps) (extended b ps k m)

-- what `unblast` writes of the model text g, or why g is refused
abbrev pub unblasted_text : List ℕ → List Pass → ℕ → List ℕ → Result (List ℕ) Unmodelled
unblasted_text b ps k g = carried_text (unblasted b ps k) (signature_before b k) (model_of g (signature_blasted b ps k))

-- ---- the sentence

-- The text w takes the place of check k of the text b behind the passes ps. It is an accepted script with one check, which declares
-- truth values alone; all subterms of what it asserts are truth values. Every model of w, carried back, is a model of b at the
-- check, and every model of b there, carried forth, is a model of w.
pub record IsBlasting (b : List ℕ) (ps : List Pass) (k : ℕ) (w : List ℕ) : Type 0 where
  pub text : w ≡ blasted_text b ps k
  pub accepted : fault w ≡ None
  pub one_check : kinds (forms_script w) ≡ checked ∷ ended ∷ []
  pub sorts : (signature_at w 1).sorts ≡ []
  pub flags : All (λ f. is_flag f ≡ true) (signature_at w 1).symbols
  pub boolean : All (λ t. is_boolean t ≡ true) (all_asserted (blasted_commands b ps k))
  pub translation : (m : Model) → IsModelAt w 1 m → IsTrue (holds m w 1) →
      IsModelAt b k (unblasted b ps k m) × IsTrue (holds (unblasted b ps k m) b k)
  pub extension : (m : Model) → IsModelAt b k m → IsTrue (holds m b k) →
      IsModelAt w 1 (blasted_model b ps k m) × IsTrue (holds (blasted_model b ps k m) w 1)
