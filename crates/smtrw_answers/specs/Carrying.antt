-- Models carried over the passes on a text, and the texts of them: a model of the rewritten script is read and the one of the
-- script is written, or the other way round.
use Rattle.std.specs.Prelude.{ℕ, List, Result, Ok, Err}
use Rattle.smt_terms.specs.Models.{Model}
use Rattle.script_read.specs.Commands.{Signature, signature}
use Rattle.model_texts.specs.Refusals.{Unmodelled}
use Rattle.model_texts.specs.ModelText.{model_of}
use Rattle.model_texts.specs.ModelLines.{model_lines}
use Rattle.pass_laws.specs.declared.names.Pass.{Pass}
use Rattle.pass_laws.specs.Carry.{back, forth}
use Rattle.smtrw_answers.specs.Outputs.{commands, names_left, rewritten_commands}

-- from a point of the rewritten script to the one of the text, and from the text to the rewritten script
abbrev pub translated : List ℕ → List Pass → ℕ → Model → Model
translated b ps k m = back ps (commands b) (names_left b) k m

abbrev pub extended : List ℕ → List Pass → ℕ → Model → Model
extended b ps k m = forth ps (commands b) (names_left b) k m

-- ---- texts of models

abbrev pub signature_before : List ℕ → ℕ → Signature
signature_before b k = signature (commands b) k

abbrev pub signature_behind : List ℕ → List Pass → ℕ → Signature
signature_behind b ps k = signature (rewritten_commands b ps) k

abbrev pub carried_text : (Model → Model) → Signature → Result Model Unmodelled → Result (List ℕ) Unmodelled
carried_text carry sig (Ok m) = Ok (model_lines (carry m) sig)
carried_text carry sig (Err r) = Err r

-- what `translate` writes of the model text g, or why g is refused
abbrev pub translated_text : List ℕ → List Pass → ℕ → List ℕ → Result (List ℕ) Unmodelled
translated_text b ps k g = carried_text (translated b ps k) (signature_before b k) (model_of g (signature_behind b ps k))

-- what `extend` writes of it
abbrev pub extended_text : List ℕ → List Pass → ℕ → List ℕ → Result (List ℕ) Unmodelled
extended_text b ps k g = carried_text (extended b ps k) (signature_behind b ps k) (model_of g (signature_before b k))
