-- What reading a model answers: the model that a text gives, or its refusal.
use Rattle.std.specs.Prelude.{◌≡◌, ℕ, List, Result, Ok, Err}
use Rattle.smt_terms.specs.Models.{IsModelOver}
use Rattle.term_table.specs.Formulas.{Formulas}
use Rattle.script_read.specs.Commands.{Signature}
use Rattle.models.specs.ModelView.{ModelLists, model_at, IsModelOf}
use Rattle.model_texts.specs.declared.faults.ModelFault.{ModelFault}
use Rattle.model_texts.specs.declared.faults.ModelFault.TheVariants.{ModelForm, ModelSort, NotATable, ModelNumber, ModelTwice, Memory}
use Rattle.model_texts.specs.Refusals.{Cause, model_form, model_sort, not_a_table, model_number, model_twice, refused}
use Rattle.model_texts.specs.ModelText.{model_of}

-- the text is refused for this cause, at this line and byte
abbrev pub IsRefusedFor : List ℕ → Signature → Cause → ℕ → ℕ → Type 0
IsRefusedFor bytes sig cause line byte = model_of bytes sig ≡ Err (refused (record { cause = cause; line = line; byte = byte }))

abbrev pub ReadsModel : Formulas → List ℕ → Signature → Result ModelLists ModelFault → Type 0
ReadsModel t bytes sig (Ok m) = (model_of bytes sig ≡ Ok (model_at t m)) × IsModelOver sig.sorts sig.symbols (model_at t m) × IsModelOf t m
ReadsModel t bytes sig (Err (ModelForm line byte)) = IsRefusedFor bytes sig model_form line byte
ReadsModel t bytes sig (Err (ModelSort line byte)) = IsRefusedFor bytes sig model_sort line byte
ReadsModel t bytes sig (Err (NotATable line byte)) = IsRefusedFor bytes sig not_a_table line byte
ReadsModel t bytes sig (Err (ModelNumber line byte)) = IsRefusedFor bytes sig model_number line byte
ReadsModel t bytes sig (Err (ModelTwice line byte)) = IsRefusedFor bytes sig model_twice line byte
ReadsModel t bytes sig (Err Memory) = Unit {0}
