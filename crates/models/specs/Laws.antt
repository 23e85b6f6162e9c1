-- Laws of models over a table.
use Rattle.std.specs.Prelude.{◌≡◌}
use Rattle.term_table.specs.Formulas.{Formulas}
use Rattle.term_walk.specs.Walking.{GrowsTo}
use Rattle.models.specs.ModelView.{ModelLists, model_at, IsModelOf}

-- a model over a table is the same one over what the table becomes as it gains
abbrev pub ModelsStay : Type 0
ModelsStay = (old new : Formulas) (m : ModelLists) → GrowsTo old new → IsModelOf old m → (model_at new m ≡ model_at old m) × IsModelOf new m
