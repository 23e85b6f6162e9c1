-- Parameters as a program holds them: names, each with the first token of its sort.
use Rattle.std.specs.Prelude.{◌≡◌, ℕ, suc, if◌then◌else◌, List, [], ◌∷◌, map, Option, Some, None, option_map, option_and_then, All}
use Rattle.std.specs.Borrow.{Bor}
use Rattle.smt_lex.specs.Lex.{Token}
use Rattle.smt_lex.specs.Forms.{Form, Forms, ◌⨾◌}
use Rattle.smt_terms.specs.Equal.{name_eq}
use Rattle.smt_terms.specs.Sorts.{Name, Variable}
use Rattle.smt_terms.specs.declared.ids.SortId.{SortId}
use Rattle.smt_values.specs.SortIds.{sort_at}
use Rattle.term_table.specs.Formulas.{Formulas}
use Rattle.script_read.specs.Outlines.{list_in}
use Rattle.script_terms.specs.Places.{IsForm, form_from}
use Rattle.model_texts.specs.Entries.{Parameter, with_parameter, parameters_in, variables}

abbrev pub NamedSorts : Type 0
NamedSorts = List (Name × ℕ)

-- the place of the first parameter of a name
abbrev pub place_named : NamedSorts → Name → Option ℕ
place_named [] n = None
place_named (p ∷ ps) n = if name_eq p.0 n then Some 0 else option_map suc (place_named ps n)

abbrev pub parameter_of : List Token → Name × ℕ → Parameter
parameter_of ts p = record { name = p.0; sort = form_from ts p.1 }

abbrev pub parameters_of : List Token → NamedSorts → List Parameter
parameters_of ts ps = map (parameter_of ts) ps

-- a form in front of others is this parameter, or none
abbrev pub IsParameterIn : List Token → Form → Option (Bor (List ℕ) × ℕ) → Type 0
IsParameterIn ts f None = (fs : Forms) → parameters_in (f ⨾ fs) ≡ None
IsParameterIn ts f (Some p) = IsForm ts p.1 × ((fs : Forms) → parameters_in (f ⨾ fs) ≡ with_parameter (form_from ts p.1) (Some p.0.now) (parameters_in fs))

-- the parameters that a list names, where it is one of parameters with distinct names
abbrev pub AreParametersIn : List Token → ℕ → Option NamedSorts → Type 0
AreParametersIn ts at None = option_and_then parameters_in (list_in (form_from ts at)) ≡ None
AreParametersIn ts at (Some ps) = (option_and_then parameters_in (list_in (form_from ts at)) ≡ Some (parameters_of ts ps)) × All (λ p. IsForm ts p.1) ps

-- parameters of these sorts
abbrev pub variables_at : Formulas → List Token → List SortId → NamedSorts → List Variable
variables_at t ts args ps = variables (map (sort_at t.sorts) args) (parameters_of ts ps)
