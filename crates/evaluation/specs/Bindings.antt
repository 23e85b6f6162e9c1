-- The variables that are bound above a place of a formula, with their values, the outermost first.
use Rattle.std.specs.Prelude.{◌≡◌, cond, List, [], ◌∷◌, Some, All, true}
use Rattle.smt_terms.specs.Equal.{symbol_eq}
use Rattle.smt_terms.specs.Sorts.{Symbol}
use Rattle.smt_terms.specs.Val.{Env, no_variables}
use Rattle.smt_terms.specs.Values.{Value, Sizes, is_value}
use Rattle.smt_values.specs.Meaning.{scalar_value, IsScalar}
use Rattle.term_table.specs.Formulas.{Formulas, symbol_at, IsSymbol}
use Rattle.evaluation.specs.declared.bindings.Binding.{Binding}

abbrev pub with_value : Symbol → Value → Env → Env
with_value g v e f = cond (symbol_eq g f) (Some v) (e f)

abbrev pub env_from : Formulas → List Binding → Env → Env
env_from t [] e = e
env_from t (b ∷ bs) e = env_from t bs (with_value (symbol_at t b.symbol) (scalar_value b.value) e)

-- a later binding hides those before it
abbrev pub env_of : Formulas → List Binding → Env
env_of t bs = env_from t bs no_variables

pub record IsBinding (t : Formulas) (b : Binding) : Type 0 where
  pub symbol : IsSymbol t b.symbol
  pub scalar : IsScalar b.value
  pub valid : (sizes : Sizes) → is_value (symbol_at t b.symbol).result sizes (scalar_value b.value) ≡ true

abbrev pub AreBindings : Formulas → List Binding → Type 0
AreBindings t bs = All (IsBinding t) bs
