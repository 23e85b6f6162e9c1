-- The rows that functions get at a check, where their applications were removed: one for each live application, with the values
-- of what took the places of its operands, and that of its constant. SMT-LIB 2.6, section 5.3.
use Rattle.std.specs.Prelude.{◌≡◌, ℕ, ◌<◌, ◌≤◌, true, false, List, [], ◌∷◌, ◌++◌, map, flat_map, length, Option, Some, None, All}
use Rattle.std.specs.List.{list_any, list_all}
use Rattle.smt_terms.specs.declared.ids.NodeId.{NodeId}
use Rattle.smt_terms.specs.Models.{Row, Model, IsModel}
use Rattle.smt_terms.specs.Sorts.{Symbol}
use Rattle.smt_terms.specs.Term.{symbol, Term, apply, constant}
use Rattle.smt_terms.specs.Val.{no_variables, val, fits, bits_bound}
use Rattle.smt_values.specs.Meaning.{meaning}
use Rattle.smt_values.specs.Valid.{IsValue}
use Rattle.smt_values.specs.declared.value.Value.{Value}
use Rattle.term_table.specs.Formulas.{Formulas, symbol_at, tree, trees_at, IsNode, IsSymbol}
use Rattle.script_read.specs.Commands.{Command}
use Rattle.models.specs.GraphRows.{meanings, AreValues}
use Rattle.models.specs.ModelView.{ModelLists, symbol_number, model_at, with_row_for, IsModelOf}
use Rattle.evaluation.specs.declared.faults.ValueFault.{ValueFault}
use Rattle.evaluation.specs.declared.faults.ValueFault.TheVariants.{Beyond128 as BeyondRange, Memory as NoMemory}
use Rattle.evaluation.specs.Evaluated.{breaks, IsValueOf}
use Rattle.pass_laws.specs.Carry.{Asked, asked_for, most_bits}
use Rattle.pass_laws.specs.LiveGroups.{Drawn, Operands, Met, Told, AreApplied, met_of, without_drawn}
use Rattle.passes.specs.LiveSymbols.{Given, Live, live_at, with_defaults, beyond_of, AreLiveOver, HasUseOf, IsLeastBeyond}
use Rattle.passes.specs.Plans.{Uses, use_of, operands_at, steps_of, told_operands, uses_of, IsStageOver}
use Rattle.passes.specs.declared.searching.Live.{Live as CodeLive}
use Rattle.passes.specs.declared.plan.Stage.{Stage}
use Rattle.passes.specs.declared.tables.NewRow.{NewRow}
use Rattle.passes.specs.declared.tables.Tabling.{Tabling}

-- the operands that must be evaluated
abbrev pub asked_for_rows : Option Operands → List Given → List Asked
asked_for_rows None gs = []
asked_for_rows (Some ops) gs = flat_map (λ g. asked_for g.number (ops g.symbol)) gs

-- what took the places of operands, by the numbers of constants
abbrev pub operands_by : Formulas → Uses → Operands
operands_by t es v = operands_at t (use_of es (symbol_number t.symbols v))

-- a row of a function
abbrev pub RowOf : Type 0
RowOf = Symbol × Row

-- that of an application with its constant v
abbrev pub row_for : Model → Operands → Symbol → Term → List RowOf
row_for m ops v (apply (symbol f) ts) = (f, record { keys = map (λ u. val m u no_variables) (ops v); result = val m (constant v) no_variables }) ∷ []
row_for m ops v t = []

abbrev pub rows_for : Model → Operands → List Given → List RowOf
rows_for m ops gs = flat_map (λ g. row_for m ops g.symbol g.term) gs

-- functions with rows more, one after the other
abbrev pub with_rows_for : List RowOf → Model → Model
with_rows_for [] m = m
with_rows_for (p ∷ ps) m = with_rows_for ps (with_row_for p.0 p.1.keys p.1.result m)

-- the model before a pass that told these commands
abbrev pub back_over_live : Option Operands → List (Command Drawn) → Live → Model → Model
back_over_live None cs r m = without_drawn cs m
back_over_live (Some ops) cs r m = with_rows_for (rows_for m ops r.given) (with_defaults r.functions (without_drawn cs m))

-- ---- over the numbers of a table

abbrev pub row_at : Formulas → NewRow → RowOf
row_at t r = (symbol_at t r.function, record { keys = meanings r.keys.items; result = meaning r.value })

-- a row of a function with arguments, with values of its sorts
pub record IsRowFor (t : Formulas) (m : ModelLists) (r : NewRow) : Type 0 where
  pub function : IsSymbol t r.function
  pub some : 0 < length (symbol_at t r.function).args
  pub keys : AreValues (symbol_at t r.function).args (model_at t m).sizes r.keys.items
  pub value : IsValue (symbol_at t r.function).result (model_at t m).sizes r.value

-- the rows that were made so far
pub record IsTabling (t : Formulas) (m : ModelLists) (ops : Operands) (gs : List Given) (v : Tabling) : Type 0 where
  pub beyond : IsLeastBeyond t (model_at t m) (asked_for_rows (Some ops) gs) v.beyond
  pub rows : v.beyond ≡ None → map (row_at t) v.rows.items ≡ rows_for (model_at t m) ops gs
  pub each : All (IsRowFor t m) v.rows.items

-- a row for each application
pub record AreRows (t : Formulas) (m : ModelLists) (ops : Operands) (gs : List Given) (rs : List NewRow) : Type 0 where
  pub within : beyond_of (model_at t m) (asked_for_rows (Some ops) gs) ≡ None
  pub rows : map (row_at t) rs ≡ rows_for (model_at t m) ops gs
  pub each : All (IsRowFor t m) rs

-- ---- single terms

abbrev pub IsNarrowTerm : Term → Type 0
IsNarrowTerm u = bits_bound u ≤ most_bits

-- one of these nodes' terms leaves the range, and a node has such a value in one of them
abbrev pub IsOneBeyond : Formulas → Model → List NodeId → ValueFault → Type 0
IsOneBeyond t m ks (BeyondRange k) = (list_all (λ u. fits m u no_variables) (trees_at t ks) ≡ false) × IsNode t k × (list_any (λ u. breaks m (tree t k) u no_variables) (trees_at t ks) ≡ true)
IsOneBeyond t m ks NoMemory = Unit {0}

-- values of these terms, one for each
abbrev pub AreValuesIn : Model → List Term → List Value → Type 0
AreValuesIn m [] [] = Unit {0}
AreValuesIn m (u ∷ us) (v ∷ vs) = IsValueOf m no_variables u v × AreValuesIn m us vs
AreValuesIn m _ _ = ⊥

-- ---- stages

abbrev pub operands_told : Formulas → Stage → Option Operands
operands_told t st = told_operands t (uses_of st)

abbrev pub asked_at : Formulas → Stage → CodeLive → List Asked
asked_at t st r = asked_for_rows (operands_told t st) (live_at t r).given

-- from the last stage to the first
abbrev pub all_asked_at : Formulas → List Stage → List CodeLive → List Asked
all_asked_at t (st ∷ sts) (r ∷ rs) = all_asked_at t sts rs ++ asked_at t st r
all_asked_at t _ _ = []

-- what is live of a stage
pub record IsLiveStage (t : Formulas) (st : Stage) (r : CodeLive) : Type 0 where
  pub stage : IsStageOver t st
  pub live : AreLiveOver t r
  pub uses : All (HasUseOf t (uses_of st)) r.given.items

-- one for each
abbrev pub AreLiveStages : Formulas → List Stage → List CodeLive → Type 0
AreLiveStages t [] [] = Unit {0}
AreLiveStages t (st ∷ sts) (r ∷ rs) = IsLiveStage t st r × AreLiveStages t sts rs
AreLiveStages t _ _ = ⊥

-- the model before a stage
pub record Returns (t : Formulas) (st : Stage) (r : CodeLive) (old new : ModelLists) : Type 0 where
  pub within : beyond_of (model_at t old) (asked_at t st r) ≡ None
  pub model : model_at t new ≡ back_over_live (operands_told t st) (steps_of t st.steps.items) (live_at t r) (model_at t old)
  pub numbers : IsModelOf t new
  pub valid : IsModel (model_at t new)

-- where applications were removed, the function of each live one is live
abbrev pub AreAppliedBy : Option Operands → Met → Type 0
AreAppliedBy None g = Unit {0}
AreAppliedBy (Some ops) g = AreApplied g

abbrev pub AreAppliedAt : ℕ → List Told → Type 0
AreAppliedAt k sts = All (λ (st : Told). AreAppliedBy st.operands (met_of k st)) sts
