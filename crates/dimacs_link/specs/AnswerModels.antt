-- Truth values of constants as a model: each constant is as it is given, and all else is its sort's default.
use Rattle.std.specs.Prelude.{◌≡◌, Bool, true, List, [], ◌∷◌, map, All, Option, Some, None, IsTrue, if◌then◌else◌}
use Rattle.smt_terms.specs.Equal.{symbol_eq}
use Rattle.smt_terms.specs.Free.{is_among}
use Rattle.smt_terms.specs.Models.{Graph, Model, symbol_value}
use Rattle.smt_terms.specs.Sorts.{Symbol}
use Rattle.smt_terms.specs.Values.{truth, is_true}
use Rattle.script_read.specs.Commands.{Signature}
use Rattle.models.specs.GraphRows.{constant_graph}
use Rattle.models.specs.LiveRoots.{is_flag}
use Rattle.models.specs.ModelView.{default_model}

-- Boolean constants among these symbols
pub record AreFlags (symbols cs : List Symbol) : Type 0 where
  pub flags : All (λ f. is_flag f ≡ true) cs
  pub among : All (λ f. IsTrue (is_among symbols f)) cs

-- the truth value that a constant is given, each constant the one at its place
abbrev pub value_of : List Symbol → List Bool → Symbol → Option Bool
value_of [] vs f = None
value_of (c ∷ cs) [] f = None
value_of (c ∷ cs) (v ∷ vs) f = if symbol_eq c f then Some v else value_of cs vs f

abbrev pub given_graph : Option Bool → Option Graph → Option Graph
given_graph None g = g
given_graph (Some v) g = Some (constant_graph (truth v))

-- m with these truth values
abbrev pub with_truths : List Symbol → List Bool → Model → Model
with_truths cs vs m = record { sizes = m.sizes; graphs = λ f. given_graph (value_of cs vs f) (m.graphs f); div_by_zero = m.div_by_zero; mod_by_zero = m.mod_by_zero }

-- the model of what is declared that these truth values stand for
abbrev pub answered : Signature → List Symbol → List Bool → Model
answered sig cs vs = with_truths cs vs (default_model sig)

-- the truth values of constants in a model
abbrev pub truths_in : Model → List Symbol → List Bool
truths_in m cs = map (λ f. is_true (symbol_value m f [])) cs
