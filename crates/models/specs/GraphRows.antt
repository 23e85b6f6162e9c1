-- The rows of a symbol's function as a program holds them, and a row more.
use Rattle.std.specs.Prelude.{Bool, if◌then◌else◌, List, [], ◌∷◌, ◌++◌, map, All, IsTrue}
use Rattle.std.specs.List.{list_any, list_all}
use Rattle.smt_terms.specs.Models as plain
use Rattle.smt_terms.specs.Models.{Graph}
use Rattle.smt_terms.specs.Sorts.{Sort}
use Rattle.smt_terms.specs.Values as values
use Rattle.smt_terms.specs.Values.{Sizes, all_same, are_values, default_value}
use Rattle.smt_values.specs.Meaning.{meaning, IsHeld}
use Rattle.smt_values.specs.declared.value.Value.{Value}
use Rattle.models.specs.declared.graph.Row.{Row}

abbrev pub meanings : List Value → List values.Value
meanings vs = map meaning vs

abbrev pub row_of : Row → plain.Row
row_of r = record { keys = meanings r.keys.items; result = meaning r.value }

abbrev pub rows_of : List Row → List plain.Row
rows_of rs = map row_of rs

-- the scalars in a row are in range
pub record IsHeldRow (r : Row) : Type 0 where
  pub keys : All IsHeld r.keys.items
  pub value : IsHeld r.value

-- values of these sorts, one for each
pub record AreValues (ss : List Sort) (sizes : Sizes) (vs : List Value) : Type 0 where
  pub held : All IsHeld vs
  pub valid : IsTrue (are_values ss sizes (meanings vs))

-- rows with a key of each sort
abbrev pub HaveKeys : List Sort → Sizes → List plain.Row → Type 0
HaveKeys args sizes rs = IsTrue (list_all (λ r. are_values args sizes r.keys) rs)

-- the function that has one value everywhere
abbrev pub constant_graph : values.Value → Graph
constant_graph v = record { rows = []; otherwise = v }

-- the default of a sort everywhere
abbrev pub default_graph : Sort → Graph
default_graph s = constant_graph (default_value s)

-- whether there is a row with keys that are the same as these
abbrev pub has_row : List Sort → Sizes → List values.Value → List plain.Row → Bool
has_row args sizes ks rs = list_any (λ r. all_same args sizes r.keys ks) rs

abbrev pub with_row : List values.Value → values.Value → Graph → Graph
with_row ks v g = record { rows = g.rows ++ record { keys = ks; result = v } ∷ []; otherwise = g.otherwise }

-- a row more, unless there is one with the same keys
abbrev pub row_added : List Sort → Sizes → List values.Value → values.Value → Graph → Graph
row_added args sizes ks v g = if has_row args sizes ks g.rows then g else with_row ks v g
