-- Tables that a text gives, as a program holds them.
use Rattle.std.specs.Prelude.{◌≡◌, List, map, All, Option}
use Rattle.std.specs.Borrow.{Bor}
use Rattle.smt_terms.specs.Models as plain
use Rattle.smt_values.specs.Meaning.{meaning, IsHeld}
use Rattle.models.specs.GraphRows.{meanings}
use Rattle.model_texts.specs.declared.tables.GivenRow.{GivenRow}
use Rattle.model_texts.specs.declared.tables.GivenTable.{GivenTable}

abbrev pub row_given : GivenRow → plain.Row
row_given r = record { keys = meanings r.keys.items; result = meaning r.value }

abbrev pub rows_given : List GivenRow → List plain.Row
rows_given rs = map row_given rs

abbrev pub graph_given : GivenTable → plain.Graph
graph_given g = record { rows = rows_given g.rows.items; otherwise = meaning g.otherwise }

-- the scalars in it are in range
abbrev pub IsHeldRow : GivenRow → Type 0
IsHeldRow r = All IsHeld r.keys.items × IsHeld r.value

pub record IsHeldTable (g : GivenTable) : Type 0 where
  pub rows : All IsHeldRow g.rows.items
  pub otherwise : IsHeld g.otherwise

-- the table is this function
abbrev pub IsGivenGraph : GivenTable → plain.Graph → Type 0
IsGivenGraph g h = IsHeldTable g × (graph_given g ≡ h)
