use Rattle.std.proofs.Common.{take}
use Rattle.models.specs.GraphRows.{rows_of}
use Rattle.models.specs.RowKeys.{keys_of, ArePlacesOf}
use Rattle.models.proofs.graph.places_of.Given as goal

-- the keys of the rows so far
abbrev pub invariant-loop-row : goal.invariant-loop-row
invariant-loop-row l = ArePlacesOf (keys_of (rows_of (take l.row-index l.rows))) l.places
