use Rattle.std.proofs.Common.{take}
use Rattle.models.specs.GraphRows.{meanings}
use Rattle.models.specs.RowKeys.{AreKeys}
use Rattle.models.proofs.row_keys.row_keys.Given as goal

-- the keys so far
abbrev pub invariant-loop-key : goal.invariant-loop-key
invariant-loop-key l = AreKeys (meanings (take l.key-index l.keys)) l.flat
