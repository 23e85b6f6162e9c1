use Rattle.std.proofs.Common.{◌≡◌, ◌+◌, ◌*◌, take}
use Rattle.smt_values.specs.Meaning.{meaning, pairs_of}
use Rattle.smt_values.specs.Tables.{depth, value_depth}
use Rattle.smt_values.proofs.array.+copying.Given as goal

abbrev pub decreases-copy_array : goal.decreases-copy_array
decreases-copy_array l = 2 * depth l.array.now + 1

abbrev pub decreases-copy_value : goal.decreases-copy_value
decreases-copy_value l = 2 * value_depth (meaning l.value.now)

-- the pairs so far
abbrev pub invariant-copy_array-loop-pair : goal.invariant-copy_array-loop-pair
invariant-copy_array-loop-pair l = l.copy ≡ record { fallback = l.array.fallback; pairs = pairs_of (take l.pair-index l.pairs) }
