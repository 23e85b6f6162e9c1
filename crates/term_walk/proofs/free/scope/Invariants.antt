use Rattle.std.proofs.Common.{ℕ, Bool, List, ◌+◌, length, reverse}
use Rattle.smt_terms.specs.Free.{free}
use Rattle.term_table.specs.Formulas.{tree}
use Rattle.term_walk.specs.FreeLists.{Lists, HaveLists, IsReached, operands_left}
use Rattle.term_walk.proofs.free.scope.Given as goal

abbrev pub invariant-loop-id : goal.invariant-loop-id
invariant-loop-id l = record {
  lists : (ms : List Bool) (n : ℕ) → HaveLists l.fn.table l.fn.lists ms n → IsReached ms n l.fn.root → Lists l.fn.table (IsReached ms n) (free (tree l.fn.table l.fn.root)) (reverse l.waiting.items) l.met.keys l.listed.keys;
}

abbrev pub decreases-loop-id : goal.decreases-loop-id
decreases-loop-id l = operands_left l.fn.table l.met.keys (length l.fn.table.trees) + length l.waiting.items
