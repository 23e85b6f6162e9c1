use Rattle.term_walk.specs.FreeLists.{HaveLists}
use Rattle.term_walk.proofs.free.free_symbols.Given as goal

abbrev pub invariant-loop-number : goal.invariant-loop-number
invariant-loop-number l = record {
  lists : HaveLists l.fn.table l.lists l.marks l.number;
}
