use Rattle.std.proofs.Common.{◌≡◌, ◌++◌, map, take}
use Rattle.term_table.specs.Formulas.{trees_at, AreNodes}
use Rattle.term_walk.specs.Walking.{GrowsTo}
use Rattle.ackermann.specs.LiveUses.{uses_of, said}
use Rattle.ackermann.proofs.pairs.push_pairs_at.Given as goal

abbrev pub invariant-loop-place : goal.invariant-loop-place
invariant-loop-place l = record {
  grows : GrowsTo l.fn.table l.table;
  symbols : l.table.symbols ≡ l.fn.table.symbols;
  nodes : AreNodes l.table l.asserts;
  terms : trees_at l.table l.asserts ≡ trees_at l.fn.table l.fn.asserts ++ map (λ u. said l.fn.table u l.new) (take l.place-index (uses_of l.new.function l.uses));
}
