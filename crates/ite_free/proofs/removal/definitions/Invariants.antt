use Rattle.std.proofs.Common.{◌≡◌, take}
use Rattle.std.specs.List.{flat_map}
use Rattle.term_table.specs.Formulas.{trees_at, AreNodes}
use Rattle.term_walk.specs.Walking.{GrowsTo}
use Rattle.term_groups.specs.Seen.{named_at}
use Rattle.ite_free.specs.Ite.{defining}
use Rattle.ite_free.proofs.removal.definitions.Given as goal

abbrev pub invariant-loop-i : goal.invariant-loop-i
invariant-loop-i l = record {
  grows : GrowsTo l.fn.table l.table;
  symbols : l.table.symbols ≡ l.fn.table.symbols;
  nodes : AreNodes l.table l.asserts;
  terms : trees_at l.table l.asserts ≡ flat_map (λ n. defining (named_at l.fn.table l.constants.symbols) n.0 n.1) (take l.i (named_at l.fn.table l.constants.symbols));
}
