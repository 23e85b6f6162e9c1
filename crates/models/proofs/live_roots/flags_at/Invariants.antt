use Rattle.std.proofs.Common.{◌≡◌, map, take, All}
use Rattle.std.specs.Prelude.{filter}
use Rattle.term_table.specs.Formulas.{symbol_at, IsSymbol}
use Rattle.models.specs.LiveRoots.{is_flag}
use Rattle.models.proofs.live_roots.flags_at.Given as goal

abbrev pub invariant-loop-symbol : goal.invariant-loop-symbol
invariant-loop-symbol l = record {
  symbols : All (IsSymbol l.table) l.found.items;
  flags : map (symbol_at l.table) l.found.items ≡ filter is_flag (map (symbol_at l.table) (take l.symbol-index l.symbol-items));
}
