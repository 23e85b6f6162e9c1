use Rattle.std.proofs.Common.{◌≡◌, take}
use Rattle.smt_terms.specs.Subst.{cut_to}
use Rattle.term_walk.specs.FreeLists.{named}
use Rattle.term_subst.specs.Maps.{map_at}
use Rattle.term_subst.specs.Substituting.{IsMap}
use Rattle.term_subst.proofs.cut.cut_down.Given as goal

abbrev pub invariant-loop-symbol : goal.invariant-loop-symbol
invariant-loop-symbol l = record {
  map : map_at l.table l.cut.items ≡ cut_to (named l.table (take l.symbol-index l.symbols)) (map_at l.table l.map);
  within : IsMap l.table l.cut.items;
}
