use Rattle.std.proofs.Common.{◌≡◌, All, take}
use Rattle.smt_terms.specs.Free.{is_among}
use Rattle.smt_terms.specs.Sorts.{Symbol}
use Rattle.term_table.specs.Formulas.{IsSymbol, trees_at}
use Rattle.term_walk.specs.FreeLists.{named, has_own}
use Rattle.term_walk.proofs.free.own_symbols.Given as goal

abbrev pub invariant-loop-id : goal.invariant-loop-id
invariant-loop-id l = record {
  names : (f : Symbol) → is_among (named l.table l.listed.keys) f ≡ has_own (trees_at l.table (take l.id-index l.ids)) f;
  symbols : All (IsSymbol l.table) l.listed.keys;
}
