use Rattle.std.proofs.Common.{◌≡◌, All, take, filter, not}
use Rattle.smt_terms.specs.Free.{is_among}
use Rattle.term_table.specs.Formulas.{IsSymbol}
use Rattle.term_walk.specs.FreeLists.{named}
use Rattle.term_subst.proofs.survey.unbound.Given as goal

abbrev pub invariant-loop-symbol : goal.invariant-loop-symbol
invariant-loop-symbol l = record {
  names : named l.table l.free.items ≡ filter (λ f. not (is_among (named l.table l.bound.keys) f)) (named l.table (take l.symbol-index l.symbols));
  symbols : All (IsSymbol l.table) l.free.items;
}
