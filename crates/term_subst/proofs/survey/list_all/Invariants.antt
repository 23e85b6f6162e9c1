use Rattle.std.proofs.Common.{◌≡◌, All, drop}
use Rattle.smt_terms.specs.Free.{with_more}
use Rattle.term_table.specs.Formulas.{IsSymbol}
use Rattle.term_walk.specs.FreeLists.{named}
use Rattle.term_subst.proofs.survey.list_all.Given as goal

abbrev pub invariant-loop-symbol : goal.invariant-loop-symbol
invariant-loop-symbol l = record {
  names : with_more (named l.table l.listed.keys) (named l.table (drop l.symbol-index l.symbols)) ≡ with_more (named l.table l.fn.listed.keys) (named l.table l.symbols);
  symbols : All (IsSymbol l.table) l.listed.keys;
}
