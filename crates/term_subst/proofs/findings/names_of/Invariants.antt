use Rattle.std.proofs.Common.{◌≡◌, take}
use Rattle.smt_terms.specs.Free.{name_among, names_of}
use Rattle.smt_terms.specs.Sorts.{Name}
use Rattle.term_walk.specs.FreeLists.{named}
use Rattle.term_subst.proofs.findings.names_of.Given as goal

abbrev pub invariant-loop-symbol : goal.invariant-loop-symbol
invariant-loop-symbol l = (n : Name) → name_among l.names n ≡ name_among (names_of (named l.table (take l.symbol-index l.symbols))) n
