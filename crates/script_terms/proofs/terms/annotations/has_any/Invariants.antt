use Rattle.std.proofs.Common.{◌≡◌, take, false}
use Rattle.std.specs.List.{list_any}
use Rattle.script_terms.specs.SymbolClauses.{has_symbol}
use Rattle.script_terms.proofs.terms.annotations.has_any.Given as goal

abbrev pub invariant-loop-symbol : goal.invariant-loop-symbol
invariant-loop-symbol l = list_any (has_symbol l.set.keys) (take l.symbol-index l.symbols) ≡ false
