use Rattle.std.proofs.Common.{◌≡◌, take}
use Rattle.script_terms.specs.SymbolClauses.{has_symbol}
use Rattle.smt_terms.specs.declared.ids.SymId.{SymId}
use Rattle.script_terms.proofs.terms.annotations.set_of.Given as goal

abbrev pub invariant-loop-symbol : goal.invariant-loop-symbol
invariant-loop-symbol l = (f : SymId) → has_symbol l.set.keys f ≡ has_symbol (take l.symbol-index l.symbols) f
