use Rattle.std.proofs.Common.{map, reverse}
use Rattle.model_texts.specs.SignatureNames.{AreSymbolsNamed, by_name}
use Rattle.model_texts.proofs.names.names_of_symbols.Given as goal

-- those behind the others are in it
abbrev pub invariant-loop-symbol : goal.invariant-loop-symbol
invariant-loop-symbol l = AreSymbolsNamed l.table (reverse (map (λ f. f.now) l.yielded)) (by_name l.names.entries)
