use Rattle.std.proofs.Common.{take}
use Rattle.model_texts.specs.SignatureNames.{AreSortsNamed, by_name}
use Rattle.model_texts.proofs.names.names_of_sorts.Given as goal

abbrev pub invariant-loop-sort : goal.invariant-loop-sort
invariant-loop-sort l = AreSortsNamed l.table (take l.sort-index l.sorts) (by_name l.names.entries)
