use Rattle.std.proofs.Common.{take}
use Rattle.std.specs.Prelude.{IfSome}
use Rattle.smt_values.specs.FlatKeys.{AreKeysOf}
use Rattle.smt_values.specs.Meaning.{pairs_of}
use Rattle.smt_values.proofs.value.keys_of.Given as goal

-- the keys of the pairs so far
abbrev pub invariant-loop-pair : goal.invariant-loop-pair
invariant-loop-pair l = IfSome l.places (λ s. AreKeysOf (pairs_of (take l.pair-index l.pairs)) s.keys)
