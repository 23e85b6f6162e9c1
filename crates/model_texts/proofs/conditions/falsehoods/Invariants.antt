use Rattle.std.proofs.Common.{◌≡◌, replicate}
use Rattle.model_texts.proofs.KeysRead.{no_value}
use Rattle.model_texts.proofs.conditions.falsehoods.Given as goal

abbrev pub invariant-loop : goal.invariant-loop
invariant-loop l = l.values.items ≡ replicate l.counter no_value
