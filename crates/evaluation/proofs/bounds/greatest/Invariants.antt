use Rattle.std.proofs.Common.{◌≡◌, take}
use Rattle.evaluation.specs.KeptValues.{greatest_at}
use Rattle.evaluation.proofs.bounds.greatest.Given as goal

abbrev pub invariant-loop-id : goal.invariant-loop-id
invariant-loop-id l = l.most ≡ greatest_at l.kept (take l.id-index l.ids)
