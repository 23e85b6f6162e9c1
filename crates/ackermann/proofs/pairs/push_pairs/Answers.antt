use Rattle.std.proofs.Common.{map, slice_get, ap, ◌∙◌}
use Rattle.ackermann.proofs.pairs.push_pairs.Goals as goal

pub push_pairs_at-requires-clause-places : goal.push_pairs_at-requires-clause-places
push_pairs_at-requires-clause-places c = ap (map (slice_get c.args.uses.now)) c.deref.ensures.value ∙ c.in_ok-places.ensures
