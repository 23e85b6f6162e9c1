use Rattle.std.proofs.Common.{◌∙◌, arith}
use Rattle.term_walk.proofs.PlaceLemmas.{place_at-push, results-push}
use Rattle.term_walk.proofs.kept.pad.Goals as goal

pub loop-preserved : goal.loop-preserved
loop-preserved g c = record {
  same = λ i. rw c.in_ok-push.ensures.items (place_at-push c.loop.places.items i ∙ c.loop.invariant.same i);
  number = rw c.in_ok-push.ensures.items (results-push c.loop.places.items ∙ c.loop.invariant.number);
  length = omega (arith, c.in_ok-push.ensures.len);
  room = omega (arith, c.in_ok-push.ensures.capacity);
}
