use Rattle.std.proofs.Common.{◌≡◌, ℕ, ◌≤◌, vec_len, vec_capacity}
use Rattle.term_walk.specs.Places.{place_at, results}
use Rattle.term_walk.proofs.kept.pad.Given as goal

abbrev pub invariant-loop : goal.invariant-loop
invariant-loop g l = record {
  same : (i : ℕ) → place_at l.places.items i ≡ place_at l.fn.places.items i;
  number : results l.places.items ≡ results l.fn.places.items;
  length : vec_len l.places ≡ l.counter;
  room : l.len ≤ vec_capacity l.places;
}
