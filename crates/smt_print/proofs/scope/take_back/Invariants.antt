use Rattle.std.proofs.Common.{◌≡◌, ◌<◌, length, reverse, All}
use Rattle.smt_print.specs.Defined.{place_in, taken_back}
use Rattle.smt_print.proofs.scope.take_back.Given as goal

abbrev pub invariant-loop-defined : goal.invariant-loop-defined
invariant-loop-defined l = record {
  within : All (λ d. d.node.0 < length l.places.items) l.definitions.items;
  places : taken_back (place_in l.places.items) (reverse l.definitions.items) ≡ taken_back (place_in l.fn.places.items) (reverse l.fn.definitions.items);
  long : length l.places.items ≡ length l.fn.places.items;
}

abbrev pub decreases-loop-defined : goal.decreases-loop-defined
decreases-loop-defined l = length l.definitions.items
