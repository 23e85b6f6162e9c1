use Rattle.std.proofs.Common.{◌≤◌, length, drop}
use Rattle.cnf_polarity.proofs.NotedPolarities.{Noted}
use Rattle.cnf_polarity.proofs.polarities.all_occurrences.Given as goal

abbrev pub invariant-loop-place : goal.invariant-loop-place
invariant-loop-place l = record {
  within : l.place ≤ length l.order;
  noted : Noted l.table l.fn.root (drop l.place l.order) l.occurrences;
}
