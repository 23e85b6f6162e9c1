use Rattle.std.proofs.Common.{◌≡◌, ◌≤◌, ◌-◌, ◌*◌, false, length, drop, reverse}
use Rattle.models.specs.GoingBack.{found_in}
use Rattle.models.proofs.signature.live_behind.Given as goal

abbrev pub invariant-loop-place : goal.invariant-loop-place
invariant-loop-place l = record {
  within : l.place ≤ length l.commands;
  few : l.closed ≤ (length l.commands - l.place) * 4294967295;
  going : (found_in l.global (drop l.place l.commands)).anew ≡ false;
  closed : l.closed ≡ (found_in l.global (drop l.place l.commands)).closed;
  sorts : reverse l.sorts.items ≡ (found_in l.global (drop l.place l.commands)).sorts;
  symbols : reverse l.symbols.items ≡ (found_in l.global (drop l.place l.commands)).symbols;
}

abbrev pub decreases-loop-place : goal.decreases-loop-place
decreases-loop-place l = l.place
