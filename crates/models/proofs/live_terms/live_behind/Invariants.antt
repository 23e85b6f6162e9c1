use Rattle.std.proofs.Common.{◌≡◌, ◌+◌, ◌*◌, ◌≤◌, drop, reverse}
use Rattle.models.specs.LiveAssertions.{first_open, open_behind_all}
use Rattle.models.proofs.live_terms.live_behind.Given as goal

abbrev pub invariant-loop-command : goal.invariant-loop-command
invariant-loop-command l = record {
  few : l.levels ≤ 1 + l.command-index * 4294967295;
  rest : open_behind_all (record { levels = l.levels; global = l.global; placed = reverse l.placed.items }) (drop l.command-index l.commands) ≡ open_behind_all first_open l.commands;
}
