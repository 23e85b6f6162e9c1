use Rattle.std.proofs.Common.{◌+◌, ◌-◌, ◌≤◌}
use Rattle.smt_lex.specs.Building.{Going}
use Rattle.smt_lex.proofs.builders.Builder.take_stretch.Given as goal

abbrev pub invariant-loop-self : goal.invariant-loop-self
invariant-loop-self l = record {
  going : Going l.until l.bytes l.self.place l.self.entries.items l.self.lists.items;
  room : l.self.entries.len + l.limit ≤ l.self.entries.cap + l.self.place;
  list_room : l.self.lists.len + l.limit ≤ l.self.lists.cap + l.self.place;
}

abbrev pub decreases-loop-self : goal.decreases-loop-self
decreases-loop-self l = l.limit - l.self.place
