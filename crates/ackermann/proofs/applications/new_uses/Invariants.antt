use Rattle.std.proofs.Common.{◌≡◌, filter, take}
use Rattle.term_table.specs.Formulas.{trees_at, AreNodes}
use Rattle.ackermann.specs.LiveUses.{named_uses}
use Rattle.ackermann.specs.Replacing.{is_new_use}
use Rattle.ackermann.proofs.applications.new_uses.Given as goal

abbrev pub invariant-loop-id : goal.invariant-loop-id
invariant-loop-id l = record {
  nodes : AreNodes l.table l.new.items;
  terms : trees_at l.table l.new.items ≡ filter (is_new_use (named_uses l.table l.uses)) (trees_at l.table (take l.id-index l.order));
}
