use Rattle.std.proofs.Common.{◌≡◌, filter, take}
use Rattle.term_table.specs.Formulas.{trees_at, AreNodes}
use Rattle.ite_free.specs.Removing.{is_choice}
use Rattle.ite_free.proofs.removal.term_ites.Given as goal

abbrev pub invariant-loop-id : goal.invariant-loop-id
invariant-loop-id l = record {
  nodes : AreNodes l.table l.ites.items;
  terms : trees_at l.table l.ites.items ≡ filter is_choice (trees_at l.table (take l.id-index l.order));
}
