use Rattle.std.proofs.Common.{◌≡◌, ℕ, ◌<◌, length, get_or}
use Rattle.smt_terms.specs.declared.ids.NodeId.{NodeId}
use Rattle.term_walk.specs.Walking.{GrowsTo}
use Rattle.normal_forms.proofs.Inverted.{IsOpposite}
use Rattle.normal_forms.proofs.opposites.opposites.Given as goal

abbrev pub invariant-loop-id : goal.invariant-loop-id
invariant-loop-id l = record {
  grows : GrowsTo l.fn.table l.table;
  symbols : l.table.symbols ≡ l.fn.table.symbols;
  sorts : l.table.sorts ≡ l.fn.table.sorts;
  number : length l.opposites.items ≡ l.id-index;
  each : (i : ℕ) (d : NodeId) → i < l.id-index → IsOpposite l.fn.table l.table (get_or l.ids i d) (get_or l.opposites.items i d);
}
