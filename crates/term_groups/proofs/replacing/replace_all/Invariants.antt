use Rattle.std.proofs.Common.{◌≡◌, true, is_some}
use Rattle.smt_terms.specs.declared.ids.NodeId.{NodeId}
use Rattle.smt_terms.specs.Groups.{Named}
use Rattle.term_walk.specs.Walking.{GrowsTo}
use Rattle.quantifier_forms.specs.Memos.{result_in}
use Rattle.quantifier_forms.proofs.Sweeps.{AreDone}
use Rattle.term_groups.specs.Replacing.{AreReplaced, AreStarted}
use Rattle.term_groups.proofs.replacing.replace_all.Given as goal

abbrev pub invariant-loop-id : goal.invariant-loop-id
invariant-loop-id l = record {
  grows : GrowsTo l.fn.table l.table;
  symbols : l.table.symbols ≡ l.fn.table.symbols;
  replaced : (ns : Named) → AreStarted l.fn.table ns l.fn.memo l.order → AreReplaced l.table ns l.memo;
  stay : (k : NodeId) → is_some (result_in l.fn.memo 0 k) ≡ true → is_some (result_in l.memo 0 k) ≡ true;
  done : AreDone l.memo 0 l.order l.id-index;
}
