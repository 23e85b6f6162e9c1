use Rattle.std.proofs.Common.{◌≡◌, true, Some, None, All, take, is_some}
use Rattle.smt_terms.specs.declared.ids.NodeId.{NodeId}
use Rattle.smt_terms.specs.Groups.{Named}
use Rattle.term_table.specs.Formulas.{Formulas}
use Rattle.quantifier_forms.specs.Memos.{result_in}
use Rattle.term_groups.specs.Replacing.{IsReplaced, AreReplaced}
use Rattle.ackermann.specs.LiveUses.{constant_in}
use Rattle.ackermann.proofs.replacing.keep_all_live.Given as goal

abbrev pub invariant-loop-id : goal.invariant-loop-id
invariant-loop-id l = record {
  replaced : (t : Formulas) (ns : Named) → AreReplaced t ns l.fn.memo → All (λ k. (r : NodeId) → constant_in l.uses k ≡ Some r → IsReplaced t ns k r) l.order → AreReplaced t ns l.memo;
  live : All (λ k. result_in l.memo 0 k ≡ None → constant_in l.uses k ≡ None) (take l.id-index l.order);
  stay : (k : NodeId) → is_some (result_in l.fn.memo 0 k) ≡ true → is_some (result_in l.memo 0 k) ≡ true;
}
