use Rattle.std.proofs.Common.{◌≡◌, Bool, true, take, All, is_some}
use Rattle.smt_terms.specs.declared.ids.NodeId.{NodeId}
use Rattle.smt_terms.specs.declared.ids.SymId.{SymId}
use Rattle.smt_terms.specs.Groups.{Named, with_constants}
use Rattle.smt_terms.specs.Term.{Term, constant}
use Rattle.term_table.specs.Formulas.{Formulas}
use Rattle.quantifier_forms.specs.Memos.{result_in}
use Rattle.term_groups.specs.Replacing.{AreConstantsFor, AreReplaced}
use Rattle.term_groups.specs.Seen.{named_at}
use Rattle.term_groups.proofs.replacing.keep_constants.Given as goal

abbrev pub invariant-loop-i : goal.invariant-loop-i
invariant-loop-i l = record {
  replaced : (t : Formulas) (wanted : Term → Bool) (ns : Named) → AreConstantsFor t wanted l.constants → All (λ n. with_constants ns n.1 ≡ constant n.0) (named_at t l.constants.symbols) → AreReplaced t ns l.memo;
  kept : All (λ (p : SymId × NodeId). is_some (result_in l.memo 0 p.1) ≡ true) (take l.i l.constants.symbols);
}
