use Rattle.std.proofs.Common.{sym, ◌∙◌}
use Rattle.smt_terms.specs.declared.ids.NodeId.{NodeId}
use Rattle.smt_terms.specs.declared.ids.SymId.{SymId}
use Rattle.term_subst.proofs.Renamed.{captured-at, not-captured}
use Rattle.term_subst.proofs.renaming.is_captured.Goals as goal

pub returns-then-branch-clause-captured : goal.returns-then-branch-clause-captured
returns-then-branch-clause-captured c =
    let d : SymId × NodeId = (record { 0 = 0 }, record { 0 = 0 }) in
    sym (captured-at c.args.table.now c.args.cut.now c.loop-image.image-index d c.args.name.now c.loop-image-test.true (sym c.in_ok-is_free.ensures.free ∙ c.if-branch.true))

pub loop-image-preserved : goal.loop-image-preserved
loop-image-preserved c =
    let d : SymId × NodeId = (record { 0 = 0 }, record { 0 = 0 }) in record {
      findings = c.in_ok-is_free.ensures.fits;
      none = not-captured c.args.table.now c.args.cut.now c.loop-image.image-index d c.args.name.now c.loop-image-test.true c.loop-image.invariant.none (sym c.in_ok-is_free.ensures.free ∙ c.if-branch.false);
    }
