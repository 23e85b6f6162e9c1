use Rattle.ackermann.specs.Ackermann.{has_quantified_use}
use Rattle.ackermann.specs.Marking.{has_application}
use Rattle.ackermann.proofs.quantified.look_at.Goals as goal

pub returns : goal.returns
returns c done are ready =
    let t = c.args.table.now in
    let applied = c.is_applied-applied.ensures done are.with_applications ready in
    record {
      with_applications = c.in_ok-mark.ensures t has_application done are.with_applications applied;
      with_quantified_uses = c.in_ok-mark-2.ensures t has_quantified_use done are.with_quantified_uses (c.is_refused-refused.ensures done applied are.with_quantified_uses ready);
    }
