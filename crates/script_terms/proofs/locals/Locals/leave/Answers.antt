use Rattle.std.proofs.Common.{◌∙◌, ap, drop}
use Rattle.script_terms.proofs.Linking.{drop-next}
use Rattle.script_terms.proofs.locals.Locals.leave.Goals as goal

pub loop-preserved : goal.loop-preserved
loop-preserved c = c.leave_one.ensures ∙ ap (drop 1) c.loop.invariant ∙ drop-next c.loop.counter c.args.self.now
