use Rattle.std.proofs.Common.{◌∙◌}
use Rattle.script_terms.proofs.Refusing.{refused_at}
use Rattle.script_terms.proofs.Refusing.{refuses_as}
use Rattle.script_read.proofs.LevelSteps.{pop_too_far, popped_levels}
use Rattle.script_read.proofs.session.levels.pop.Goals as goal

pub returns-then-n-levels-clause-step : goal.returns-then-n-levels-clause-step
returns-then-n-levels-clause-step c = λ t s stands.
    refuses_as _ c.into-then-n-levels.result c.fault-then-n-levels.result c.into-then-n-levels.ensures
    (pop_too_far t c.args.session.now s stands _ _ _ c.levels_written-n.result c.levels_written-n.ensures c.if-n-gt-MOST_LEVELS.false c.levels.result c.levels.ensures c.if-n-levels.true
    ∙ refused_at c.fault-then-n-levels.result _ _ c.fault-then-n-levels.ensures.cause c.fault-then-n-levels.ensures.start)

pub returns-clause-step : goal.returns-clause-step
returns-clause-step c = λ t s stands.
    popped_levels t c.args.session.now s stands _ _ _ c.levels_written-n.result c.levels_written-n.ensures c.if-n-gt-MOST_LEVELS.false c.levels.result c.pop.new.self c.levels.ensures c.if-n-levels.false c.pop.ensures
