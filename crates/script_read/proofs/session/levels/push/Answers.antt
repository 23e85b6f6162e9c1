use Rattle.std.proofs.Common.{ap, ◌∙◌}
use Rattle.smt_lex.specs.Forest.{token_at}
use Rattle.script_terms.proofs.Refusing.{refused_at}
use Rattle.script_terms.proofs.Refusing.{refuses_as}
use Rattle.script_read.proofs.LevelSteps.{place_of_levels, push_refused, pushed}
use Rattle.script_read.proofs.session.levels.push.Goals as goal

pub returns-then-open-n-gt-MOST_LEVELS-clause-step : goal.returns-then-open-n-gt-MOST_LEVELS-clause-step
returns-then-open-n-gt-MOST_LEVELS-clause-step c = λ t s stands.
    refuses_as _ c.into.result c.fault.result c.into.ensures
    (push_refused t c.args.session.now s stands _ _ c.levels_written-n.result c.levels-open.result c.levels_written-n.ensures c.levels-open.ensures c.if-open-n-gt-MOST_LEVELS.true
    ∙ refused_at c.fault.result _ _ c.fault.ensures.cause
    (c.fault.ensures.start ∙ ap (λ j. (token_at c.args.forest.now.tokens j).start) c.unwrap_or.ensures ∙ place_of_levels c.args.forest.now.tokens c.args.levels c.args.i))

pub returns-clause-step : goal.returns-clause-step
returns-clause-step c = λ t s stands.
    pushed t c.args.session.now s stands _ _ c.levels_written-n.result c.levels-open.result c.push.new.self c.levels_written-n.ensures c.levels-open.ensures c.if-open-n-gt-MOST_LEVELS.false c.in_ok-push.ensures
