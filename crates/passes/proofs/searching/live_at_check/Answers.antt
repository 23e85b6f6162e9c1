use Rattle.std.proofs.Common.{◌∙◌, ap, sym, false}
use Rattle.pass_laws.specs.LiveGroups.{global_behind, met_in}
use Rattle.passes.specs.LiveSymbols.{live_of}
use Rattle.passes.specs.Plans.{steps_of}
use Rattle.passes.proofs.searching.live_at_check.Goals as goal

pub returns-clause-live : goal.returns-clause-live
returns-clause-live c = λ t.
    c.in_ok-live.ensures.live t
    ∙ ap (λ b. live_of (met_in b (steps_of t c.before_check-before.result.now))) (sym (c.is_global_behind.ensures t))
    ∙ ap (λ cs. live_of (met_in (global_behind false cs) cs)) (c.before_check-before.ensures.steps t)

pub returns-clause-over : goal.returns-clause-over
returns-clause-over c = λ t all. c.in_ok-live.ensures.over t (c.before_check-before.ensures.over t all)

pub returns-clause-uses : goal.returns-clause-uses
returns-clause-uses c = λ t uses all. c.in_ok-live.ensures.uses t uses (c.before_check-before.ensures.uses t uses all)
