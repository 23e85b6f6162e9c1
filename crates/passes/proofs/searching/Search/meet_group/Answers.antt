use Rattle.passes.proofs.searching.Search.meet_group.Goals as goal

pub returns-then-self-eq0-clause-over : goal.returns-then-self-eq0-clause-over
returns-then-self-eq0-clause-over c = λ t pairs before. record { given = c.in_ok-push_given.ensures.over t pairs before.given; idle = before.idle; functions = before.functions }
