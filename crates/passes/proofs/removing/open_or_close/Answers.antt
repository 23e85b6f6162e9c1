use Rattle.passes.proofs.removing.open_or_close.Goals as goal

pub returns-in-Reset-clause-live : goal.returns-in-Reset-clause-live
returns-in-Reset-clause-live c t are = c.new.ensures.live t
