use Rattle.std.proofs.Common.{Some, ap}
use Rattle.smt_io.proofs.CountLemmas.{place_of-found, place_of-place, count_of-falls_later, count_of-rose_later}
use Rattle.smt_io.proofs.host.HostInputsInputs.begin.Goals as goal

pub invariant_of-self-in-Ok-open : goal.invariant_of-self-in-Ok-open
invariant_of-self-in-Ok-open g c = place_of-place c.args.name.now c.place_for.new.self c.in-Ok.place c.in-Ok.ensures.place

pub returns-in-Ok-open-clause-begun : goal.returns-in-Ok-open-clause-begun
returns-in-Ok-open-clause-begun g c = ap Some (place_of-found c.args.name.now c.place_for.new.self c.in-Ok.place c.in-Ok.ensures.place).1

pub returns-in-Err-open-clause-counts : goal.returns-in-Err-open-clause-counts
returns-in-Err-open-clause-counts g c =
    rw (← c.self.view_is) (λ n. count_of-falls_later c.self.inside.counts c.place_for.new.self c.raise_at.new.self (Some c.in-Ok.place) n (c.in-Ok.ensures.counts n) c.raise_at.ensures)

pub returns-in-Err-open-clause-cause : goal.returns-in-Err-open-clause-cause
returns-in-Err-open-clause-cause g c =
    rw (← c.self.view_is) (λ _. count_of-rose_later c.self.inside.counts c.place_for.new.self c.raise_at.new.self (Some c.in-Ok.place) c.args.name.now
    (c.in-Ok.ensures.counts c.args.name.now) c.raise_at.ensures c.in-Ok.ensures.place)
