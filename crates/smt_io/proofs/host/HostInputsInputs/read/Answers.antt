use Rattle.std.proofs.Common.{Some}
use Rattle.smt_io.proofs.CountLemmas.{count_of-falls, count_of-rose, IsPlaceOfName-raised, begun_place, begun_within}
use Rattle.smt_io.proofs.host.HostInputsInputs.read.Goals as goal

pub raise_at-requires : goal.raise_at-requires
raise_at-requires g c = begun_within c.self.inside.counts c.self.inside.begun c.in-Some.place c.in-Some.is c.self.invariant

pub invariant_of-self-in-Err : goal.invariant_of-self-in-Err
invariant_of-self-in-Err g c = IsPlaceOfName-raised c.self.inside.counts c.raise_at.new.self (Some c.in-Some.place) c.self.inside.begun c.raise_at.ensures c.self.invariant

pub returns-in-Err-clause-counts : goal.returns-in-Err-clause-counts
returns-in-Err-clause-counts g c =
    rw (← c.self.view_is) (λ n. count_of-falls c.self.inside.counts c.raise_at.new.self (Some c.in-Some.place) n c.raise_at.ensures)

pub returns-in-Err-clause-cause : goal.returns-in-Err-clause-cause
returns-in-Err-clause-cause g c =
    rw (← c.self.view_is) (count_of-rose c.self.inside.counts c.raise_at.new.self (Some c.in-Some.place) _ c.raise_at.ensures
    (begun_place c.self.inside.counts c.self.inside.begun c.in-Some.place c.in-Some.is c.self.invariant))
