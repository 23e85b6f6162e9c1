use Rattle.std.proofs.Common.{map, sym, ◌∙◌, ◌≡◌, rules, [], Some}
use Rattle.std.specs.Option.{option_map_or}
use Rattle.smt_io.specs.NameCounts.{place_of}
use Rattle.smt_io.proofs.CountLemmas.{count_of-falls, count_of-rose}
use Rattle.smt_io.proofs.MemoryLemmas.{text_of-raised, IsHeld-raised, blamed_place, rest_lent, text_here}
use Rattle.smt_io.proofs.mem_inputs.MemInputsInputs.read.Goals as goal
use Rattle.smt_io.proofs.mem_inputs.MemInputsInputs.read.Goals.{in-Some, in-None}

pub invariant_of-self : goal.invariant_of-self
invariant_of-self c = IsHeld-raised _ _ _ _ _ _ _ c.raise_at.ensures c.self.invariant

pub returns-then-next_fails-clause-texts : goal.returns-then-next_fails-clause-texts
returns-then-next_fails-clause-texts c = rw (← c.self.view_is) (λ n. text_of-raised _ _ _ _ n c.raise_at.ensures)

pub returns-then-next_fails-clause-counts : goal.returns-then-next_fails-clause-counts
returns-then-next_fails-clause-counts c = rw (← c.self.view_is) (λ n. count_of-falls c.self.inside.counts c.raise_at.new.self c.match-self.place n c.raise_at.ensures)

pub returns-then-next_fails-clause-cause : goal.returns-then-next_fails-clause-cause
returns-then-next_fails-clause-cause c =
    let blamed : option_map_or (λ i. Some i) c.self.inside.begun (place_of [] c.self.inside.counts) ≡ c.match-self.place =
    elim c.match-self.branch [ in-Some w ↦ search rules | in-None w ↦ search rules ] in
    rw (← c.self.view_is) (count_of-rose c.self.inside.counts c.raise_at.new.self c.match-self.place _ c.raise_at.ensures (blamed_place c.self.inside.counts _ _ c.self.inside.begun c.self.invariant.begun_here ∙ blamed))

pub returns-clause-bytes : goal.returns-clause-bytes
returns-clause-bytes c =
    let here = rw c.in-Some-begun.is at c.self.invariant.begun_here in
    rw (← c.self.view_is)
    (rest_lent (map (λ text. text.items) c.self.inside.texts.items) c.self.inside.begun c.in-Some-begun.place c.deref.result.now
    c.copy_from_slice.new.self c.args.buf.now c.self.inside.taken c.min-n.result
    c.in-Some-begun.is (text_here (λ text. text.items) c.self.inside.texts.items c.in-Some-begun.place c.index.result.now here.0 c.index.ensures ∙ sym c.deref.ensures.value)
    (search rules) c.copy_from_slice.ensures.after)
