use Rattle.std.proofs.Common.{◌≡◌, sym, false, is_none, rules}
use Rattle.smt_io.proofs.CountLemmas.{count_of-falls, count_of-rose}
use Rattle.smt_io.proofs.MemoryLemmas.{text_of-raised, place_of-held, begun_name}
use Rattle.smt_io.proofs.mem_inputs.MemInputsInputs.begin.Goals as goal

pub returns-then-is_named-clause-texts : goal.returns-then-is_named-clause-texts
returns-then-is_named-clause-texts c = rw (← c.self.view_is) (λ n. text_of-raised _ _ _ _ n c.raise_at.ensures)

pub returns-then-is_named-clause-counts : goal.returns-then-is_named-clause-counts
returns-then-is_named-clause-counts c =
    rw (← c.self.view_is) (λ n. count_of-falls c.self.inside.counts c.raise_at.new.self c.place-place.result n c.raise_at.ensures)

pub returns-then-is_named-clause-cause : goal.returns-then-is_named-clause-cause
returns-then-is_named-clause-cause c =
    rw (← c.self.view_is) (λ _. count_of-rose c.self.inside.counts c.raise_at.new.self c.place-place.result c.args.name.now c.raise_at.ensures (sym c.place-place.ensures.value))

pub invariant_of-self-2 : goal.invariant_of-self-2
invariant_of-self-2 c = record {
  one_text_each = c.self.invariant.one_text_each;
  some_step = c.self.invariant.some_step;
  begun_here = place_of-held c.self.inside.counts _ c.args.name.now c.place-place.result c.place-place.ensures.value c.self.invariant.one_text_each;
}

pub returns-clause-begun : goal.returns-clause-begun
returns-clause-begun c =
    let some : is_none c.place-place.result ≡ false = search rules in
    begun_name c.self.inside.counts c.args.name.now c.place-place.result c.place-place.ensures.value some
