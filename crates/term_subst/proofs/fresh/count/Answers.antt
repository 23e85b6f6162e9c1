use Rattle.std.proofs.Common.{◌+◌, sym, ap, ◌∙◌, slice_set, arith}
use Rattle.std.proofs.lemmas.List.{get_or_read}
use Rattle.term_subst.proofs.Digits.{counted-less}
use Rattle.term_subst.proofs.fresh.count.Goals as goal

pub returns-then-index-lt57 : goal.returns-then-index-lt57
returns-then-index-lt57 c =
    let xs = c.loop-i.digits.items in
    let read = get_or_read xs c.loop-i.i c.index.result.now (omega arith) c.index.ensures 0 in
    let written = get_or_read xs c.loop-i.i c.index_mut.result.now (omega arith) c.index_mut.ensures.value 0 in
    ap (λ d. slice_set xs c.loop-i.i (d + 1)) written
    ∙ sym (counted-less xs c.loop-i.i (omega arith) (omega (arith, read))) ∙ sym c.loop-i.invariant.0
