use Rattle.term_table.proofs.Texts.{close_one}
use Rattle.term_table.proofs.text.written_sort.Goals as goal

pub loop-preserved : goal.loop-preserved
loop-preserved c = close_one c.loop.text.items _ _ c.loop-index.open c.loop.counter c.loop-test.true c.in_ok-push-2.ensures.items c.loop.invariant
