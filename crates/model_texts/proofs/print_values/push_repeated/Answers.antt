use Rattle.model_texts.proofs.PrintedValues.{repeated-more}
use Rattle.model_texts.proofs.print_values.push_repeated.Goals as goal

pub loop-preserved : goal.loop-preserved
loop-preserved c = repeated-more c.args.out.now.items c.loop.out.items _ c.args.part.now c.loop.counter c.loop.invariant c.in_ok-extend_from_slice.ensures.items
