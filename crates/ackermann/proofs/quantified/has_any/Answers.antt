use Rattle.std.proofs.Common.{sym, arith}
use Rattle.term_walk.specs.FreeLists.{has_node}
use Rattle.ackermann.proofs.MarkedNodes.{none-of}
use Rattle.ackermann.proofs.quantified.has_any.Goals as goal

pub returns : goal.returns
returns c = sym (none-of (has_node c.args.marked.now.keys) c.args.ids.now (λ i d lt. c.loop-id.invariant i d (let past = c.loop-id-test.false in omega arith)))
