use Rattle.sort_check.proofs.Linking.{Links}
use Rattle.sort_check.proofs.chains.links.Given as goal

abbrev pub invariant-loop-right : goal.invariant-loop-right
invariant-loop-right l = Links l.initial.table l.table l.op l.exchanged l.fn.first l.rest l.links.items l.left l.right-index
