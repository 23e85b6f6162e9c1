use Rattle.cnf_polarity.proofs.KeptNamed.{AreNamed}
use Rattle.cnf_polarity.proofs.literals.named_connectives.Given as goal

abbrev pub invariant-loop-id : goal.invariant-loop-id
invariant-loop-id l = AreNamed l.table l.fn.order l.id-index l.named.items
