use Rattle.bit_blast.proofs.ConnectiveNodes.{choice-rank}
use Rattle.bit_blast.proofs.gates.choice.Goals as goal

pub connective-requires-clause-rank : goal.connective-requires-clause-rank
connective-requires-clause-rank c = choice-rank
