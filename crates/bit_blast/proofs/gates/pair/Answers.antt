use Rattle.std.proofs.Common.{[], ◌∷◌, ap, ◌∙◌}
use Rattle.smt_terms.specs.Sorts.{bool}
use Rattle.smt_terms.specs.Term.{op}
use Rattle.smt_terms.specs.Rank.{rank}
use Rattle.bit_blast.proofs.ConnectiveNodes.{gate-rank}
use Rattle.bit_blast.proofs.gates.pair.Goals as goal

pub connective-requires-clause-rank : goal.connective-requires-clause-rank
connective-requires-clause-rank c = ap (λ o. rank (op o) (bool ∷ bool ∷ [])) c.op_of.ensures ∙ gate-rank c.args.gate
