use Rattle.smt_terms.proofs.Ranked.{rank-takes, rank-narrow, takes-rank}
use Rattle.smt_terms.proofs.laws.rank_is_a_relation.Goals as goal

pub returns : goal.returns
returns c = λ h ss s. (λ e. (rank-takes h ss s e, rank-narrow h ss s e), λ t. takes-rank h ss s t.0 t.1)
