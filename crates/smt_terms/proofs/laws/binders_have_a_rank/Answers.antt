use Rattle.smt_terms.proofs.Binders.{rank_quantifier-ok, binder-rank_quantifier}
use Rattle.smt_terms.proofs.laws.binders_have_a_rank.Goals as goal

pub returns : goal.returns
returns c = λ ts ss s. (rank_quantifier-ok ts ss s, binder-rank_quantifier ts ss s)
