use Rattle.std.proofs.Common.{refl, arith}
use Rattle.smt_terms.specs.declared.op.Op.TheVariants.{BvUdiv}
use Rattle.smt_terms.specs.Rank.{shape}
use Rattle.term_table.specs.Formulas.{kind}
use Rattle.simplify.proofs.NodesOfSorts.{all_vectors}
use Rattle.simplify.proofs.vectors.division.Goals as goal

pub ones_like-requires : goal.ones_like-requires
unfolding kind shape
ones_like-requires c = all_vectors c.args.table.now BvUdiv c.args.ids.now refl refl c.requires 1 (record { 0 = 0 }) (omega arith)
