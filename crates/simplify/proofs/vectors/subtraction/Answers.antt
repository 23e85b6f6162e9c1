use Rattle.std.proofs.Common.{refl, arith}
use Rattle.smt_terms.specs.declared.op.Op.TheVariants.{BvSub}
use Rattle.smt_terms.specs.Rank.{shape}
use Rattle.term_table.specs.Formulas.{kind}
use Rattle.simplify.proofs.NodesOfSorts.{all_vectors}
use Rattle.simplify.proofs.vectors.subtraction.Goals as goal

pub zero_like-requires : goal.zero_like-requires
unfolding kind shape
zero_like-requires c = all_vectors c.args.table.now BvSub c.args.ids.now refl refl c.requires 0 (record { 0 = 0 }) (omega arith)
