use Rattle.std.proofs.Common.{sym, arith}
use Rattle.smt_values.specs.SortIds.{sort_at}
use Rattle.term_table.specs.ShapeRank.{kid_sorts}
use Rattle.term_table.proofs.Ranks.{distinct-rank, kid_sorts-at, length-kid_sorts}
use Rattle.term_table.proofs.table.Table.distinctness.Goals as goal

pub returns-in-Some-clause-rank : goal.returns-in-Some-clause-rank
returns-in-Some-clause-rank c =
    let count = length-kid_sorts c.args.self.now c.args.kids.now in
    sym (distinct-rank (kid_sorts c.args.self.now c.args.kids.now) (sort_at c.args.self.now.sorts c.sort_of.result) _ (omega (arith, count))
    (kid_sorts-at c.args.self.now c.args.kids.now 0 _ _ (omega arith) c.sort_of.ensures.sort) (sym c.in-Some.ensures.fault))
