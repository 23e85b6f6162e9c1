use Rattle.std.proofs.Common.{sym, ◌∙◌, arith}
use Rattle.smt_values.specs.SortIds.{sort_at}
use Rattle.term_table.specs.ShapeRank.{kid_sorts}
use Rattle.term_table.proofs.Ranks.{uniform-rank, basic-narrow, accepted-narrow, length-kid_sorts}
use Rattle.term_table.proofs.table.Table.uniform.Goals as goal

pub returns-in-Some-clause-rank : goal.returns-in-Some-clause-rank
returns-in-Some-clause-rank c =
    sym (uniform-rank (sort_at c.args.self.now.sorts c.args.operand) (sort_at c.args.self.now.sorts c.args.to) (kid_sorts c.args.self.now c.args.kids.now) c.args.count _
    (length-kid_sorts c.args.self.now c.args.kids.now ∙ c.if-kids-count.false) (sym c.in-Some.ensures.fault))

pub returns-in-None-clause-rank : goal.returns-in-None-clause-rank
returns-in-None-clause-rank c =
    sym (uniform-rank (sort_at c.args.self.now.sorts c.args.operand) (sort_at c.args.self.now.sorts c.args.to) (kid_sorts c.args.self.now c.args.kids.now) c.args.count _
    (length-kid_sorts c.args.self.now c.args.kids.now ∙ c.if-kids-count.false) (sym c.in-None.ensures.fault)
    ∙ accepted-narrow (sort_at c.args.self.now.sorts c.args.to) (basic-narrow c.args.self.now.sorts c.args.to (omega arith)))
