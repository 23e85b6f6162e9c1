use Rattle.std.proofs.Common.{◌∙◌, arith}
use Rattle.smt_values.specs.SortIds.{sort_at}
use Rattle.term_table.specs.ShapeRank.{kid_sorts}
use Rattle.term_table.proofs.Ranks.{kid_sorts-at, length-kid_sorts, unlike-same, unlike-other}
use Rattle.sort_check.proofs.Pairs.{behind_next, behind_here}
use Rattle.sort_check.proofs.alike.unlike_behind.Goals as goal

pub returns-then-have-want-clause-fault : goal.returns-then-have-want-clause-fault
returns-then-have-want-clause-fault c =
    let t = c.args.table.now in
    let count = length-kid_sorts t c.args.rest.now in
    c.loop-k.invariant
    ∙ behind_here (sort_at t.sorts c.args.want) (kid_sorts t c.args.rest.now) c.loop-k.k (omega (arith, count)) (sort_at t.sorts c.sort_of-have.result) _
    (kid_sorts-at t c.args.rest.now c.loop-k.k _ _ c.loop-k-test.true c.sort_of-have.ensures.sort)
    (unlike-other t.sorts c.sort_of-have.ensures.table.sorts _ c.sort_of-have.result c.args.want c.sort_of-have.ensures.within c.requires.want c.if-have-want.true)

pub loop-k-preserved : goal.loop-k-preserved
loop-k-preserved c =
    let t = c.args.table.now in
    let count = length-kid_sorts t c.args.rest.now in
    c.loop-k.invariant
    ∙ behind_next (sort_at t.sorts c.args.want) (kid_sorts t c.args.rest.now) c.loop-k.k (omega (arith, count)) (sort_at t.sorts c.sort_of-have.result)
    (kid_sorts-at t c.args.rest.now c.loop-k.k _ _ c.loop-k-test.true c.sort_of-have.ensures.sort)
    (unlike-same t.sorts _ c.sort_of-have.result c.args.want c.if-have-want.false)
