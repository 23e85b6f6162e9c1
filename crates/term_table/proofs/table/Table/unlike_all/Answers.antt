use Rattle.std.proofs.Common.{map, arith, ◌∙◌}
use Rattle.std.proofs.lemmas.List.{length-map}
use Rattle.smt_terms.specs.Rank.{only}
use Rattle.smt_values.specs.SortIds.{sort_at}
use Rattle.term_table.specs.Faults.{fault_seen}
use Rattle.term_table.specs.ShapeRank.{kid_sorts}
use Rattle.term_table.proofs.Ranks.{misfit_next, misfit_found, alike_place, length-kid_sorts}
use Rattle.term_table.proofs.table.Table.unlike_all.Goals as goal

pub returns-in-Some-clause-fault : goal.returns-in-Some-clause-fault
returns-in-Some-clause-fault c =
    let us = kid_sorts c.args.self.now c.args.kids.now in
    let s = sort_at c.args.self.now.sorts c.args.want in
    let count = length-kid_sorts c.args.self.now c.args.kids.now in
    misfit_found c.args.self.now c.args.kids.now (map (λ _. only s) us) c.loop-k.k _ (sort_at c.args.self.now.sorts c.sort_of.result) s c.loop-k-test.true (length-map us (λ _. only s) ∙ count)
    (alike_place s us c.loop-k.k (omega (arith, count))) c.sort_of.ensures.sort c.loop-k.invariant (fault_seen c.args.self.now.sorts c.in-Some.fault) c.in-Some.ensures.fault

pub loop-k-preserved : goal.loop-k-preserved
loop-k-preserved c =
    let us = kid_sorts c.args.self.now c.args.kids.now in
    let s = sort_at c.args.self.now.sorts c.args.want in
    let count = length-kid_sorts c.args.self.now c.args.kids.now in
    misfit_next c.args.self.now c.args.kids.now (map (λ _. only s) us) c.loop-k.k _ (sort_at c.args.self.now.sorts c.sort_of.result) s c.loop-k-test.true (length-map us (λ _. only s) ∙ count)
    (alike_place s us c.loop-k.k (omega (arith, count))) c.sort_of.ensures.sort c.loop-k.invariant c.in_default.ensures.fault
