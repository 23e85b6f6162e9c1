use Rattle.std.proofs.Common.{map, arith, ◌∙◌}
use Rattle.std.proofs.lemmas.List.{length-map}
use Rattle.smt_terms.specs.Rank.{only}
use Rattle.smt_values.specs.SortIds.{sort_at}
use Rattle.term_table.specs.Faults.{fault_seen}
use Rattle.term_table.proofs.Ranks.{misfit_next, misfit_found, each_place}
use Rattle.term_table.proofs.table.Table.unlike_each.Goals as goal

pub returns-in-Some-clause-fault : goal.returns-in-Some-clause-fault
returns-in-Some-clause-fault c =
    let ws = c.args.wants.now in
    let ss = c.args.self.now.sorts in
    misfit_found c.args.self.now c.args.kids.now (map only (map (sort_at ss) ws)) c.loop-k.k _ (sort_at ss c.sort_of.result) _ c.loop-k-test.true (length-map (map (sort_at ss) ws) only ∙ length-map ws (sort_at ss) ∙ c.requires.number)
    (each_place ss ws c.loop-k.k _ (omega arith)) c.sort_of.ensures.sort c.loop-k.invariant (fault_seen ss c.in-Some.fault) c.in-Some.ensures.fault

pub loop-k-preserved : goal.loop-k-preserved
loop-k-preserved c =
    let ws = c.args.wants.now in
    let ss = c.args.self.now.sorts in
    misfit_next c.args.self.now c.args.kids.now (map only (map (sort_at ss) ws)) c.loop-k.k _ (sort_at ss c.sort_of.result) _ c.loop-k-test.true (length-map (map (sort_at ss) ws) only ∙ length-map ws (sort_at ss) ∙ c.requires.number)
    (each_place ss ws c.loop-k.k _ (omega arith)) c.sort_of.ensures.sort c.loop-k.invariant c.in_default.ensures.fault
