use Rattle.std.proofs.Common.{Ok, ◌∙◌}
use Rattle.std.proofs.lemmas.List.Elements.{All-rest}
use Rattle.smt_values.specs.SortIds.{sort_at}
use Rattle.term_walk.proofs.Visits.{table-grows}
use Rattle.script_terms.specs.Known.{sorts_known}
use Rattle.script_terms.specs.SortSteps.{IsFrame}
use Rattle.script_terms.proofs.SortReading.{known-turn, turn-kept, follows-leads}
use Rattle.script_terms.proofs.sorts.read_sort.Goals as goal

pub next_sort-requires-clause-frames : goal.next_sort-requires-clause-frames
next_sort-requires-clause-frames c =
    All-rest (IsFrame c.args.forest.now.tokens c.loop-frame.table.sorts) c.in-Some.frame c.pop.new.self c.loop-frame.waiting c.in-Some.ensures c.loop-frame.invariant.frames

pub returns-in_err-sort-2-clause-sort : goal.returns-in_err-sort-2-clause-sort
returns-in_err-sort-2-clause-sort c =
    let inv = c.loop-frame.invariant in
    let ts = c.args.forest.now.tokens in
    follows-leads (sorts_known c.loop-frame.table c.args.scope.now) ts c.next_sort.new.table.sorts c.next_sort.new.table.sorts c.next_sort.new.waiting _ _ c.in_err-sort-2.field-0.0 c.from_residual-in_err-sort-2.result c.from_residual-in_err-sort-2.ensures.1
    c.in_err-sort-2.ensures.leads
    (known-turn c.args.table.now c.loop-frame.table c.args.scope.now inv.grows.sorts c.requires.scope ts _ c.loop-frame.waiting c.pop.new.self c.in-Some.frame c.loop-frame.sort inv.rest c.in-Some.ensures)

pub loop-frame-preserved : goal.loop-frame-preserved
loop-frame-preserved c =
    let inv = c.loop-frame.invariant in
    let ts = c.args.forest.now.tokens in
    record {
      within = c.in_ok-sort-2.ensures.within;
      frames = c.in_ok-sort-2.ensures.frames;
      rest = turn-kept c.args.table.now c.loop-frame.table c.args.scope.now inv.grows.sorts c.requires.scope ts _ (Ok (sort_at c.next_sort.new.table.sorts c.in_ok-sort-2.sort)) c.loop-frame.waiting c.pop.new.self c.next_sort.new.waiting c.in-Some.frame c.loop-frame.sort c.next_sort.new.table.sorts inv.rest c.in-Some.ensures c.in_ok-sort-2.ensures.leads;
      grows = table-grows c.args.table.now c.loop-frame.table c.next_sort.new.table inv.grows c.next_sort.ensures.grows;
      symbols = c.next_sort.ensures.symbols ∙ inv.symbols;
      trees = c.next_sort.ensures.trees ∙ inv.trees;
    }
