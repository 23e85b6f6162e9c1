use Rattle.std.proofs.Common.{◌≡◌, ap, sym, ◌∙◌}
use Rattle.std.proofs.lemmas.List.Elements.{All-same, All-push, All-weaker}
use Rattle.smt_lex.specs.Forms.{◌⨾◌}
use Rattle.smt_values.specs.SortIds.{IsSortId, sort_at}
use Rattle.term_walk.proofs.Visits.{table-grows}
use Rattle.script_terms.specs.Known.{sorts_known}
use Rattle.script_terms.specs.Places.{form_from, forms_from}
use Rattle.script_terms.specs.SortForms.{sort_in}
use Rattle.script_terms.proofs.Grown.{sort_within}
use Rattle.script_terms.proofs.SortReading.{sorts-pushed, sorts-fail, follows-fail}
use Rattle.script_terms.proofs.sorts.read_sorts.Goals as goal

pub returns-in_err-read_sort-clause-sorts : goal.returns-in_err-read_sort-clause-sorts
returns-in_err-read_sort-clause-sorts c =
    let inv = c.loop-alloc.invariant in
    let ts = c.args.forest.now.tokens in
    let i = c.loop-alloc.next in
    follows-fail _ _ (sort_in (sorts_known c.loop-alloc.table c.args.scope.now) (form_from ts i)) (sort_at c.read_sort.new.table.sorts) c.in_err-read_sort.field-0.0 c.from_residual.result c.from_residual.ensures.1 c.in_err-read_sort.ensures.sort
    (λ e sort. sorts-fail c.args.table.now c.loop-alloc.table c.read_sort.new.table c.args.scope.now inv.grows.sorts c.read_sort.ensures.grows.sorts c.requires.scope _ (forms_from ts i) _ (form_from ts i) c.loop-alloc.sorts.items e inv.rest (c.begins.ensures.yes c.loop-alloc-test.true).forms sort)

pub loop-alloc-preserved : goal.loop-alloc-preserved
loop-alloc-preserved c =
    let inv = c.loop-alloc.invariant in
    let ts = c.args.forest.now.tokens in
    let i = c.loop-alloc.next in
    let ks = c.loop-alloc.sorts.items in
    let k = c.in_ok-read_sort.field-0 in
    let more = c.read_sort.ensures.grows.sorts in
    let forms : forms_from ts i ≡ form_from ts i ⨾ forms_from ts c.after-next.result = (c.begins.ensures.yes c.loop-alloc-test.true).forms ∙ ap (λ n. form_from ts i ⨾ forms_from ts n) (sym c.after-next.ensures.behind) in
    record {
      place = c.after-next.ensures.within.1;
      within = All-same (IsSortId c.read_sort.new.table.sorts) _ _ c.in_ok-push.ensures.items
          (All-push (IsSortId c.read_sort.new.table.sorts) ks k (All-weaker (IsSortId c.loop-alloc.table.sorts) (IsSortId c.read_sort.new.table.sorts) (sort_within c.loop-alloc.table.sorts c.read_sort.new.table.sorts more) ks inv.within) c.in_ok-read_sort.ensures.within);
      rest = sorts-pushed c.args.table.now c.loop-alloc.table c.read_sort.new.table c.args.scope.now inv.grows.sorts more c.requires.scope _ (forms_from ts i) (forms_from ts c.after-next.result) (form_from ts i) ks c.push.new.self.items k inv.within inv.rest forms c.in_ok-read_sort.ensures.sort c.in_ok-push.ensures.items;
      grows = table-grows c.args.table.now c.loop-alloc.table c.read_sort.new.table inv.grows c.read_sort.ensures.grows;
      symbols = c.read_sort.ensures.symbols ∙ inv.symbols;
      trees = c.read_sort.ensures.trees ∙ inv.trees;
    }
