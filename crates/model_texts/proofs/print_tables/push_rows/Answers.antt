use Rattle.std.proofs.Common.{◌++◌, ◌∙◌, ap, map, arith}
use Rattle.smt_lex.specs.FormText.{form_text}
use Rattle.smt_terms.specs.Models.{Row}
use Rattle.smt_values.specs.Meaning.{meaning}
use Rattle.smt_values.specs.SortIds.{sort_at}
use Rattle.models.specs.GraphRows.{meanings}
use Rattle.model_texts.specs.ModelLines.{parameters, value_form}
use Rattle.model_texts.proofs.PrintedTables.{rows-begin, rows-more, row_joined, rows-end, keys_of_sorts, result_of_sort, otherwise_of_sort}
use Rattle.model_texts.proofs.print_tables.push_rows.Goals as goal

pub loop-i-init : goal.loop-i-init
loop-i-init c =
    let to = sort_at c.args.table.now.sorts c.args.to in
    rows-begin (parameters 0 (map (sort_at c.args.table.now.sorts) c.args.sorts.now)) to c.args.graph.now.rows (value_form to c.args.graph.now.otherwise) c.args.out.now.items

pub push_condition-requires-clause-keys : goal.push_condition-requires-clause-keys
push_condition-requires-clause-keys c =
    keys_of_sorts (map (sort_at c.args.table.now.sorts) c.args.sorts.now) (sort_at c.args.table.now.sorts c.args.to) c.args.graph.now c.requires.rows c.loop-i.i c.row.result.0.now c.row.result.1.now c.row.ensures.keys c.row.ensures.row

pub push_value-requires-clause-value : goal.push_value-requires-clause-value
push_value-requires-clause-value c =
    result_of_sort (map (sort_at c.args.table.now.sorts) c.args.sorts.now) (sort_at c.args.table.now.sorts c.args.to) c.args.graph.now c.requires.rows c.loop-i.i c.row.result.0.now c.row.result.1.now c.row.ensures.value c.row.ensures.row

pub push_value-requires-2-clause-value : goal.push_value-requires-2-clause-value
push_value-requires-2-clause-value c =
    otherwise_of_sort (map (sort_at c.args.table.now.sorts) c.args.sorts.now) (sort_at c.args.table.now.sorts c.args.to) c.args.graph.now c.requires.rows c.otherwise.result.now c.otherwise.ensures.held c.otherwise.ensures.value

pub loop-i-preserved : goal.loop-i-preserved
loop-i-preserved c =
    let xs = parameters 0 (map (sort_at c.args.table.now.sorts) c.args.sorts.now) in
    let to = sort_at c.args.table.now.sorts c.args.to in
    let g = c.args.graph.now in
    let row : Row = record { keys = meanings c.row.result.0.now; result = meaning c.row.result.1.now } in
    rows-more xs to g.rows (value_form to g.otherwise) c.loop-i.i row c.loop-i.out.items c.push-in-loop-i.new.self.items _ c.row.ensures.row
    (row_joined xs to row c.loop-i.out.items c.extend_from_slice.new.self.items c.push_condition.new.out.items c.push.new.self.items c.push_value.new.out.items c.push-in-loop-i.new.self.items
    c.in_ok-extend_from_slice.ensures.items c.in_ok-push_condition.ensures c.in_ok-push.ensures.items c.in_ok-push_value.ensures c.in_ok-push-2.ensures.items)
    c.loop-i.invariant

pub returns : goal.returns
returns c =
    let xs = parameters 0 (map (sort_at c.args.table.now.sorts) c.args.sorts.now) in
    let to = sort_at c.args.table.now.sorts c.args.to in
    let g = c.args.graph.now in
    let many = c.len-i-end.ensures in
    let past = c.loop-i-test.false in
    rows-end xs to g.rows (value_form to g.otherwise) c.loop-i.i c.len.result c.loop-i.out.items c.push_value-2.new.out.items c.push_repeated.new.out.items _ (omega (arith, many, past)) c.len.ensures c.loop-i.invariant
    (c.in_ok-push_value-2.ensures ∙ ap (λ v. c.loop-i.out.items ++ form_text (value_form to v)) c.otherwise.ensures.value) c.in_ok-push_repeated.ensures
