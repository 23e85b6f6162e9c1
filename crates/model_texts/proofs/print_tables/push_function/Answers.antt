use Rattle.std.proofs.Common.{◌++◌, ◌∙◌, ap, map}
use Rattle.smt_lex.specs.FormText.{form_text}
use Rattle.smt_lex.specs.Names.{printed_symbol}
use Rattle.smt_values.specs.SortIds.{sort_at}
use Rattle.term_table.specs.Formulas.{symbol_at}
use Rattle.model_texts.specs.ModelLines.{function_form}
use Rattle.model_texts.proofs.PrintedTables.{rows_of_rank, function_text}
use Rattle.model_texts.proofs.print_tables.push_function.Goals as goal

pub push_rows-requires-clause-rows : goal.push_rows-requires-clause-rows
push_rows-requires-clause-rows c =
    let sorts = c.args.table.now.sorts in
    rows_of_rank (symbol_at c.args.table.now c.args.symbol) (map (sort_at sorts) c.symbol_rank.result.0.now) (sort_at sorts c.symbol_rank.result.1) c.args.graph.now c.symbol_rank.ensures.args c.symbol_rank.ensures.to c.requires.graph

pub returns : goal.returns
returns c =
    let sorts = c.args.table.now.sorts in
    let f = symbol_at c.args.table.now c.args.symbol in
    let g = c.args.graph.now in
    function_text f.name (map (sort_at sorts) c.symbol_rank.result.0.now) (sort_at sorts c.symbol_rank.result.1) g c.args.out.now.items c.extend_from_slice.new.self.items c.symbol_text.new.out.items c.push.new.self.items
    c.push_parameters.new.out.items c.push-2.new.self.items c.sort_text.new.out.items c.push-3.new.self.items c.push_rows.new.out.items c.push-4.new.self.items
    c.in_ok-extend_from_slice.ensures.items (c.in_ok-symbol_text.ensures.ok ∙ ap (λ n. c.extend_from_slice.new.self.items ++ printed_symbol n) c.symbol_name.ensures.name) c.in_ok-push.ensures.items
    c.in_ok-push_parameters.ensures c.in_ok-push-2.ensures.items c.in_ok-sort_text.ensures.ok c.in_ok-push-3.ensures.items c.in_ok-push_rows.ensures c.in_ok-push-4.ensures.items
    ∙ (λ j. c.args.out.now.items ++ form_text (function_form (record { name = f.name; args = c.symbol_rank.ensures.args j; result = c.symbol_rank.ensures.to j }) g))
