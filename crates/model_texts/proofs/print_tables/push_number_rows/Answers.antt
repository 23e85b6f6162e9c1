use Rattle.std.proofs.Common.{◌++◌, ◌∙◌, ap, sym, map, arith}
use Rattle.std.proofs.lemmas.List.{length-map}
use Rattle.smt_lex.specs.FormText.{form_text}
use Rattle.smt_terms.specs.Models.{NumberRow}
use Rattle.smt_terms.specs.Sorts.{int}
use Rattle.term_table.specs.WrittenForms.{integer_form}
use Rattle.model_texts.specs.ModelLines.{row_of}
use Rattle.model_texts.proofs.PrintedTables.{as_it_stands, number_parameters, number_row_joined, number_row_at, rows-begin, rows-more, rows-end}
use Rattle.model_texts.proofs.print_tables.push_number_rows.Goals as goal

pub loop-i-init : goal.loop-i-init
loop-i-init c = rows-begin number_parameters int (map row_of c.args.numbers.now.rows) (integer_form c.args.numbers.now.otherwise) c.args.out.now.items

pub loop-i-preserved : goal.loop-i-preserved
loop-i-preserved c =
    let g = c.args.numbers.now in
    let row : NumberRow = record { key = c.row-key.result.0; result = c.row-key.result.1 } in
    rows-more number_parameters int (map row_of g.rows) (integer_form g.otherwise) c.loop-i.i (row_of row) c.loop-i.out.items c.push.new.self.items _ (number_row_at g.rows c.loop-i.i row c.row-key.ensures.row)
    (number_row_joined c.row-key.result.0 c.row-key.result.1 c.loop-i.out.items c.extend_from_slice.new.self.items c.scalar_text.new.out.items c.extend_from_slice-in-loop-i.new.self.items c.scalar_text-in-loop-i.new.out.items c.push.new.self.items
    c.in_ok-extend_from_slice.ensures.items (c.in_ok-scalar_text.ensures.ok ∙ ap (λ n. c.extend_from_slice.new.self.items ++ form_text (integer_form n)) (as_it_stands c.row-key.result.0 c.row-key.ensures.key))
    c.in_ok-extend_from_slice-2.ensures.items (c.in_ok-scalar_text-2.ensures.ok ∙ ap (λ n. c.extend_from_slice-in-loop-i.new.self.items ++ form_text (integer_form n)) (as_it_stands c.row-key.result.1 c.row-key.ensures.value)) c.in_ok-push.ensures.items)
    c.loop-i.invariant

pub returns : goal.returns
returns c =
    let g = c.args.numbers.now in
    let many = c.len-i-end.ensures in
    let long = length-map g.rows row_of in
    let past = c.loop-i-test.false in
    rows-end number_parameters int (map row_of g.rows) (integer_form g.otherwise) c.loop-i.i c.len.result c.loop-i.out.items c.scalar_text-2.new.out.items c.push_repeated.new.out.items _ (omega (arith, many, past, long)) (c.len.ensures ∙ sym long) c.loop-i.invariant
    (c.in_ok-scalar_text-3.ensures.ok ∙ ap (λ n. c.loop-i.out.items ++ form_text (integer_form n)) (as_it_stands c.otherwise.result c.otherwise.ensures.within ∙ c.otherwise.ensures.value)) c.in_ok-push_repeated.ensures
