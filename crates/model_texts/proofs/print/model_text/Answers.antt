use Rattle.std.proofs.Common.{◌++◌, ◌∙◌, ap, sym, subst, map}
use Rattle.std.specs.Prelude.{codes, flat_map, All}
use Rattle.smt_values.specs.SizeTable.{sizes_by}
use Rattle.smt_values.specs.SortIds.{sort_at}
use Rattle.term_table.specs.Formulas.{symbol_at}
use Rattle.script_read.specs.CommandLists.{free_name}
use Rattle.models.specs.LiveNumbers.{signature_of}
use Rattle.models.specs.ModelView.{model_at}
use Rattle.model_texts.specs.Entries.{division_table, modulus_table}
use Rattle.model_texts.specs.ModelLines.{sort_entry, symbol_entry, table_entries, line_of}
use Rattle.model_texts.specs.Printing.{HasGraph}
use Rattle.model_texts.proofs.PrintedEntries.{all_there, whole_text}
use Rattle.model_texts.proofs.print.model_text.Goals as goal

pub push_symbols-requires-clause-functions : goal.push_symbols-requires-clause-functions
push_symbols-requires-clause-functions c =
    let t = c.args.table.now in
    let m = model_at t c.args.model.now in
    subst (λ ks. All (λ s. HasGraph m (symbol_at t s)) ks) (sym c.symbols.ensures) (all_there t m (signature_of t c.args.signature.now).sorts c.args.signature.now.symbols c.requires.over)

pub returns : goal.returns
returns c =
    let t = c.args.table.now in
    let m = model_at t c.args.model.now in
    whole_text m (signature_of t c.args.signature.now) c.extend_from_slice.new.self.items c.push_sorts.new.out.items c.push_symbols.new.out.items c.push_numbers.new.out.items c.push_numbers-2.new.out.items c.extend_from_slice-2.new.self.items
    (c.in_ok-extend_from_slice.ensures.items ∙ ap (λ ys. ys ++ codes "(\n") c.new-text.ensures.items)
    (c.in_ok-push_sorts.ensures ∙ (λ j. c.extend_from_slice.new.self.items ++ flat_map line_of (map (sort_entry (sizes_by t.sorts (c.sizes.ensures j))) (map (λ s. free_name (sort_at t.sorts s)) (c.sorts.ensures j)))))
    (c.in_ok-push_symbols.ensures ∙ ap (λ ks. c.push_sorts.new.out.items ++ flat_map line_of (map (symbol_entry m) (map (symbol_at t) ks))) c.symbols.ensures)
    (c.in_ok-push_numbers.ensures ∙ ap (λ g. c.push_symbols.new.out.items ++ flat_map line_of (table_entries division_table g)) c.by_zero.ensures)
    (c.in_ok-push_numbers-2.ensures ∙ ap (λ g. c.push_numbers.new.out.items ++ flat_map line_of (table_entries modulus_table g)) c.by_zero-2.ensures)
    c.in_ok-extend_from_slice-2.ensures.items
