use Rattle.std.proofs.Common.{◌++◌, ◌∙◌, ap, sym, append-nil}
use Rattle.model_texts.proofs.PrintedTables.{number_line, nothing_there, one_there}
use Rattle.model_texts.proofs.print_tables.push_numbers.Goals as goal

pub returns-then-is_zero : goal.returns-then-is_zero
returns-then-is_zero c =
    sym (append-nil c.args.out.now.items) ∙ ap (λ ys. c.args.out.now.items ++ ys) (sym (nothing_there c.args.name.now c.args.numbers.now (sym c.is_zero.ensures ∙ c.if-is_zero.true)))

pub returns : goal.returns
returns c =
    number_line c.args.name.now c.args.numbers.now c.args.out.now.items c.extend_from_slice.new.self.items c.symbol_text.new.out.items c.extend_from_slice-2.new.self.items c.push_number_rows.new.out.items c.extend_from_slice-3.new.self.items
    c.in_ok-extend_from_slice.ensures.items c.in_ok-symbol_text.ensures.ok c.in_ok-extend_from_slice-2.ensures.items c.in_ok-push_number_rows.ensures c.in_ok-extend_from_slice-3.ensures.items
    ∙ ap (λ ys. c.args.out.now.items ++ ys) (one_there c.args.name.now c.args.numbers.now (sym c.is_zero.ensures ∙ c.if-is_zero.false))
