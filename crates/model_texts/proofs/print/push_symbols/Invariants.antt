use Rattle.std.proofs.Common.{◌≡◌, ◌++◌, map}
use Rattle.std.specs.Prelude.{flat_map}
use Rattle.term_table.specs.Formulas.{symbol_at}
use Rattle.models.specs.ModelView.{model_at}
use Rattle.model_texts.specs.ModelLines.{symbol_entry, line_of}
use Rattle.model_texts.proofs.PrintedEntries.{lines_left}
use Rattle.model_texts.proofs.print.push_symbols.Given as goal

-- what is printed, and then the lines that are left
abbrev pub invariant-loop-symbol : goal.invariant-loop-symbol
invariant-loop-symbol l =
    l.out.items ++ lines_left (symbol_entry (model_at l.table l.model)) (symbol_at l.table) l.symbols l.symbol-index
    ≡ l.fn.out.items ++ flat_map line_of (map (symbol_entry (model_at l.table l.model)) (map (symbol_at l.table) l.symbols))
