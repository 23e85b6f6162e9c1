use Rattle.std.proofs.Common.{◌≡◌, ◌++◌, map}
use Rattle.std.specs.Prelude.{flat_map}
use Rattle.smt_values.specs.SizeTable.{sizes_by}
use Rattle.smt_values.specs.SortIds.{sort_at}
use Rattle.script_read.specs.CommandLists.{free_name}
use Rattle.model_texts.specs.ModelLines.{sort_entry, line_of}
use Rattle.model_texts.proofs.PrintedEntries.{lines_left}
use Rattle.model_texts.proofs.print.push_sorts.Given as goal

-- what is printed, and then the lines that are left
abbrev pub invariant-loop-sort : goal.invariant-loop-sort
invariant-loop-sort l =
    l.out.items ++ lines_left (sort_entry (sizes_by l.table.sorts l.sizes)) (λ s. free_name (sort_at l.table.sorts s)) l.sorts l.sort-index
    ≡ l.fn.out.items ++ flat_map line_of (map (sort_entry (sizes_by l.table.sorts l.sizes)) (map (λ s. free_name (sort_at l.table.sorts s)) l.sorts))
