use Rattle.std.proofs.Common.{◌≡◌, ◌++◌}
use Rattle.smt_values.specs.SortIds.{sort_at}
use Rattle.term_table.specs.WrittenForms.{sort_form}
use Rattle.smt_print.proofs.ListTexts.{list_begun}
use Rattle.smt_print.proofs.commands.push_sorts.Given as goal

abbrev pub invariant-loop-place : goal.invariant-loop-place
invariant-loop-place l = l.out ≡ l.fn.out ++ list_begun (λ s. sort_form (sort_at l.fn.table.sorts s)) l.sorts l.place
