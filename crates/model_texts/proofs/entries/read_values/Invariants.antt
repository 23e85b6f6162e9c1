use Rattle.std.proofs.Common.{◌≤◌, ◌-◌, List, length}
use Rattle.smt_values.specs.SortIds.{sort_at}
use Rattle.script_terms.specs.Places.{forms_from}
use Rattle.model_texts.specs.Behind.{LeavesToRead}
use Rattle.model_texts.specs.Entries.{Given, elements_met}
use Rattle.model_texts.proofs.entries.read_values.Given as goal

-- what is left are the values from here on
abbrev pub invariant-loop-alloc : goal.invariant-loop-alloc
invariant-loop-alloc l = record {
  within : l.next ≤ length l.forest.tokens;
  left : (gs : List Given) → LeavesToRead l.table l.fn.elements l.elements (elements_met (sort_at l.table.sorts l.sort) (forms_from l.forest.tokens l.first) gs) (elements_met (sort_at l.table.sorts l.sort) (forms_from l.forest.tokens l.next) gs);
}

abbrev pub decreases-loop-alloc : goal.decreases-loop-alloc
decreases-loop-alloc l = length l.forest.tokens - l.next
