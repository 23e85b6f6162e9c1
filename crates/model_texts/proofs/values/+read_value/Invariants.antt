use Rattle.script_terms.specs.Places.{form_from}
use Rattle.smt_values.specs.SortIds.{sort_at}
use Rattle.std.proofs.Common.{length}
use Rattle.model_texts.specs.ValueForms.{value_in}
use Rattle.model_texts.proofs.StoreReading.{Storing}
use Rattle.model_texts.proofs.values.+read_value.Given as goal

abbrev pub decreases-read_value : goal.decreases-read_value
decreases-read_value l = l.sort.0

-- the array so far, in which what is left is stored yet
abbrev pub invariant-loop-stored : goal.invariant-loop-stored
invariant-loop-stored l =
    Storing l.table l.forest.tokens (value_in (form_from l.forest.tokens l.at) (sort_at l.table.sorts l.fn.sort)) (sort_at l.table.sorts l.index) (sort_at l.table.sorts l.element) l.fn.elements l.chain.stores.items l.array l.elements

abbrev pub decreases-loop-stored : goal.decreases-loop-stored
decreases-loop-stored l = length l.chain.stores.items
