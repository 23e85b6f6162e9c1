use Rattle.std.proofs.Common.{◌≡◌, ◌+◌, true, Some, ap, sym, ◌∙◌, arith}
use Rattle.std.specs.Prelude.{codes, bytes_eq}
use Rattle.script_terms.specs.Known.{sorts_known}
use Rattle.script_terms.specs.Places.{forms_from}
use Rattle.script_terms.specs.SortForms.{applied_sort, array_sort, parts_in}
use Rattle.script_terms.specs.SortSteps.{forms_size}
use Rattle.script_terms.proofs.SortReading.{part-moved, applied-array}
use Rattle.script_terms.proofs.sorts.applied_part.Goals as goal

pub returns-then-eq : goal.returns-then-eq
returns-then-eq c =
    let ts = c.args.forest.now.tokens in
    let live = sorts_known c.args.table.now c.args.scope.now in
    let fs = forms_from ts c.args.i in
    let word : bytes_eq c.args.name.now (codes "Array") ≡ true = ap (bytes_eq c.args.name.now) (sym c.as_slice.ensures) ∙ sym c.eq.ensures ∙ c.if-eq.true in
    part-moved live ts c.args.table.now.sorts (array_sort c.args.place (parts_in live fs)) (applied_sort live c.args.place (parts_in live fs) (Some c.args.name.now)) (forms_size fs + 2) (forms_size fs + 2) c.array_part.result
    (applied-array live c.args.place (parts_in live fs) c.args.name.now word) (omega arith) (c.array_part.ensures live c.args.table.now.sorts)
