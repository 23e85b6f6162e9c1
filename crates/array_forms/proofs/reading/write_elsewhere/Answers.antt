use Rattle.std.proofs.Common.{sym, ◌∙◌}
use Rattle.term_table.specs.Formulas.{tree}
use Rattle.array_forms.proofs.OverWrites.{ends-at-write}
use Rattle.array_forms.proofs.reading.write_elsewhere.Goals as goal

pub returns-then-are_same-clause-write : goal.returns-then-are_same-clause-write
returns-then-are_same-clause-write c =
    let t = c.args.table.now in
    let w = c.in_ok-write.write in
    ends-at-write (tree t c.args.array) (tree t c.args.index) (tree t w.before) (tree t w.index) (tree t w.value) c.in_ok-write.ensures.term (sym c.are_same.ensures ∙ c.if-are_same.true)
