use Rattle.std.proofs.Common.{ap, sym, ◌∙◌}
use Rattle.term_table.specs.Formulas.{tree}
use Rattle.array_forms.specs.Reads.{read}
use Rattle.array_forms.proofs.OverWrites.{read-here}
use Rattle.array_forms.proofs.reading.read_at_end.Goals as goal

pub returns-in-Some-clause-term : goal.returns-in-Some-clause-term
returns-in-Some-clause-term c =
    let t = c.args.table.now in
    let j = tree t c.args.index in
    let w = c.in-Some.write in
    let last = c.in-Some.ensures in
    sym (ap (λ a. read a j) last.term ∙ read-here (tree t w.before) (tree t w.index) (tree t w.value) j (c.requires.ends (tree t w.before) (tree t w.index) (tree t w.value) last.term))
