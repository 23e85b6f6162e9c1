use Rattle.std.proofs.Common.{ap, sym, ◌∙◌}
use Rattle.term_table.specs.Formulas.{tree}
use Rattle.array_forms.specs.Writes.{over_writes}
use Rattle.array_forms.proofs.OverWrites.{over-push, over-other, over-either}
use Rattle.array_forms.proofs.reading.pass.Goals as goal

pub returns-then-are_different_constants-clause-term : goal.returns-then-are_different_constants-clause-term
returns-then-are_different_constants-clause-term c e =
    let t = c.args.table.now in
    let j = tree t c.args.index in
    ap (over_writes t j c.args.passed.now.items) (sym (over-other (tree t c.args.write.index) j (tree t c.args.write.value) e c.requires.other (sym c.are_different_constants.ensures ∙ c.if-are_different_constants.true)))

pub returns-clause-term : goal.returns-clause-term
returns-clause-term c e =
    let t = c.args.table.now in
    let j = tree t c.args.index in
    ap (λ ws. over_writes t j ws e) c.in_ok-push.ensures.items
    ∙ over-push t j c.args.passed.now.items c.args.write e
    ∙ ap (over_writes t j c.args.passed.now.items) (sym (over-either (tree t c.args.write.index) j (tree t c.args.write.value) e c.requires.other (sym c.are_different_constants.ensures ∙ c.if-are_different_constants.false)))
