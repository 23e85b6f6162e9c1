use Rattle.std.proofs.Common.{◌||◌, ap, sym, ◌∙◌}
use Rattle.std.specs.List.{list_any}
use Rattle.term_table.specs.Formulas.{tree, operands}
use Rattle.ackermann.specs.Marking.{has_application}
use Rattle.ackermann.proofs.MarkedNodes.{operands-marked, applications-below}
use Rattle.ackermann.proofs.quantified.is_applied.Goals as goal

pub returns-then-is_some : goal.returns-then-is_some
returns-then-is_some c done are ready =
    let u = tree c.args.table.now c.args.id in
    ap (λ b. b || list_any has_application (operands u)) (sym c.if-is_some.true ∙ c.is_some.ensures ∙ c.function_of.ensures.some) ∙ applications-below u

pub returns : goal.returns
returns c done are ready =
    let u = tree c.args.table.now c.args.id in
    c.has_any.ensures
    ∙ operands-marked c.args.table.now has_application c.args.applied.now.keys done c.kids.result.now c.args.id are c.requires ready c.kids.ensures.terms c.kids.ensures.below
    ∙ ap (λ b. b || list_any has_application (operands u)) (sym c.if-is_some.false ∙ c.is_some.ensures ∙ c.function_of.ensures.some)
    ∙ applications-below u
