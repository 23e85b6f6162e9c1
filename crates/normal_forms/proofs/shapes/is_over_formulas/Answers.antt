use Rattle.normal_forms.proofs.NodeShapes.{where-first}
use Rattle.normal_forms.proofs.shapes.is_over_formulas.Goals as goal

pub returns-in-Some : goal.returns-in-Some
returns-in-Some c k =
    where-first _ _ _ k c.requires.formula.sort c.requires.applied c.in-Some.ensures.operand.0 c.in-Some.ensures.operand.1 c.is_formula.ensures
