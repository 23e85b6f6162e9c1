use Rattle.cnf_polarity.proofs.NodeConnectives.{told-not, no-connective}
use Rattle.cnf_polarity.proofs.shapes.connective_of.Goals as goal

pub returns-then-not-is_formula-clause-connective :
    goal.returns-then-not-is_formula-clause-connective
returns-then-not-is_formula-clause-connective c =
    no-connective _ (c.know_table.ensures.sorted _ c.requires) (told-not _ c.if-not-is_formula.true c.is_formula.ensures)
