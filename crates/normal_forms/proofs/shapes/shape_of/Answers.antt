use Rattle.term_table.specs.Formulas.{kind}
use Rattle.normal_forms.proofs.NodeShapes.{choice-kind}
use Rattle.normal_forms.proofs.shapes.shape_of.Goals as goal

pub returns-in-Ite : goal.returns-in-Ite
unfolding kind
returns-in-Ite c = choice-kind _ _ c.in-Ite.ensures.term c.requires.sort
