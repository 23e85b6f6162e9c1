use Rattle.std.proofs.Common.{option_copied, ap, sym, ◌∙◌}
use Rattle.term_table.specs.Formulas.{no_tree, tree}
use Rattle.array_forms.specs.ReadNodes.{HasReads}
use Rattle.array_forms.specs.Reads.{reads}
use Rattle.array_forms.proofs.over_write.read_over_write.Goals as goal

found : (g : _) (c : goal.After-answer-1 g) → HasReads c.walk.new.table (tree c.walk.new.table c.args.id) c.unwrap-answer.result.now
found g c = c.walk.ensures.fits.related.related c.args.id c.unwrap-answer.result.now (sym c.get.ensures ∙ ap option_copied c.unwrap-answer.ensures)

pub returns-clause-node : goal.returns-clause-node
returns-clause-node g c = (found g c).node

pub returns-clause-term : goal.returns-clause-term
returns-clause-term g c = (found g c).term ∙ ap reads (c.walk.ensures.grows.trees.same c.args.id.0 no_tree c.requires.node)
