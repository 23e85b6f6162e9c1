use Rattle.std.proofs.Common.{◌≡◌, option_copied, ap, sym, ◌∙◌}
use Rattle.term_table.specs.Formulas.{no_tree, tree}
use Rattle.simplify.specs.Reduced.{IsSimplified}
use Rattle.simplify.specs.Simplify.{simp}
use Rattle.simplify.proofs.simplification.simplify.Goals as goal

same_term : (g : _) (c : goal.After-form-1 g) → tree c.walk.new.table c.args.id ≡ tree c.args.table.now c.args.id
same_term g c = c.walk.ensures.grows.trees.same c.args.id.0 no_tree c.requires.node

found_form : (g : _) (c : goal.After-form-1 g) → IsSimplified c.walk.new.table (tree c.walk.new.table c.args.id) c.unwrap-form.result.now
found_form g c = c.walk.ensures.fits.related.related c.args.id c.unwrap-form.result.now (sym c.get.ensures ∙ ap option_copied c.unwrap-form.ensures)

pub returns-clause-node : goal.returns-clause-node
returns-clause-node g c = (found_form g c).node

pub returns-clause-term : goal.returns-clause-term
returns-clause-term g c = (found_form g c).term ∙ ap simp (same_term g c)
