use Rattle.std.proofs.Common.{◌≡◌, option_copied, ap, sym, ◌∙◌}
use Rattle.smt_terms.specs.Rank.{sort_of}
use Rattle.smt_terms.specs.Shapes.{is_aig}
use Rattle.term_table.specs.Formulas.{no_tree, tree}
use Rattle.normal_forms.specs.Aig.{aig}
use Rattle.normal_forms.specs.InvertedNodes.{IsInverted}
use Rattle.normal_forms.proofs.AigShape.{aig-form}
use Rattle.normal_forms.proofs.and_inverter_form.aig_kept.Goals as goal

same_term : (g : _) (c : goal.After-form-1 g) → tree c.walk.new.table c.args.id ≡ tree c.args.table.now c.args.id
same_term g c = c.walk.ensures.grows.trees.same c.args.id.0 no_tree c.requires.formula.node

found_form : (g : _) (c : goal.After-form-1 g) → IsInverted c.walk.new.table (tree c.walk.new.table c.args.id) c.unwrap-form.result.now
found_form g c = c.walk.ensures.fits.related.related c.args.id c.unwrap-form.result.now (sym c.get.ensures ∙ ap option_copied c.unwrap-form.ensures) (ap sort_of (same_term g c) ∙ c.requires.formula.sort)

pub returns-clause-formula : goal.returns-clause-formula
returns-clause-formula g c = (found_form g c).formula

pub returns-clause-term : goal.returns-clause-term
returns-clause-term g c = (found_form g c).term ∙ ap aig (same_term g c)

pub returns-clause-shape : goal.returns-clause-shape
returns-clause-shape g c = ap is_aig (found_form g c).term ∙ aig-form (tree c.walk.new.table c.args.id)
