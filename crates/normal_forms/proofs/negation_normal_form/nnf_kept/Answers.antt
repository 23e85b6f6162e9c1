use Rattle.std.proofs.Common.{◌≡◌, option_copied, ap, sym, ◌∙◌, subst}
use Rattle.smt_terms.specs.Rank.{sort_of}
use Rattle.smt_terms.specs.Shapes.{is_nnf}
use Rattle.term_table.specs.Formulas.{no_tree, tree}
use Rattle.normal_forms.specs.Nodes.{IsFormula}
use Rattle.normal_forms.specs.Nnf.{nnf}
use Rattle.normal_forms.proofs.NnfShape.{nnf-shape}
use Rattle.normal_forms.proofs.Kept.{fits-stay}
use Rattle.normal_forms.proofs.negation_normal_form.nnf_kept.Goals as goal

pub returns-then-is_own_form-clause-shape : goal.returns-then-is_own_form-clause-shape
returns-then-is_own_form-clause-shape g c = ap is_nnf (sym (c.is_own_form.ensures c.if-is_own_form.true)) ∙ nnf-shape (tree c.args.table.now c.args.id)

pub returns-in_err-normal-clause-fits : goal.returns-in_err-normal-clause-fits
returns-in_err-normal-clause-fits g c = fits-stay c.walk_below.new.table c.root_form.new.table c.walk_below.new.kept c.root_form.ensures.grows c.walk_below.ensures.fits

pub returns-then-is_none-clause-shape : goal.returns-then-is_none-clause-shape
returns-then-is_none-clause-shape g c = ap is_nnf c.in_ok-normal.ensures.term ∙ nnf-shape (tree c.walk_below.new.table c.args.id)

pub returns-then-is_none-clause-fits : goal.returns-then-is_none-clause-fits
returns-then-is_none-clause-fits g c = fits-stay c.walk_below.new.table c.root_form.new.table c.walk_below.new.kept c.root_form.ensures.grows c.walk_below.ensures.fits

pub returns-clause-formula : goal.returns-clause-formula
returns-clause-formula g c =
    let same : tree c.walk.new.table c.args.id ≡ tree c.args.table.now c.args.id = c.walk.ensures.grows.trees.same c.args.id.0 no_tree c.requires.formula.node in
    subst (IsFormula c.walk.new.table) (sym c.positive.ensures) (c.walk.ensures.fits.related.related c.args.id c.unwrap-forms.result.now (sym c.get-2.ensures ∙ ap option_copied c.unwrap-forms.ensures) (ap sort_of same ∙ c.requires.formula.sort)).positive

pub returns-clause-term : goal.returns-clause-term
returns-clause-term g c =
    let same : tree c.walk.new.table c.args.id ≡ tree c.args.table.now c.args.id = c.walk.ensures.grows.trees.same c.args.id.0 no_tree c.requires.formula.node in
    ap (tree c.walk.new.table) c.positive.ensures ∙ (c.walk.ensures.fits.related.related c.args.id c.unwrap-forms.result.now (sym c.get-2.ensures ∙ ap option_copied c.unwrap-forms.ensures) (ap sort_of same ∙ c.requires.formula.sort)).yes ∙ ap nnf same

pub returns-clause-shape : goal.returns-clause-shape
returns-clause-shape g c =
    let same : tree c.walk.new.table c.args.id ≡ tree c.args.table.now c.args.id = c.walk.ensures.grows.trees.same c.args.id.0 no_tree c.requires.formula.node in
    ap is_nnf (ap (tree c.walk.new.table) c.positive.ensures ∙ (c.walk.ensures.fits.related.related c.args.id c.unwrap-forms.result.now (sym c.get-2.ensures ∙ ap option_copied c.unwrap-forms.ensures) (ap sort_of same ∙ c.requires.formula.sort)).yes) ∙ nnf-shape (tree c.walk.new.table c.args.id)
