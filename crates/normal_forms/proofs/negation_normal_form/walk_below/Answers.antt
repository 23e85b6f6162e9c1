use Rattle.std.proofs.Common.{◌≡◌, ap, sym, ◌∙◌, subst, arith}
use Rattle.term_table.specs.Formulas.{tree, trees_at, operands, AreNodes}
use Rattle.term_walk.specs.Subterms.{all_subterms, places}
use Rattle.normal_forms.proofs.BelowRoot.{below-places}
use Rattle.normal_forms.proofs.Kept.{results-below, below-nodes}
use Rattle.normal_forms.proofs.negation_normal_form.walk_below.Goals as goal

pub returns-in_err-kids-clause-most : goal.returns-in_err-kids-clause-most
returns-in_err-kids-clause-most g c = let one = below-places (tree c.args.table.now c.args.id) in omega (arith, one)

pub returns-in_err-walk_all-clause-most : goal.returns-in_err-walk_all-clause-most
returns-in_err-walk_all-clause-most g c =
    let t = c.args.table.now in
    let kids : trees_at t c.deref.result.now ≡ operands (tree t c.args.id) = ap (trees_at t) (c.deref.ensures ∙ c.in_ok-kids.ensures.ok) ∙ c.kids.ensures.terms in
    let same = ap (λ us. places (all_subterms us)) kids in
    let one = below-places (tree t c.args.id) in
    let most = c.walk_all.ensures.most in
    omega (arith, same, one, most)

pub returns-clause-kids : goal.returns-clause-kids
returns-clause-kids g c =
    let t = c.args.table.now in
    let kids : trees_at t c.deref.result.now ≡ operands (tree t c.args.id) = ap (trees_at t) (c.deref.ensures ∙ c.in_ok-kids.ensures.ok) ∙ c.kids.ensures.terms in
    results-below t c.walk_all.new.table c.walk_all.new.kept (tree t c.args.id) c.deref.result.now c.know_table.ensures c.walk_all.ensures.grows (subst (AreNodes t) (sym (c.deref.ensures ∙ c.in_ok-kids.ensures.ok)) (below-nodes t c.args.id c.kids.result.now c.requires.formula.node c.kids.ensures.below)) kids c.in_ok-walk_all.ensures.roots

pub returns-clause-most : goal.returns-clause-most
returns-clause-most g c =
    let t = c.args.table.now in
    let kids : trees_at t c.deref.result.now ≡ operands (tree t c.args.id) = ap (trees_at t) (c.deref.ensures ∙ c.in_ok-kids.ensures.ok) ∙ c.kids.ensures.terms in
    let same = ap (λ us. places (all_subterms us)) kids in
    let one = below-places (tree t c.args.id) in
    let most = c.walk_all.ensures.most in
    omega (arith, same, one, most)
