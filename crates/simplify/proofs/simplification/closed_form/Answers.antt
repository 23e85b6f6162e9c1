use Rattle.std.proofs.Common.{◌≡◌, Some, is_some, option_copied, ap, sym, ◌∙◌}
use Rattle.smt_terms.specs.Rank.{sort_of}
use Rattle.smt_terms.specs.Sorts.{bool}
use Rattle.term_table.specs.Formulas.{tree}
use Rattle.term_walk.specs.Places.{result_at}
use Rattle.simplify.specs.Reduced.{IsSimplified}
use Rattle.simplify.specs.Simplify.{simp}
use Rattle.simplify.proofs.SimplifiedNodes.{copied-some, body-bool, quantified-formula, simplified-formula, simplified-quantified}
use Rattle.simplify.proofs.simplification.closed_form.Goals as goal

pub unwrap-body-requires : goal.unwrap-body-requires
unwrap-body-requires c =
    copied-some c.get.result (ap is_some c.get.ensures ∙ c.body_of.ensures.operand (λ k. is_some (result_at c.args.kept.now k.0)) c.requires.kids)

pub quantified_form-requires-clause-formula : goal.quantified_form-requires-clause-formula
quantified_form-requires-clause-formula c = quantified-formula c.args.table.now c.args.id c.requires.node (c.know_table.ensures.sorted c.args.id.0 c.requires.node) c.requires.quantified

pub quantified_form-requires-clause-body : goal.quantified_form-requires-clause-body
quantified_form-requires-clause-body c =
    let t = c.args.table.now in
    let u = tree t c.args.id in
    let k = c.body_of.result in
    let r = c.unwrap-body.result.now in
    let found : result_at c.args.kept.now k.0 ≡ Some r = sym c.get.ensures ∙ ap option_copied c.unwrap-body.ensures in
    let formula = quantified-formula t c.args.id c.requires.node (c.know_table.ensures.sorted c.args.id.0 c.requires.node) c.requires.quantified in
    let sort : sort_of (tree t k) ≡ Some bool = ap sort_of c.body_of.ensures.term ∙ body-bool u c.requires.quantified formula.sort in
    simplified-formula t k r (c.know_table.ensures.sorted k.0 c.body_of.ensures.node) sort (c.requires.related.related k r found)

pub returns-clause-form : goal.returns-clause-form
returns-clause-form c =
    let t = c.args.table.now in
    let k = c.body_of.result in
    let r = c.unwrap-body.result.now in
    let found : result_at c.args.kept.now k.0 ≡ Some r = sym c.get.ensures ∙ ap option_copied c.unwrap-body.ensures in
    let body : IsSimplified t (tree t k) r = c.requires.related.related k r found in
    record {
      node = c.in_ok-form.ensures.node;
      term = c.in_ok-form.ensures.term ∙ simplified-quantified (tree t c.args.id) (tree t r) c.requires.quantified (body.term ∙ ap simp c.body_of.ensures.term);
    }
