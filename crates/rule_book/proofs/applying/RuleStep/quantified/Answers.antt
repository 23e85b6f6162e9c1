use Rattle.std.proofs.Common.{◌≡◌, Some, is_some, option_copied, ap, sym, ◌∙◌}
use Rattle.smt_terms.specs.Rank.{sort_of}
use Rattle.smt_terms.specs.Term.{quantified}
use Rattle.term_table.specs.Formulas.{tree}
use Rattle.term_walk.specs.Places.{result_at}
use Rattle.normal_forms.specs.Shape.{quantifier_seen, variables_of}
use Rattle.rule_book.proofs.RuledTerms.{copied-some, quantified-bool, quantified-ruled}
use Rattle.rule_book.proofs.applying.RuleStep.quantified.Goals as goal

pub unwrap-body-requires : goal.unwrap-body-requires
unwrap-body-requires g c =
    copied-some c.get.result (ap is_some c.get.ensures ∙ c.body_of.ensures.operand (λ k. is_some (result_at c.args.kept.now k.0)) c.requires.kids)

pub bind-requires-clause-formula : goal.bind-requires-clause-formula
bind-requires-clause-formula g c =
    let u = tree c.args.table.now c.args.id in
    record { node = c.requires.node; sort = (quantified-bool u c.requires.quantified (c.know_table.ensures.sorted c.args.id.0 c.requires.node)).0 }

pub bind-requires-clause-body : goal.bind-requires-clause-body
bind-requires-clause-body g c =
    let t = c.args.table.now in
    let u = tree t c.args.id in
    let b = c.body_of.result in
    let found : result_at c.args.kept.now b.0 ≡ Some c.unwrap-body.result.now = sym c.get.ensures ∙ ap option_copied c.unwrap-body.ensures in
    let is = c.requires.related.related b c.unwrap-body.result.now found in
    let sort = (quantified-bool u c.requires.quantified (c.know_table.ensures.sorted c.args.id.0 c.requires.node)).1 in
    record {
      node = is.node;
      sort = (c.rewriting_keeps_values.ensures _ (tree t b) (tree t c.unwrap-body.result.now) (c.know_table.ensures.sorted b.0 c.body_of.ensures.node) is.term).sort ∙ ap sort_of c.body_of.ensures.term ∙ sort;
    }

pub returns-clause-ruled : goal.returns-clause-ruled
returns-clause-ruled g c =
    let t = c.args.table.now in
    let u = tree t c.args.id in
    let b = c.body_of.result in
    let r = c.unwrap-body.result.now in
    let found : result_at c.args.kept.now b.0 ≡ Some r = sym c.get.ensures ∙ ap option_copied c.unwrap-body.ensures in
    quantified-ruled t c.bind.new.table u b r c.in_ok-result.result c.requires.quantified c.body_of.ensures.term (c.requires.related.related b r found) c.in_ok-result.ensures.formula.node
    (c.in_ok-result.ensures.term ∙ ap (λ q. quantified (quantifier_seen q) (variables_of u) (tree t r)) c.is_universal-universal.ensures)
