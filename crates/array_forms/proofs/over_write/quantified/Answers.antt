use Rattle.std.proofs.Common.{◌≡◌, Some, is_some, option_copied, ap, sym, ◌∙◌}
use Rattle.smt_terms.specs.Rank.{sort_of}
use Rattle.smt_terms.specs.Term.{quantified}
use Rattle.term_table.specs.Formulas.{tree}
use Rattle.term_walk.specs.Places.{result_at}
use Rattle.normal_forms.specs.Shape.{is_universally_quantified, quantifier_seen, variables_of}
use Rattle.array_forms.specs.ReadNodes.{HasReads}
use Rattle.array_forms.specs.Reads.{reads}
use Rattle.array_forms.proofs.OverResults.{copied-some, quantified-bool, quantified-reads}
use Rattle.array_forms.proofs.ReadsKeep.{reads_keep}
use Rattle.array_forms.proofs.over_write.quantified.Goals as goal

pub unwrap-body-requires : goal.unwrap-body-requires
unwrap-body-requires c =
    copied-some c.get.result (ap is_some c.get.ensures ∙ c.body_of.ensures.operand (λ k. is_some (result_at c.args.kept.now k.0)) c.requires.kids)

pub bind-requires-clause-formula : goal.bind-requires-clause-formula
bind-requires-clause-formula c =
    let u = tree c.args.table.now c.args.id in
    record { node = c.requires.node; sort = (quantified-bool u c.requires.quantified (c.know_table.ensures.sorted c.args.id.0 c.requires.node)).0 }

pub bind-requires-clause-body : goal.bind-requires-clause-body
bind-requires-clause-body c =
    let t = c.args.table.now in
    let u = tree t c.args.id in
    let b = tree t c.body_of.result in
    let found : result_at c.args.kept.now c.body_of.result.0 ≡ Some c.unwrap-body.result.now = sym c.get.ensures ∙ ap option_copied c.unwrap-body.ensures in
    let has : HasReads t b c.unwrap-body.result.now = c.requires.related.related c.body_of.result c.unwrap-body.result.now found in
    let sort = (quantified-bool u c.requires.quantified (c.know_table.ensures.sorted c.args.id.0 c.requires.node)).1 in
    record {
      node = has.node;
      sort = ap sort_of has.term ∙ (reads_keep b (c.know_table.ensures.sorted c.body_of.result.0 c.body_of.ensures.node)).sort ∙ ap sort_of c.body_of.ensures.term ∙ sort;
    }

pub returns-clause-result : goal.returns-clause-result
returns-clause-result c =
    let t = c.args.table.now in
    let u = tree t c.args.id in
    let found : result_at c.args.kept.now c.body_of.result.0 ≡ Some c.unwrap-body.result.now = sym c.get.ensures ∙ ap option_copied c.unwrap-body.ensures in
    let has : HasReads t (tree t c.body_of.result) c.unwrap-body.result.now = c.requires.related.related c.body_of.result c.unwrap-body.result.now found in
    record {
      node = c.in_ok-result.ensures.formula.node;
      term =
          c.in_ok-result.ensures.term
          ∙ ap (λ b. quantified (quantifier_seen b) (variables_of u) (tree t c.unwrap-body.result.now)) c.is_universal-universal.ensures
          ∙ ap (quantified (quantifier_seen (is_universally_quantified u)) (variables_of u)) (has.term ∙ ap reads c.body_of.ensures.term)
          ∙ sym (quantified-reads u c.requires.quantified);
    }
