use Rattle.std.proofs.Common.{List, ap, sym, ◌∙◌, subst}
use Rattle.smt_terms.specs.declared.ids.NodeId.{NodeId}
use Rattle.smt_terms.specs.declared.op.Op.TheVariants.{Forall, Exists}
use Rattle.smt_terms.specs.Rank.{sort_of}
use Rattle.smt_terms.specs.Term.{universal, existential, quantified}
use Rattle.term_table.specs.Formulas.{tree, trees_at, binders, body, kind, Makes}
use Rattle.normal_forms.specs.Shape.{variables_of, quantifier_seen}
use Rattle.normal_forms.proofs.Bound.{makes-forall, makes-exists, bound-term, bound-sort}
use Rattle.normal_forms.proofs.binding.bind.Goals as goal

pub intern-requires : goal.intern-requires
intern-requires c =
    subst (λ (ks : List NodeId). Makes c.args.table.now Forall ks) (sym c.deref.ensures.value)
    (makes-forall c.args.table.now (tree c.args.table.now c.args.id) c.requires.quantified c.requires.formula.sort c.in_ok-kids.kids.items (tree c.args.table.now c.args.body) c.requires.body.sort c.in_ok-kids.ensures.nodes c.in_ok-kids.ensures.terms)

pub intern-requires-2 : goal.intern-requires-2
intern-requires-2 c =
    subst (λ (ks : List NodeId). Makes c.args.table.now Exists ks) (sym c.deref-2.ensures.value)
    (makes-exists c.args.table.now (tree c.args.table.now c.args.id) c.requires.quantified c.requires.formula.sort c.in_ok-kids.kids.items (tree c.args.table.now c.args.body) c.requires.body.sort c.in_ok-kids.ensures.nodes c.in_ok-kids.ensures.terms)

pub returns-then-universal-clause-term : goal.returns-then-universal-clause-term
unfolding kind
returns-then-universal-clause-term c =
    c.in_ok-id.ensures.term
    ∙ ap (λ ks. quantified universal (binders (trees_at c.args.table.now ks)) (body (trees_at c.args.table.now ks))) c.deref.ensures.value
    ∙ bound-term c.args.table.now (tree c.args.table.now c.args.id) c.requires.quantified c.requires.formula.sort c.in_ok-kids.kids.items (tree c.args.table.now c.args.body) c.requires.body.sort c.in_ok-kids.ensures.nodes c.in_ok-kids.ensures.terms universal
    ∙ ap (λ b. quantified (quantifier_seen b) (variables_of (tree c.args.table.now c.args.id)) (tree c.args.table.now c.args.body)) (sym c.if-universal.true)

pub returns-then-universal-clause-formula : goal.returns-then-universal-clause-formula
unfolding kind
returns-then-universal-clause-formula c = record {
  node = c.in_ok-id.ensures.node;
  sort =
      ap sort_of (c.in_ok-id.ensures.term
      ∙ ap (λ ks. quantified universal (binders (trees_at c.args.table.now ks)) (body (trees_at c.args.table.now ks))) c.deref.ensures.value
      ∙ bound-term c.args.table.now (tree c.args.table.now c.args.id) c.requires.quantified c.requires.formula.sort c.in_ok-kids.kids.items (tree c.args.table.now c.args.body) c.requires.body.sort c.in_ok-kids.ensures.nodes c.in_ok-kids.ensures.terms universal)
      ∙ bound-sort c.args.table.now (tree c.args.table.now c.args.id) c.requires.quantified c.requires.formula.sort c.in_ok-kids.kids.items (tree c.args.table.now c.args.body) c.requires.body.sort c.in_ok-kids.ensures.nodes c.in_ok-kids.ensures.terms universal;
}

pub returns-clause-term : goal.returns-clause-term
unfolding kind
returns-clause-term c =
    c.in_ok-id-2.ensures.term
    ∙ ap (λ ks. quantified existential (binders (trees_at c.args.table.now ks)) (body (trees_at c.args.table.now ks))) c.deref-2.ensures.value
    ∙ bound-term c.args.table.now (tree c.args.table.now c.args.id) c.requires.quantified c.requires.formula.sort c.in_ok-kids.kids.items (tree c.args.table.now c.args.body) c.requires.body.sort c.in_ok-kids.ensures.nodes c.in_ok-kids.ensures.terms existential
    ∙ ap (λ b. quantified (quantifier_seen b) (variables_of (tree c.args.table.now c.args.id)) (tree c.args.table.now c.args.body)) (sym c.if-universal.false)

pub returns-clause-formula : goal.returns-clause-formula
unfolding kind
returns-clause-formula c = record {
  node = c.in_ok-id-2.ensures.node;
  sort =
      ap sort_of (c.in_ok-id-2.ensures.term
      ∙ ap (λ ks. quantified existential (binders (trees_at c.args.table.now ks)) (body (trees_at c.args.table.now ks))) c.deref-2.ensures.value
      ∙ bound-term c.args.table.now (tree c.args.table.now c.args.id) c.requires.quantified c.requires.formula.sort c.in_ok-kids.kids.items (tree c.args.table.now c.args.body) c.requires.body.sort c.in_ok-kids.ensures.nodes c.in_ok-kids.ensures.terms existential)
      ∙ bound-sort c.args.table.now (tree c.args.table.now c.args.id) c.requires.quantified c.requires.formula.sort c.in_ok-kids.kids.items (tree c.args.table.now c.args.body) c.requires.body.sort c.in_ok-kids.ensures.nodes c.in_ok-kids.ensures.terms existential;
}
