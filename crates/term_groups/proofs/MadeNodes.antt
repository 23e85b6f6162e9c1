-- What makes the nodes of implications and equations.
use Rattle.std.proofs.Common.{rules, ◌≡◌, false, List, [], ◌∷◌, Some, Ok, refl, ap, sym, ◌∙◌, subst}
use Rattle.smt_terms.specs.declared.ids.NodeId.{NodeId}
use Rattle.smt_terms.specs.declared.op.Op.{Op}
use Rattle.smt_terms.specs.declared.op.Op.TheVariants.{Implies, Equal}
use Rattle.smt_terms.specs.Connectives.{implies, equal}
use Rattle.smt_terms.specs.Rank.{shape, rank, sort_of, sorts_of, is_minus}
use Rattle.smt_terms.specs.Sorts.{Sort, bool}
use Rattle.smt_terms.specs.Term.{op, Term, none, ◌⨾◌, terms, over}
use Rattle.smt_terms.proofs.Operands.{more_sorts, narrow_sort, sort_over_more}
use Rattle.smt_terms.proofs.Sorted.{applied, sorted}
use Rattle.smt_terms.proofs.StoredTerms.{fine_term}
use Rattle.term_table.specs.Formulas.{Formulas, tree, trees_at, sort_or_bool, sorts_in, theory, kind, kind_rank, rank_over, IsKindOf, Makes, IsTable, IsNode, AreNodes}
use Rattle.term_table.proofs.Made.{makes_ranked}
use Rattle.normal_forms.specs.Nodes.{IsFormula}

-- ---- over operands that have a sort together

sorts-in : (us : List Term) (ss : List Sort) → sorts_of (terms us) ≡ Some ss → sorts_in us ≡ ss
sorts-in [] ss e = cc
sorts-in (u ∷ us) ss e =
    let parts = sorted u (terms us) ss e in
    let rest = sorts-in us parts.sorts parts.others in
    (λ i. sort_or_bool (parts.first i) ∷ rest i) ∙ sym parts.all

ranked : (t : Formulas) (p : Op) (us : List Term) (s : Sort) → kind p ≡ theory p → sort_of (over (op p) us) ≡ Some s → rank_over t p us ≡ Ok s
ranked t p us s is has =
    let parts = applied (op p) (terms us) s has in
    ap (λ k. kind_rank t.symbols t.sorts k us) is ∙ ap (rank (op p)) (sorts-in us parts.sorts parts.operands) ∙ parts.rank

makes : (t : Formulas) (p : Op) (ks : List NodeId) (s : Sort) → AreNodes t ks → kind p ≡ theory p → is_minus p ≡ false → sort_of (over (op p) (trees_at t ks)) ≡ Some s → Makes t p ks
makes t p ks s nodes is plain has =
    makes_ranked t p ks s nodes (subst (λ k. IsKindOf t.symbols t.sorts k) (sym is) tt) plain (sym (ranked t p (trees_at t ks) s is has))

both-nodes : (t : Formulas) (a b : NodeId) → IsNode t a → IsNode t b → AreNodes t (a ∷ b ∷ [])
both-nodes t a b here there = search rules

-- ---- implications

module _ (t : Formulas) (a b : NodeId) (here : IsFormula t a) (there : IsFormula t b) where
  pub sort-implies : sort_of (implies (tree t a) (tree t b)) ≡ Some bool
  unfolding shape
  sort-implies =
      sort_over_more Implies (tree t a) (tree t b) none (bool ∷ bool ∷ []) bool
      (more_sorts (tree t a) (tree t b ⨾ none) bool (bool ∷ []) here.sort (more_sorts (tree t b) none bool [] there.sort refl)) (refl, refl) (narrow_sort bool refl)

  pub makes-implies : Makes t Implies (a ∷ b ∷ [])
  unfolding kind is_minus
  makes-implies = makes t Implies (a ∷ b ∷ []) bool (both-nodes t a b here.node there.node) refl refl sort-implies

  pub ranked-implies : rank_over t Implies (trees_at t (a ∷ b ∷ [])) ≡ Ok bool
  unfolding kind
  ranked-implies = ranked t Implies (trees_at t (a ∷ b ∷ [])) bool refl sort-implies

-- ---- equations

module _ (t : Formulas) (a b : NodeId) (table : IsTable t) (here : IsNode t a) (there : IsNode t b) (same : sort_of (tree t a) ≡ sort_of (tree t b)) where
  pub sort-equal : sort_of (equal (tree t a) (tree t b)) ≡ Some bool
  unfolding shape
  sort-equal =
      let f = fine_term (tree t a) (table.sorted a.0 here) in
      let s = f.sort in
      sort_over_more Equal (tree t a) (tree t b) none (s ∷ s ∷ []) bool
      (more_sorts (tree t a) (tree t b ⨾ none) s (s ∷ []) f.has (more_sorts (tree t b) none s [] (sym same ∙ f.has) refl)) (s, refl, refl) (narrow_sort bool refl)

  pub makes-equal : Makes t Equal (a ∷ b ∷ [])
  unfolding kind is_minus
  makes-equal = makes t Equal (a ∷ b ∷ []) bool (both-nodes t a b here there) refl refl sort-equal

  pub ranked-equal : rank_over t Equal (trees_at t (a ∷ b ∷ [])) ≡ Ok bool
  unfolding kind
  ranked-equal = ranked t Equal (trees_at t (a ∷ b ∷ [])) bool refl sort-equal
