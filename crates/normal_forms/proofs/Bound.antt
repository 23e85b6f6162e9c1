-- Quantifiers over new bodies, as nodes.
use Rattle.std.proofs.Common.{◌≡◌, ◌+◌, ◌-◌, ◌<◌, true, false, List, [], ◌∷◌, ◌++◌, map, length, get_or, take, Some, Ok, is_ok, refl, ap, sym, ◌∙◌, subst, arith, length-append}
use Rattle.std.proofs.lemmas.List.{get_or-map, length-map}
use Rattle.smt_terms.specs.declared.ids.NodeId.{NodeId}
use Rattle.smt_terms.specs.declared.op.Op.TheVariants.{Forall, Exists}
use Rattle.smt_terms.specs.Sorts.{bool, Variable}
use Rattle.smt_terms.specs.Term.{Quantifier, Term, apply, quantified, terms, variable}
use Rattle.smt_terms.specs.Rank.{rank_quantifier, sort_of, is_minus, are_bindable}
use Rattle.smt_terms.proofs.Binders.{binder-rank_quantifier}
use Rattle.smt_terms.proofs.Sorted.{quantified_sort, sort_of-quantified}
use Rattle.term_table.specs.Formulas.{Formulas, no_tree, tree, tree_in, trees_at, operands, binders, body, sort_or_bool, sorts_in, kind, Makes, AreNodes}
use Rattle.term_table.proofs.Binding.{earlier_terms}
use Rattle.normal_forms.specs.Shape.{variables_of, body_in}
use Rattle.term_walk.specs.Binders.{is_quantified}
use Rattle.normal_forms.proofs.NnfShape.{no-minus}

pub quantified-operands : (u : Term) → is_quantified u ≡ true → operands u ≡ map variable (variables_of u) ++ body_in u ∷ []
quantified-operands (quantified q xs t) e = refl
quantified-operands (apply h ts) e = absurd cc

take-front : (us : List Term) (v : Term) → take (length us) (us ++ v ∷ []) ≡ us
take-front [] v = refl
take-front (u ∷ us) v = ap (λ vs. u ∷ vs) (take-front us v)

get-last : (us : List Term) (v : Term) → get_or (us ++ v ∷ []) (length us) no_tree ≡ v
get-last [] v = refl
get-last (u ∷ us) v = get-last us v

map-push : (t : Formulas) (ks : List NodeId) (k : NodeId) → trees_at t (ks ++ k ∷ []) ≡ trees_at t ks ++ tree t k ∷ []
map-push t [] k = refl
map-push t (j ∷ ks) k = ap (λ us. tree t j ∷ us) (map-push t ks k)

module _ (t : Formulas) (u : Term) (quant : is_quantified u ≡ true) (kids : List NodeId) (terms_are : trees_at t kids ≡ operands u) where
  kids_are : trees_at t kids ≡ map variable (variables_of u) ++ body_in u ∷ []
  kids_are = terms_are ∙ quantified-operands u quant

  pub kids_number : length kids ≡ length (map variable (variables_of u)) + 1
  kids_number = sym (length-map kids (tree_in t.trees)) ∙ ap length kids_are ∙ length-append (map variable (variables_of u)) (body_in u ∷ [])

  pub some_kids : 0 < length kids
  some_kids = let n = kids_number in omega (arith, n)

  pub body-term : (d : NodeId) → tree t (get_or kids (length kids - 1) d) ≡ body_in u
  body-term d =
      let n = kids_number in
      let last : length kids - 1 ≡ length (map variable (variables_of u)) = omega (arith, n) in
      let at : get_or (trees_at t kids) (length kids - 1) no_tree ≡ tree t (get_or kids (length kids - 1) d) = get_or-map (tree_in t.trees) kids (length kids - 1) d no_tree (omega (arith, n)) in
      sym at ∙ ap (λ us. get_or us (length kids - 1) no_tree) kids_are ∙ ap (λ i. get_or (map variable (variables_of u) ++ body_in u ∷ []) i no_tree) last ∙ get-last (map variable (variables_of u)) (body_in u)

  pub rebound-terms : (k : NodeId) → trees_at t (take (length kids - 1) kids ++ k ∷ []) ≡ map variable (variables_of u) ++ tree t k ∷ []
  rebound-terms k =
      let n = kids_number in
      let last : length kids - 1 ≡ length (map variable (variables_of u)) = omega (arith, n) in
      map-push t (take (length kids - 1) kids) k
      ∙ ap (λ us. us ++ tree t k ∷ []) (sym (earlier_terms t kids (length kids - 1)) ∙ ap (λ us. take (length kids - 1) us) kids_are ∙ ap (λ i. take i (map variable (variables_of u) ++ body_in u ∷ [])) last ∙ take-front (map variable (variables_of u)) (body_in u))

-- ---- the node

binders-are : (xs : List Variable) (v : Term) → binders (map variable xs ++ v ∷ []) ≡ xs
binders-are [] v = refl
binders-are (x ∷ []) v = refl
binders-are (x ∷ y ∷ xs) v = ap (λ ys. x ∷ ys) (binders-are (y ∷ xs) v)

body-is : (xs : List Variable) (v : Term) → body (map variable xs ++ v ∷ []) ≡ v
body-is [] v = refl
body-is (x ∷ []) v = refl
body-is (x ∷ y ∷ xs) v = body-is (y ∷ xs) v

bindable : (u : Term) → is_quantified u ≡ true → sort_of u ≡ Some bool → are_bindable (variables_of u) ≡ true
bindable (quantified q xs t) e has = (quantified_sort q xs t bool has).bindable
bindable (apply h ts) e has = absurd cc

sorts-push : (us : List Term) (v : Term) → sort_of v ≡ Some bool → sorts_in (us ++ v ∷ []) ≡ sorts_in us ++ bool ∷ []
sorts-push [] v has = ap (λ o. sort_or_bool o ∷ []) has
sorts-push (u ∷ us) v has = ap (λ ss. sort_or_bool (sort_of u) ∷ ss) (sorts-push us v has)

ranked : (xs : List Variable) (v : Term) → are_bindable xs ≡ true → sort_of v ≡ Some bool → rank_quantifier (map variable xs ++ v ∷ []) (sorts_in (map variable xs ++ v ∷ [])) ≡ Ok bool
ranked xs v fine has = binder-rank_quantifier (map variable xs ++ v ∷ []) (sorts_in (map variable xs ++ v ∷ [])) bool (record {
  variables = xs;
  body = v;
  sorts = sorts_in (map variable xs);
  operands = refl;
  operand_sorts = sorts-push (map variable xs) v has;
  number = length-map (map variable xs) (λ t. sort_or_bool (sort_of t)) ∙ length-map xs variable;
  bindable = fine;
  result = refl;
})

no-minus-forall : is_minus Forall ≡ false
unfolding is_minus
no-minus-forall = refl

no-minus-exists : is_minus Exists ≡ false
unfolding is_minus
no-minus-exists = refl

module _ (t : Formulas) (u : Term) (quant : is_quantified u ≡ true) (has : sort_of u ≡ Some bool) (ks : List NodeId) (v : Term) (bool_body : sort_of v ≡ Some bool) (nodes : AreNodes t ks) (are : trees_at t ks ≡ map variable (variables_of u) ++ v ∷ []) where
  ranks : rank_quantifier (trees_at t ks) (sorts_in (trees_at t ks)) ≡ Ok bool
  ranks = subst (λ (us : List Term). rank_quantifier us (sorts_in us) ≡ Ok bool) (sym are) (ranked (variables_of u) v (bindable u quant has) bool_body)

  pub makes-forall : Makes t Forall ks
  unfolding kind
  makes-forall = record { kids = nodes; numbers = tt; ranked = ap is_ok ranks; minus = no-minus Forall (terms (trees_at t ks)) no-minus-forall }

  pub makes-exists : Makes t Exists ks
  unfolding kind
  makes-exists = record { kids = nodes; numbers = tt; ranked = ap is_ok ranks; minus = no-minus Exists (terms (trees_at t ks)) no-minus-exists }

  pub bound-term : (q : Quantifier) → quantified q (binders (trees_at t ks)) (body (trees_at t ks)) ≡ quantified q (variables_of u) v
  bound-term q = ap (λ us. quantified q (binders us) (body us)) are ∙ ap (λ ys. quantified q ys (body (map variable (variables_of u) ++ v ∷ []))) (binders-are (variables_of u) v) ∙ ap (quantified q (variables_of u)) (body-is (variables_of u) v)

  pub bound-sort : (q : Quantifier) → sort_of (quantified q (variables_of u) v) ≡ Some bool
  bound-sort q = sort_of-quantified q (variables_of u) v (bindable u quant has) bool_body
