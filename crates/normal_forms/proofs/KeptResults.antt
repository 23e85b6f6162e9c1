-- Results of a node's operands, as the nodes and terms that they are.
use Rattle.std.proofs.Common.{◌≡◌, ℕ, ◌+◌, ◌<◌, inl, inr, List, [], ◌∷◌, ◌++◌, map, length, get_or, Some, ap, sym, ◌∙◌, arith}
use Rattle.std.proofs.Math.ListN.{get_or-append}
use Rattle.std.proofs.Math.Seq.{get_or-append_seam}
use Rattle.std.proofs.lemmas.Bool.Decides.{eqb_tells}
use Rattle.std.proofs.lemmas.List.{get_or-map, length-map, get_or_default, ext_get_or}
use Rattle.smt_terms.specs.declared.ids.NodeId.{NodeId}
use Rattle.smt_terms.specs.Term.{Term}
use Rattle.term_table.specs.Formulas.{Formulas, no_tree, tree, tree_in, trees_at, operands, IsNode, AreNodes}
use Rattle.term_walk.specs.declared.kept.Place.{Place}
use Rattle.term_walk.specs.Places.{result_at}
use Rattle.term_walk.specs.Walking.{AreRelated}
use Rattle.normal_forms.specs.Results.{AreResults}

pub results-push : (ks : List (Place NodeId)) (kids ids new : List NodeId) (n : ℕ) (e r : NodeId) → length ids ≡ n → n < length kids → ((i : ℕ) (d : NodeId) → i < n → result_at ks (get_or kids i d).0 ≡ Some (get_or ids i d)) → result_at ks (get_or kids n e).0 ≡ Some r → new ≡ ids ++ r ∷ [] → (i : ℕ) (d : NodeId) → i < n + 1 → result_at ks (get_or kids i d).0 ≡ Some (get_or new i d)
results-push ks kids ids new n e r count within each found is i d lt =
    elim (eqb_tells i n) [
      | inl same ↦
          let kid : get_or kids i d ≡ get_or kids n e = ap (λ j. get_or kids j d) same.1 ∙ get_or_default kids n d e within in
          let last : get_or new i d ≡ r = ap (λ xs. get_or xs i d) is ∙ ap (λ j. get_or (ids ++ r ∷ []) j d) (same.1 ∙ sym count) ∙ get_or-append_seam ids r [] d in
          ap (λ (k : NodeId). result_at ks k.0) kid ∙ found ∙ ap Some (sym last)
      | inr apart ↦
          let below : i < n = let a = apart.1 in omega arith in
          each i d below ∙ ap Some (sym (ap (λ xs. get_or xs i d) is ∙ get_or-append ids (r ∷ []) d i (omega (arith, count))))
    ]

-- ---- operands by their nodes

module _ (t : Formulas) (u : Term) (kids : List NodeId) (terms_are : trees_at t kids ≡ operands u) where
  pub kids-count : length kids ≡ length (operands u)
  kids-count = sym (length-map kids (tree_in t.trees)) ∙ ap length terms_are

  pub kid-term : (i : ℕ) (d : NodeId) → i < length kids → tree t (get_or kids i d) ≡ get_or (operands u) i no_tree
  kid-term i d lt = sym (get_or-map (tree_in t.trees) kids i d no_tree lt) ∙ ap (λ us. get_or us i no_tree) terms_are

-- ---- results by their relation to the operands

module _ (R : Formulas → Term → NodeId → Type 0) (t : Formulas) (ks : List (Place NodeId)) (kids ids : List NodeId) (related : AreRelated R t ks) (found : AreResults ks kids ids) where
  pub each-related : (i : ℕ) (d : NodeId) → i < length kids → R t (tree t (get_or kids i d)) (get_or ids i d)
  each-related i d lt = related.related (get_or kids i d) (get_or ids i d) (found.each i d lt)

  pub nodes-of-results : ((u : Term) (k : NodeId) → R t u k → IsNode t k) → AreNodes t ids
  nodes-of-results node i d lt =
      let n = found.number in
      node (tree t (get_or kids i d)) (get_or ids i d) (each-related i d (omega (arith, n, lt)))

-- the terms of results are what a function makes of the operands
pub terms-of-results : (t : Formulas) (u : Term) (kids ids : List NodeId) → trees_at t kids ≡ operands u → length ids ≡ length kids → (f : Term → Term)
    → ((i : ℕ) (d : NodeId) → i < length kids → tree t (get_or ids i d) ≡ f (tree t (get_or kids i d))) → trees_at t ids ≡ map f (operands u)
terms-of-results t u kids ids terms_are n f each =
    let count = kids-count t u kids terms_are in
    let zero_node : NodeId = record { 0 = 0 } in
    let ids_count : length (trees_at t ids) ≡ length ids = length-map ids (tree_in t.trees) in
    let forms_count : length (map f (operands u)) ≡ length (operands u) = length-map (operands u) f in
    ext_get_or no_tree (trees_at t ids) (map f (operands u)) (omega (arith, n, count, ids_count, forms_count))
    (λ i lt.
    get_or-map (tree_in t.trees) ids i zero_node no_tree (omega (arith, ids_count, lt))
    ∙ each i zero_node (omega (arith, n, ids_count, lt))
    ∙ ap f (kid-term t u kids terms_are i zero_node (omega (arith, n, ids_count, lt)))
    ∙ sym (get_or-map f (operands u) i no_tree no_tree (omega (arith, n, count, ids_count, lt))))
