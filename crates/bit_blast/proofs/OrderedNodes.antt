-- Nodes in an order in which each stands behind its operands.
use Rattle.std.proofs.Common.{◌≡◌, ℕ, suc, ◌<◌, true, List, ◌∷◌, ◌++◌, length, get_or, take, drop, All, ap, sym, ◌∙◌, subst, drop-cons}
use Rattle.std.proofs.lemmas.List.{map-append, take-append-drop}
use Rattle.std.proofs.lemmas.List.Elements.{All-take}
use Rattle.smt_terms.specs.declared.ids.NodeId.{NodeId}
use Rattle.smt_terms.specs.Groups.{has_term}
use Rattle.smt_terms.specs.Term.{Term}
use Rattle.term_table.specs.Formulas.{Formulas, no_tree, tree, tree_in, trees_at, IsNode, IsTable}
use Rattle.term_walk.specs.FreeLists.{has_node}
use Rattle.term_walk.proofs.Members.{place-of}
use Rattle.quantifier_forms.proofs.Stands.{term-among}
use Rattle.quantifier_forms.proofs.Sweeps.{at-number}
use Rattle.term_groups.specs.Parts.{operands_of}
use Rattle.bit_blast.specs.Subterms.{is_open, AreInOrder}

-- what holds of all of these terms holds of one of them
pub All-has : (P : Term → Type 0) (us : List Term) (u : Term) → All P us → has_term us u ≡ true → P u
All-has P us u all there = let place = place-of us u no_tree there in subst P place.2 (all place.0 no_tree place.1)

-- and of all of these nodes, of a node whose number is among theirs
pub All-among : (P : NodeId → Type 0) (ks : List NodeId) (k : NodeId) → All P ks → has_node ks k ≡ true → P k
All-among P ks k all there =
    let place = at-number ks k there in
    let number : (get_or ks place.0 k).0 ≡ k.0 = place.2 k in
    subst P (λ i. record { 0 = number i }) (all place.0 k place.1)

module _ (t : Formulas) (table : IsTable t) (ks : List NodeId) (order : AreInOrder t ks) where
  split-at : (n : ℕ) (d : NodeId) → n < length ks → trees_at t ks ≡ trees_at t (take n ks) ++ tree t (get_or ks n d) ∷ trees_at t (drop (suc n) ks)
  split-at n d lt =
      ap (trees_at t) (sym (take-append-drop n ks) ∙ ap (λ (js : List NodeId). take n ks ++ js) (drop-cons ks n d lt))
      ∙ map-append (tree_in t.trees) (take n ks) (get_or ks n d ∷ drop (suc n) ks)

  -- an operand of a node stands before it
  pub operand-before : (n : ℕ) (d k : NodeId) → n < length ks → is_open (tree t (get_or ks n d)) ≡ true → IsNode t k → has_term (operands_of (tree t (get_or ks n d))) (tree t k) ≡ true → has_node (take n ks) k ≡ true
  operand-before n d k lt opened node there =
      let u = tree t (get_or ks n d) in
      let us = trees_at t (take n ks) in
      let all : All (λ v. has_term us v ≡ true) (operands_of u) = order.behind us u (trees_at t (drop (suc n) ks)) (split-at n d lt) opened in
      sym (term-among t table k node (take n ks) (All-take (IsNode t) n ks order.nodes)) ∙ All-has (λ v. has_term us v ≡ true) (operands_of u) (tree t k) all there
