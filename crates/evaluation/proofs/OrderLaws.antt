-- Orders in which nodes stand behind their operands.
use Rattle.std.proofs.Common.{◌≡◌, ℕ, suc, ◌<◌, ◌≤◌, inl, inr, Bool, true, not, ◌==◌, List, [], ◌∷◌, length, get_or, take, All, is_some, ap, sym, subst, arith}
use Rattle.std.proofs.lemmas.List.{get_or-take, length-take-le}
use Rattle.smt_terms.specs.declared.ids.NodeId.{NodeId}
use Rattle.smt_terms.specs.Val.{bits_bound}
use Rattle.smt_terms.proofs.Tests.{either_true}
use Rattle.smt_values.specs.declared.value.Value.{Value}
use Rattle.term_table.specs.Formulas.{Formulas, tree, trees_at, IsNode, AreNodes, IsTable}
use Rattle.term_walk.specs.declared.kept.Place.{Place}
use Rattle.term_walk.specs.FreeLists.{has_node}
use Rattle.term_walk.specs.Places.{result_at}
use Rattle.quantifier_forms.specs.Listing.{listed}
use Rattle.quantifier_forms.proofs.Orders.{at_terms, operand-before, root-among}
use Rattle.quantifier_forms.proofs.Stands.{same-number}
use Rattle.evaluation.specs.Evaluated.{most_bits, breaks}
use Rattle.evaluation.specs.Orders.{IsOrder}
use Rattle.evaluation.proofs.Listed.{opened, listed-narrow, listed-leads, any-leads, at-nodes}

-- the nodes with a value
abbrev pub kept_test : List (Place Value) → NodeId → Bool
kept_test ks k = is_some (result_at ks k.0)

module _ (t : Formulas) (ks : List (Place Value)) (table : IsTable t) (root : NodeId) (here : IsNode t root) (is : List NodeId) (nodes : AreNodes t is) (are : trees_at t is ≡ listed (at_terms t (kept_test ks)) opened (tree t root) []) where
  below : All (λ k. bits_bound (tree t k) ≤ bits_bound (tree t root)) is
  below = at-nodes t (λ u. bits_bound u ≤ bits_bound (tree t root)) is (subst (All (λ u. bits_bound u ≤ bits_bound (tree t root))) (sym are) (listed-narrow (at_terms t (kept_test ks)) (tree t root)))

  pub is-order : bits_bound (tree t root) ≤ most_bits → IsOrder t ks root is
  is-order narrow = record {
    behind = record {
      nodes = nodes;
      each = λ i d k lt applied node e. operand-before t (kept_test ks) opened table root here is nodes are i d k lt (ap not applied) node e;
      narrow = λ i d lt. let le = below i d lt in omega (arith, le, narrow);
    };
    root_too = root-among t (kept_test ks) opened table root here is nodes are;
    below = below;
    breaks_too = λ m e u b. any-leads (at_terms t (kept_test ks)) m e u (tree t root) (trees_at t is) (subst (All (λ w. breaks m u w e ≡ true → breaks m u (tree t root) e ≡ true)) (sym are) (listed-leads (at_terms t (kept_test ks)) m e u (tree t root))) b;
  }

-- ---- what holds of the nodes so far

node-same : (k j : NodeId) → (k.0 == j.0) ≡ true → j ≡ k
node-same k j e = let n = same-number k.0 j.0 e in λ i. record { 0 = sym n i }

pub among : (P : NodeId → Type 0) (is : List NodeId) (k : NodeId) → ((j : ℕ) (d : NodeId) → j < length is → P (get_or is j d)) → has_node is k ≡ true → P k
among P [] k each e = absurd cc
among P (j ∷ is) k each e = elim (either_true (k.0 == j.0) (has_node is k) e) [
  | inl same ↦ subst P (node-same k j same) (each 0 k (omega arith))
  | inr there ↦ among P is k (λ i d lt. each (suc i) d (omega arith)) there
]

pub among-taken : (P : NodeId → Type 0) (is : List NodeId) (i : ℕ) (k : NodeId) → i ≤ length is → ((j : ℕ) (d : NodeId) → j < i → P (get_or is j d)) → has_node (take i is) k ≡ true → P k
among-taken P is i k le each e =
    let n = length-take-le i is le in
    among P (take i is) k (λ j d lt. subst P (sym (get_or-take i is j d (omega (arith, n)))) (each j d (omega (arith, n)))) e
