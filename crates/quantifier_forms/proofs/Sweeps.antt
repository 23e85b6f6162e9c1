-- Results of nodes in an order in which each stands behind its operands.
use Rattle.std.proofs.Common.{◌≡◌, ℕ, zero, suc, ◌+◌, ◌<◌, inl, inr, Bool, true, ◌==◌, List, [], ◌∷◌, length, map, get_or, take, All, is_some, refl, ap, sym, ◌∙◌, subst, arith}
use Rattle.std.proofs.lemmas.Bool.Decides.{eqb_tells}
use Rattle.std.proofs.lemmas.List.{get_or-map, length-map, get_or_default}
use Rattle.smt_terms.specs.declared.ids.NodeId.{NodeId}
use Rattle.smt_terms.specs.Groups.{has_term}
use Rattle.smt_terms.specs.Rank.{sort_of}
use Rattle.smt_terms.specs.Term.{Term}
use Rattle.smt_terms.proofs.Tests.{either_true}
use Rattle.term_table.specs.Formulas.{Formulas, no_tree, tree, tree_in, trees_at, operands, IsNode, AreNodes}
use Rattle.term_walk.specs.FreeLists.{has_node}
use Rattle.term_walk.specs.Walking.{GrowsTo}
use Rattle.term_walk.proofs.Members.{has-at}
use Rattle.quantifier_forms.specs.Memos.{Results, result_in, known_in}
use Rattle.quantifier_forms.specs.Orders.{IsOrdered}
use Rattle.quantifier_forms.specs.Rebuilding.{is_number, IsLike, AreLike}
use Rattle.quantifier_forms.proofs.Stands.{same-number}

-- ---- the same term under another table

pub tree-stays : (old new : Formulas) (k : NodeId) → GrowsTo old new → IsNode old k → tree new k ≡ tree old k
tree-stays old new k grows node = grows.trees.same k.0 no_tree node

pub node-stays : (old new : Formulas) (k : NodeId) → GrowsTo old new → IsNode old k → IsNode new k
node-stays old new k grows node = let longer = grows.trees.longer in omega arith

-- ---- the operands of a node

pub kids-for : (t : Formulas) (m : Results) (v : ℕ) (id : NodeId) (ks : List NodeId) (R : NodeId → NodeId → Type 0) → ((k : NodeId) → k.0 < id.0 → has_term (operands (tree t id)) (tree t k) ≡ true → R k (known_in m v k)) → trees_at t ks ≡ operands (tree t id) → All (λ k. k.0 < id.0) ks → (i : ℕ) (d : NodeId) → i < length ks → R (get_or ks i d) (known_in m v (get_or ks i d))
kids-for t m v id ks R ready same below i d lt =
    let n = length-map ks (tree_in t.trees) in
    let at : get_or (trees_at t ks) i no_tree ≡ tree t (get_or ks i d) = get_or-map (tree_in t.trees) ks i d no_tree lt in
    let there : has_term (trees_at t ks) (get_or (trees_at t ks) i no_tree) ≡ true = has-at (trees_at t ks) i no_tree (omega (arith, n)) in
    ready (get_or ks i d) (below i d lt) (ap (λ us. has_term us (tree t (get_or ks i d))) (sym same) ∙ ap (has_term (trees_at t ks)) (sym at) ∙ there)

module _ (t : Formulas) (m : Results) (v : ℕ) (ks : List NodeId) where
  abbrev first_node : NodeId
  first_node = record { 0 = 0 }

  pub known-nodes : ((i : ℕ) (d : NodeId) → i < length ks → IsNode t (known_in m v (get_or ks i d))) → AreNodes t (map (known_in m v) ks)
  known-nodes each i d lt =
      let n = length-map ks (known_in m v) in
      subst (IsNode t) (sym (get_or-map (known_in m v) ks i first_node d (omega (arith, n)))) (each i first_node (omega (arith, n)))

  each-tree : (i : ℕ) → i < length ks → get_or (trees_at t (map (known_in m v) ks)) i no_tree ≡ tree t (known_in m v (get_or ks i first_node))
  each-tree i lt =
      let n = length-map ks (known_in m v) in
      get_or-map (tree_in t.trees) (map (known_in m v) ks) i first_node no_tree (omega (arith, n)) ∙ ap (tree t) (get_or-map (known_in m v) ks i first_node first_node lt)

  own-tree : (i : ℕ) → i < length ks → get_or (trees_at t ks) i no_tree ≡ tree t (get_or ks i first_node)
  own-tree i lt = get_or-map (tree_in t.trees) ks i first_node no_tree lt

  pub known-like : ((i : ℕ) (d : NodeId) → i < length ks → IsLike (tree t (get_or ks i d)) (tree t (known_in m v (get_or ks i d)))) → AreLike (trees_at t ks) (trees_at t (map (known_in m v) ks))
  known-like each = record {
    count = length-map (map (known_in m v) ks) (tree_in t.trees) ∙ length-map ks (known_in m v) ∙ sym (length-map ks (tree_in t.trees));
    each = λ i lt.
        let n = length-map ks (tree_in t.trees) in
        let h = each i first_node (omega (arith, n)) in
        record {
          sort = ap sort_of (each-tree i (omega (arith, n))) ∙ h.sort ∙ ap sort_of (sym (own-tree i (omega (arith, n))));
          number = ap is_number (each-tree i (omega (arith, n))) ∙ h.number ∙ ap is_number (sym (own-tree i (omega (arith, n))));
        };
  }

  -- each result is what a function makes of the node
  pub known-map : (f : Term → Term) → ((i : ℕ) (d : NodeId) → i < length ks → tree t (known_in m v (get_or ks i d)) ≡ f (tree t (get_or ks i d))) → trees_at t (map (known_in m v) ks) ≡ map f (trees_at t ks)
  known-map f each = by ks each
    where
      by : (js : List NodeId) → ((i : ℕ) (d : NodeId) → i < length js → tree t (known_in m v (get_or js i d)) ≡ f (tree t (get_or js i d))) → trees_at t (map (known_in m v) js) ≡ map f (trees_at t js)
      by [] told = refl
      by (j ∷ js) told =
          let first = told 0 j (omega arith) in
          let rest = by js (λ i d lt. told (suc i) d (omega arith)) in
          λ i. first i ∷ rest i

-- ---- nodes with results

pub at-number : (ks : List NodeId) (k : NodeId) → has_node ks k ≡ true → (i : ℕ) × (i < length ks) × ((d : NodeId) → (get_or ks i d).0 ≡ k.0)
at-number [] k e = absurd cc
at-number (j ∷ ks) k e = elim (either_true (k.0 == j.0) (has_node ks k) e) [
  | inl here ↦ (0, omega arith, λ d. sym (same-number k.0 j.0 here))
  | inr there ↦ let r = at-number ks k there in (suc r.0, omega arith, r.2)
]

pub taken-at : (i : ℕ) (ks : List NodeId) (n : ℕ) (d : NodeId) → n < length (take i ks) → (n < i) × (get_or (take i ks) n d ≡ get_or ks n d)
taken-at zero ks n d lt = absurd (omega arith)
taken-at (suc i) [] n d lt = absurd (omega arith)
taken-at (suc i) (k ∷ ks) zero d lt = (omega arith, refl)
taken-at (suc i) (k ∷ ks) (suc n) d lt = let r = taken-at i ks n d (omega arith) in (omega arith, r.1)

-- the first n of these nodes have results
abbrev pub AreDone : Results → ℕ → List NodeId → ℕ → Type 0
AreDone m v ks n = (i : ℕ) (d : NodeId) → i < n → i < length ks → is_some (result_in m v (get_or ks i d)) ≡ true

pub number-result : (m : Results) (v : ℕ) (j k : NodeId) → j.0 ≡ k.0 → is_some (result_in m v j) ≡ is_some (result_in m v k)
number-result m v j k e = λ i. is_some (result_in m v (record { 0 = e i }))

module _ (t0 t1 : Formulas) (m : Results) (v : ℕ) (known : NodeId → Bool) (root : NodeId) (ks : List NodeId) (R : NodeId → NodeId → Type 0) (grows : GrowsTo t0 t1) (order : IsOrdered t0 known root ks)
    (are : (k : NodeId) → is_some (result_in m v k) ≡ true → R k (known_in m v k)) (knows : (k : NodeId) → IsNode t0 k → known k ≡ true → R k (known_in m v k)) where
  done-for : (n : ℕ) (k : NodeId) → AreDone m v ks n → has_node (take n ks) k ≡ true → R k (known_in m v k)
  done-for n k done e =
      let place = at-number (take n ks) k e in
      let at = taken-at n ks place.0 k place.1 in
      let long : place.0 < length ks = within n ks place.0 place.1 in
      let some : is_some (result_in m v (get_or ks place.0 k)) ≡ true = done place.0 k at.0 long in
      are k (sym (number-result m v (get_or ks place.0 k) k (ap (λ (j : NodeId). j.0) (sym at.1) ∙ place.2 k)) ∙ some)
    where
      within : (i : ℕ) (js : List NodeId) (j : ℕ) → j < length (take i js) → j < length js
      within zero js j lt = absurd (omega arith)
      within (suc i) [] j lt = absurd (omega arith)
      within (suc i) (x ∷ js) zero lt = omega arith
      within (suc i) (x ∷ js) (suc j) lt = let r = within i js j (omega arith) in omega arith

  pub ready-for : (n : ℕ) (d : NodeId) → n < length ks → AreDone m v ks n → (k : NodeId) → k.0 < (get_or ks n d).0 → has_term (operands (tree t1 (get_or ks n d))) (tree t1 k) ≡ true → R k (known_in m v k)
  ready-for n d lt done k below e =
      let id = get_or ks n d in
      let here : IsNode t0 id = order.nodes n d lt in
      let node : IsNode t0 k = omega arith in
      let terms_same : has_term (operands (tree t0 id)) (tree t0 k) ≡ true = (λ i. has_term (operands (sym (tree-stays t0 t1 id grows here) i)) (sym (tree-stays t0 t1 k grows node) i)) ∙ e in
      elim (order.each n d k lt node terms_same) [ inl had ↦ knows k node had | inr before ↦ done-for n k done before ]

  pub root-for : IsNode t0 root → AreDone m v ks (length ks) → R root (known_in m v root)
  root-for node done = elim order.root_too [
    | inl had ↦ knows root node had
    | inr there ↦
        let place = at-number ks root there in
        let some : is_some (result_in m v (get_or ks place.0 root)) ≡ true = done place.0 root place.1 place.1 in
        are root (sym (number-result m v (get_or ks place.0 root) root (place.2 root)) ∙ some)
  ]

-- one node more has a result
pub done-more : (m0 m1 : Results) (v : ℕ) (ks : List NodeId) (n : ℕ) (e : NodeId) → ((j : NodeId) → is_some (result_in m0 v j) ≡ true → is_some (result_in m1 v j) ≡ true) → n < length ks → is_some (result_in m1 v (get_or ks n e)) ≡ true → AreDone m0 v ks n → AreDone m1 v ks (n + 1)
done-more m0 m1 v ks n e stay within some done i d lt inside = elim (eqb_tells i n) [
  | inl same ↦ ap (λ j. is_some (result_in m1 v (get_or ks j d))) same.1 ∙ ap (λ j. is_some (result_in m1 v j)) (get_or_default ks n d e within) ∙ some
  | inr apart ↦ stay (get_or ks i d) (done i d (let a = apart.1 in omega arith) inside)
]
