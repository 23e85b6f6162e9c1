-- Nodes in an order in which each stands behind its operands, and what becomes of them one after the other.
use Rattle.std.proofs.Common.{◌≡◌, ℕ, suc, ◌<◌, ◌≤◌, Bool, true, false, not, cond, List, [], ◌∷◌, ◌++◌, length, get_or, take, drop, All, Option, Some, None, is_some, refl, ap, sym, ◌∙◌, subst, arith, drop-cons}
use Rattle.std.proofs.lemmas.List.{map-append, take-append-drop, length-take}
use Rattle.std.proofs.lemmas.List.Elements.{All-head, All-tail, All-take}
use Rattle.smt_terms.specs.declared.ids.NodeId.{NodeId}
use Rattle.smt_terms.specs.declared.ids.SymId.{SymId}
use Rattle.smt_terms.specs.Equal.{term_eq}
use Rattle.smt_terms.specs.Groups.{Named, has_term, constant_for}
use Rattle.smt_terms.specs.Term.{Term, apply, quantified}
use Rattle.smt_terms.proofs.Equal.{Decides-term_eq}
use Rattle.term_table.specs.Formulas.{Formulas, no_tree, tree, tree_in, trees_at, symbol_at, operands, IsNode, IsSymbol, AreNodes, IsTable}
use Rattle.term_walk.specs.FreeLists.{has_node}
use Rattle.term_walk.specs.Walking.{GrowsTo}
use Rattle.term_walk.proofs.Members.{place-of}
use Rattle.term_walk.specs.Binders.{is_quantified}
use Rattle.quantifier_forms.specs.Memos.{Results, result_in}
use Rattle.quantifier_forms.proofs.Stands.{term-among}
use Rattle.quantifier_forms.proofs.Sweeps.{tree-stays, at-number, taken-at, AreDone, number-result}
use Rattle.term_groups.specs.Parts.{operands_of}
use Rattle.term_groups.specs.Seen.{named_at, ArePairs}
use Rattle.term_groups.specs.Replacing.{AreInOrder, AreReplaced, AreOperandsReplaced, IsDone}
use Rattle.term_groups.proofs.ReplacedNodes.{known-replaced}

-- ---- operands stand before

pub All-has : (P : Term → Type 0) (us : List Term) (u : Term) → All P us → has_term us u ≡ true → P u
All-has P us u all there = let place = place-of us u no_tree there in subst P place.2 (all place.0 no_tree place.1)

plain-operands : (u : Term) → is_quantified u ≡ false → operands_of u ≡ operands u
plain-operands (apply h ts) plain = refl
plain-operands (quantified q xs body) plain = absurd cc

module _ (t : Formulas) (table : IsTable t) (ks : List NodeId) (nodes : AreNodes t ks) (order : AreInOrder (trees_at t ks)) where
  split-at : (n : ℕ) (d : NodeId) → n < length ks → trees_at t ks ≡ trees_at t (take n ks) ++ tree t (get_or ks n d) ∷ trees_at t (drop (suc n) ks)
  split-at n d lt =
      ap (trees_at t) (sym (take-append-drop n ks) ∙ ap (λ (js : List NodeId). take n ks ++ js) (drop-cons ks n d lt))
      ∙ map-append (tree_in t.trees) (take n ks) (get_or ks n d ∷ drop (suc n) ks)

  pub operand-earlier : (n : ℕ) (d k : NodeId) → n < length ks → is_quantified (tree t (get_or ks n d)) ≡ false → IsNode t k → has_term (operands (tree t (get_or ks n d))) (tree t k) ≡ true → has_node (take n ks) k ≡ true
  operand-earlier n d k lt plain node there =
      let u = tree t (get_or ks n d) in
      let us = trees_at t (take n ks) in
      let all : All (λ v. has_term us v ≡ true) (operands_of u) = order us u (trees_at t (drop (suc n) ks)) (split-at n d lt) (ap not plain) in
      let before : has_term us (tree t k) ≡ true = All-has (λ v. has_term us v ≡ true) (operands_of u) (tree t k) all (ap (λ vs. has_term vs (tree t k)) (plain-operands u plain) ∙ there) in
      sym (term-among t table k node (take n ks) (All-take (IsNode t) n ks nodes)) ∙ before

-- ---- nodes that have results

pub done-node : (m : Results) (ks : List NodeId) (n : ℕ) (k : NodeId) → AreDone m 0 ks n → has_node (take n ks) k ≡ true → is_some (result_in m 0 k) ≡ true
done-node m ks n k done there =
    let place = at-number (take n ks) k there in
    let at = taken-at n ks place.0 k place.1 in
    sym (number-result m 0 (get_or ks place.0 k) k (ap (λ (j : NodeId). j.0) (sym at.1) ∙ place.2 k)) ∙ done place.0 k at.0 (within n ks place.0 place.1)
  where
    within : (i : ℕ) (js : List NodeId) (j : ℕ) → j < length (take i js) → j < length js
    within i js j lt = let n = length-take i js in omega (arith, n)

fewer-done : (m : Results) (ks : List NodeId) (i n : ℕ) → i ≤ n → AreDone m 0 ks n → AreDone m 0 ks i
fewer-done m ks i n le done j d lt within = done j d (omega arith) within

-- t0: the table with which these nodes stand in order; t1: that with which they have results
module _ (t0 t1 : Formulas) (table : IsTable t0) (grows : GrowsTo t0 t1) (ks : List NodeId) (nodes : AreNodes t0 ks) (order : AreInOrder (trees_at t0 ks)) (ns : Named) (m : Results) (are : AreReplaced t1 ns m) where
  pub ready-next : (n : ℕ) (d : NodeId) → n < length ks → AreDone m 0 ks n → AreOperandsReplaced t1 ns m (get_or ks n d)
  ready-next n d lt done plain k below there =
      let id = get_or ks n d in
      let here : IsNode t0 id = nodes n d lt in
      let node : IsNode t0 k = omega arith in
      let stays : tree t1 id ≡ tree t0 id = tree-stays t0 t1 id grows here in
      let kid_stays : tree t1 k ≡ tree t0 k = tree-stays t0 t1 k grows node in
      known-replaced t1 ns m k are
      (done-node m ks n k done
      (operand-earlier t0 table ks nodes order n d k lt (ap is_quantified (sym stays) ∙ plain) node ((λ i. has_term (operands (sym stays i)) (sym kid_stays i)) ∙ there)))

  pub all-done : AreDone m 0 ks (length ks) → All (IsDone t1 ns m) ks
  all-done done i d lt = record {
    itself = known-replaced t1 ns m (get_or ks i d) are (done i d lt lt);
    operands = ready-next i d lt (fewer-done m ks i (length ks) (omega arith) done);
  }

-- ---- nodes without results have no constants

pub missing-constant : (t : Formulas) → IsTable t → (m : Results) (ps : List (SymId × NodeId)) → ArePairs t ps → All (λ (p : SymId × NodeId). is_some (result_in m 0 p.1) ≡ true) ps
    → (id : NodeId) → IsNode t id → result_in m 0 id ≡ None → constant_for (named_at t ps) (tree t id) ≡ None
missing-constant t table m [] pairs kept id node missing = refl
missing-constant t table m (p ∷ ps) pairs kept id node missing =
    by (term_eq (tree t p.1) (tree t id)) refl
    (missing-constant t table m ps (All-tail (λ (q : SymId × NodeId). IsSymbol t q.0 × IsNode t q.1) p ps pairs) (All-tail (λ (q : SymId × NodeId). is_some (result_in m 0 q.1) ≡ true) p ps kept) id node missing)
  where
    by : (b : Bool) → term_eq (tree t p.1) (tree t id) ≡ b → constant_for (named_at t ps) (tree t id) ≡ None → cond b (Some (symbol_at t p.0)) (constant_for (named_at t ps) (tree t id)) ≡ None
    by true same rest =
        let pair : IsSymbol t p.0 × IsNode t p.1 = All-head (λ (q : SymId × NodeId). IsSymbol t q.0 × IsNode t q.1) p ps pairs in
        let number : p.1.0 ≡ id.0 = table.one_tree p.1.0 id.0 pair.1 node ((Decides-term_eq (tree t p.1) (tree t id)).0 same) in
        let some : is_some (result_in m 0 p.1) ≡ true = All-head (λ (q : SymId × NodeId). is_some (result_in m 0 q.1) ≡ true) p ps kept in
        let no : false ≡ true = ap is_some (sym missing) ∙ sym (number-result m 0 p.1 id number) ∙ some in
        absurd cc
    by false other rest = rest

-- ---- results that stay were there

pub missing-before : (m0 m1 : Results) (k : NodeId) → (is_some (result_in m0 0 k) ≡ true → is_some (result_in m1 0 k) ≡ true) → result_in m1 0 k ≡ None → result_in m0 0 k ≡ None
missing-before m0 m1 k stays missing = by (result_in m0 0 k) refl
  where
    by : (o : Option NodeId) → result_in m0 0 k ≡ o → result_in m0 0 k ≡ None
    by None e = e
    by (Some r) e = let no : false ≡ true = ap is_some (sym missing) ∙ stays (ap is_some e) in absurd cc
