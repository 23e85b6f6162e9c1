-- What a walk keeps from one root to the next.
use Rattle.std.proofs.Common.{◌≡◌, ℕ, ◌<◌, true, List, length, get_or, All, IsSome, Option, None, Some, is_some, refl, ap, sym, ◌∙◌, subst, arith}
use Rattle.std.proofs.lemmas.List.{get_or-map, length-map}
use Rattle.smt_terms.specs.declared.ids.NodeId.{NodeId}
use Rattle.smt_terms.specs.Groups.{has_term}
use Rattle.smt_terms.specs.Term.{Term}
use Rattle.term_table.specs.Formulas.{Formulas, no_tree, tree_in, tree, trees_at, operands, IsNode, AreNodes}
use Rattle.term_walk.specs.declared.kept.Place.{Place}
use Rattle.term_walk.specs.Places.{result_at, is_closed_at}
use Rattle.term_walk.specs.Stacks.{IsCounted}
use Rattle.term_walk.specs.Subterms.{subterms, all_subterms, is_subterm}
use Rattle.term_walk.specs.Walking.{GrowsTo, HasClosed, AllHaveResults, GainsUnder, GainsBelow, Fits}
use Rattle.term_walk.proofs.Below.{itself, all-down, one-of, alone, all-below}

module _ (t : Formulas) (roots : List NodeId) (nodes : AreNodes t roots) (i : ℕ) (k : NodeId) (lt : i < length roots) (is : get_or roots i k ≡ k) where
  root_within : k.0 < length t.trees
  root_within = subst (λ (j : NodeId). j.0 < length t.trees) is (nodes i k lt)

  -- the term of root i is one of the roots' terms
  root_term : get_or (trees_at t roots) i no_tree ≡ tree t k
  root_term = get_or-map (tree_in t.trees) roots i k no_tree lt ∙ ap (tree t) is

  root_place : i < length (trees_at t roots)
  root_place = let count = length-map roots (tree_in t.trees) in omega (arith, count)

  pub root-subterms : (u : Term) → has_term (subterms (tree t k)) u ≡ true → is_subterm (trees_at t roots) u ≡ true
  root-subterms u h = one-of (trees_at t roots) i root_place u (subst (λ (r : Term). has_term (subterms r) u ≡ true) (sym root_term) h)

  module _ (now : Formulas) (grows : GrowsTo t now) where
    root_same : tree now k ≡ tree t k
    root_same = grows.trees.same k.0 no_tree root_within

    pub counted-roots : IsCounted (all_subterms (trees_at t roots)) t.trees now.trees k
    counted-roots = record {
      grows = grows.trees;
      within = root_within;
      whole = ap (has_term (all_subterms (trees_at t roots))) root_same ∙ root-subterms (tree t k) (itself (tree t k));
      down = all-down (trees_at t roots);
    }

    pub gained-more : {T : Type 0} (old mid new : List (Place T)) → GainsBelow t (trees_at t roots) old mid → GainsUnder now k mid new → GainsBelow t (trees_at t roots) old new
    gained-more old mid new before gained j none_before kept = by (result_at mid j.0) refl
      where
        by : (o : Option _) → result_at mid j.0 ≡ o → IsNode t j × (is_subterm (trees_at t roots) (tree t j) ≡ true)
        by (Some r) e = before j none_before (ap (λ o. is_some o) e)
        by None e =
            let more = gained j e kept in
            let le = more.0 in
            let within = root_within in
            let node : j.0 < length t.trees = omega arith in
            let same : tree now j ≡ tree t j = grows.trees.same j.0 no_tree node in
            let below : has_term (subterms (tree now k)) (tree now j) ≡ true = alone (tree now k) (tree now j) more.1 in
            let P : Term → Term → Type 0 = λ r u. has_term (subterms r) u ≡ true in
            (node, root-subterms (tree t j) (subst (λ (u : Term). P (tree t k) u) same (subst (λ (r : Term). P r (tree now j)) root_same below)))

-- where all roots are closed, all their subterms have results
pub closed-results : {T : Type 0} (R : Formulas → Term → T → Type 0) (t now : Formulas) (roots : List NodeId) (ks : List (Place T)) → AreNodes t roots → GrowsTo t now → Fits R now ks → ((i : ℕ) (d : NodeId) → i < length roots → is_closed_at ks (get_or roots i d).0 ≡ true) → AllHaveResults now (trees_at t roots) ks
closed-results R t now roots ks nodes grows fits closed u among =
    let h : HasClosed now.trees ks u = all-below (HasClosed now.trees ks) (λ v c. subst (λ (w : Term). All (HasClosed now.trees ks) (operands w)) c.term (fits.closed c.id c.closed).operands) (trees_at t roots) each u among in
    record { id = h.id; node = h.node; term = h.term; kept = (fits.closed h.id h.closed).kept }
  where
    each : All (HasClosed now.trees ks) (trees_at t roots)
    each i d lt =
        let count = length-map roots (tree_in t.trees) in
        let within : i < length roots = omega (arith, count) in
        let k = get_or roots i (record { 0 = 0 }) in
        let node : k.0 < length t.trees = nodes i (record { 0 = 0 }) within in
        let longer = grows.trees.longer in
        record {
          id = k;
          node = omega arith;
          term = grows.trees.same k.0 no_tree node ∙ sym (get_or-map (tree_in t.trees) roots i (record { 0 = 0 }) d within);
          closed = closed i (record { 0 = 0 }) within;
        }

pub closed-roots : {T : Type 0} (R : Formulas → Term → T → Type 0) (now : Formulas) (roots : List NodeId) (ks : List (Place T)) → Fits R now ks → ((i : ℕ) (d : NodeId) → i < length roots → is_closed_at ks (get_or roots i d).0 ≡ true) → All (λ k. IsSome (result_at ks k.0)) roots
closed-roots R now roots ks fits closed i d lt = (fits.closed (get_or roots i d) (closed i d lt)).kept
