-- Folds over the operands, from the left and from the right.
use Rattle.std.proofs.Common.{◌≡◌, true, ℕ, suc, ◌+◌, ◌-◌, ◌<◌, ◌≤◌, List, [], ◌∷◌, length, take, drop, get_or, Some, Ok, IsOk, refl, ap, sym, ◌∙◌, subst, arith}
use Rattle.std.proofs.Math.Seq.{drop-cons, drop-length}
use Rattle.std.proofs.lemmas.List.{get_or-map, length-map, length-drop, take_rest}
use Rattle.std.proofs.lemmas.List.Elements.{All-head, All-get_or}
use Rattle.smt_terms.specs.declared.ids.NodeId.{NodeId}
use Rattle.smt_terms.specs.declared.op.Op.{Op}
use Rattle.smt_terms.specs.Rank.{shape, sort_of}
use Rattle.smt_terms.specs.Sorts.{Sort}
use Rattle.smt_terms.specs.Term.{Term}
use Rattle.smt_terms.specs.Written.{left_associative, right_associative, build, apply_to_both, from_left, from_right, associated}
use Rattle.term_table.specs.Formulas.{Formulas, no_tree, tree, tree_in, trees_at, IsNode, sort_or_bool}
use Rattle.sort_check.specs.Forms.{is_fold}
use Rattle.sort_check.specs.Making.{term_algebra, Extends}
use Rattle.sort_check.specs.Operands.{rank_pair, node_sort, IsOfSort, TakesEach}
use Rattle.sort_check.proofs.Answering.{fold_result}
use Rattle.sort_check.proofs.Growing.{extends-refl, extends-trans, tree-extends, sorted-extends}
use Rattle.sort_check.proofs.Nodes.{pair_sort}

-- two nodes of one sort, which the operator takes
pub ranked_as : (t : Formulas) (o : Op) (k l : NodeId) (s to : Sort) → IsOfSort t k s → IsOfSort t l s → rank_pair o s s ≡ Ok to → IsOk (rank_pair o (node_sort t k) (node_sort t l))
ranked_as t o k l s to a b ranked = subst IsOk (sym ((λ i. rank_pair o (sort_or_bool (a.sort i)) (sort_or_bool (b.sort i))) ∙ ranked)) refl

-- their node
pub pair_of_sort : (old new : Formulas) (o : Op) (k l n : NodeId) (s to : Sort) → IsOfSort old k s → IsOfSort old l s → rank_pair o s s ≡ Ok to → IsNode new n → tree new n ≡ apply_to_both term_algebra o (tree old k) (tree old l) → IsOfSort new n to
pair_of_sort old new o k l n s to a b ranked node term =
    record { node = node; sort = ap sort_of term ∙ pair_sort o (tree old k) (tree old l) s s to a.sort b.sort ranked }

module _ (old : Formulas) (o : Op) (ks : List NodeId) (x : TakesEach old o ks) (fold : is_fold (shape o) ≡ true) where
  to_itself : rank_pair o x.sort x.sort ≡ Ok x.sort
  to_itself = x.ranked ∙ ap Ok (fold_result o x.sort x.result fold x.ranked)

  kid_sorted : (new : Formulas) → Extends old new → (k : ℕ) (d : NodeId) → k < length ks → IsOfSort new (get_or ks k d) x.sort
  kid_sorted new e k d lt = sorted-extends old new e (get_or ks k d) x.sort (All-get_or (λ n. IsOfSort old n x.sort) ks k d lt x.operands)

  pub kid_node : (new : Formulas) → Extends old new → (k : ℕ) (d : NodeId) → k < length ks → IsNode new (get_or ks k d)
  kid_node new e k d lt = (kid_sorted new e k d lt).node

  kid_tree : (new : Formulas) → Extends old new → (k : ℕ) (d : NodeId) → k < length ks → tree new (get_or ks k d) ≡ get_or (trees_at old ks) k no_tree
  kid_tree new e k d lt =
      tree-extends old new e (get_or ks k d) (All-get_or (λ n. IsOfSort old n x.sort) ks k d lt x.operands).node
      ∙ sym (get_or-map (tree_in old.trees) ks k d no_tree lt)

-- ---- from the left

-- what was made of the first operand and k more
pub record LeftFold (old new : Formulas) (o : Op) (first : NodeId) (rest : List NodeId) (all : NodeId) (k : ℕ) : Type 0 where
  pub extends : Extends old new
  pub node : IsNode new all
  pub sort : (x : TakesEach old o (first ∷ rest)) → sort_of (tree new all) ≡ Some x.sort
  pub term : from_left (apply_to_both term_algebra o) (tree new all) (drop k (trees_at old rest)) ≡ from_left (apply_to_both term_algebra o) (tree old first) (trees_at old rest)

module _ (old : Formulas) (o : Op) (first : NodeId) (rest : List NodeId) (x : TakesEach old o (first ∷ rest)) where
  pub left_first : LeftFold old old o first rest first 0
  left_first =
      let at = λ (y : TakesEach old o (first ∷ rest)). All-head (λ n. IsOfSort old n y.sort) first rest y.operands in
      record { extends = extends-refl old; node = (at x).node; sort = λ y. (at y).sort; term = refl }

  module _ (fold : is_fold (shape o) ≡ true) (new : Formulas) (all : NodeId) (k : ℕ) (d : NodeId) (lt : k < length rest) (f : LeftFold old new o first rest all k) where
    pub left_kid : IsNode new (get_or rest k d)
    left_kid = kid_node old o (first ∷ rest) x fold new f.extends (suc k) d (omega arith)

    all_sorted : (y : TakesEach old o (first ∷ rest)) → IsOfSort new all y.sort
    all_sorted y = record { node = f.node; sort = f.sort y }

    pub left_ranked : IsOk (rank_pair o (node_sort new all) (node_sort new (get_or rest k d)))
    left_ranked = ranked_as new o all (get_or rest k d) x.sort x.sort (all_sorted x) (kid_sorted old o (first ∷ rest) x fold new f.extends (suc k) d (omega arith)) (to_itself old o (first ∷ rest) x fold)

    pub left_next : (newer : Formulas) (n : NodeId) → Extends new newer → IsNode newer n → tree newer n ≡ apply_to_both term_algebra o (tree new all) (tree new (get_or rest k d)) → LeftFold old newer o first rest n (k + 1)
    left_next newer n e node term =
        let within : k < length (trees_at old rest) = let count = length-map rest (tree_in old.trees) in omega (arith, count) in
        let next : suc k ≡ k + 1 = omega arith in
        let two = apply_to_both term_algebra o in
        let u = get_or (trees_at old rest) k no_tree in
        record {
          extends = extends-trans old new newer f.extends e;
          node = node;
          sort = λ y. (pair_of_sort new newer o all (get_or rest k d) n y.sort y.sort (all_sorted y) (kid_sorted old o (first ∷ rest) y fold new f.extends (suc k) d (omega arith)) (to_itself old o (first ∷ rest) y fold) node term).sort;
          term =
              ap (λ v. from_left two v (drop (k + 1) (trees_at old rest))) (term ∙ ap (λ v. two (tree new all) v) (kid_tree old o (first ∷ rest) x fold new f.extends (suc k) d (omega arith)))
              ∙ ap (λ j. from_left two (two (tree new all) u) (drop j (trees_at old rest))) (sym next)
              ∙ sym (ap (from_left two (tree new all)) (drop-cons (trees_at old rest) k no_tree within))
              ∙ f.term;
        }

  pub left_done : (new : Formulas) (all : NodeId) (k : ℕ) → length rest ≤ k → k ≤ length rest → LeftFold old new o first rest all k → tree new all ≡ from_left (apply_to_both term_algebra o) (tree old first) (trees_at old rest)
  left_done new all k most least f =
      let count = length-map rest (tree_in old.trees) in
      let at_end : k ≡ length (trees_at old rest) = omega (arith, count) in
      ap (from_left (apply_to_both term_algebra o) (tree new all)) (sym (ap (λ j. drop j (trees_at old rest)) at_end ∙ drop-length (trees_at old rest))) ∙ f.term

-- ---- from the right

-- what was made of the operands from number k on
pub record RightFold (old new : Formulas) (o : Op) (ks : List NodeId) (all : NodeId) (k : ℕ) : Type 0 where
  pub extends : Extends old new
  pub node : IsNode new all
  pub sort : (x : TakesEach old o ks) → sort_of (tree new all) ≡ Some x.sort
  pub term : tree new all ≡ associated term_algebra o (from_right (apply_to_both term_algebra o)) (drop k (trees_at old ks))

right_cons : (o : Op) (t : Term) (us : List Term) → 0 < length us → associated term_algebra o (from_right (apply_to_both term_algebra o)) (t ∷ us) ≡ apply_to_both term_algebra o t (associated term_algebra o (from_right (apply_to_both term_algebra o)) us)
right_cons o t [] lt = absurd (omega arith)
right_cons o t (u ∷ us) lt = refl

module _ (old : Formulas) (o : Op) (ks : List NodeId) (x : TakesEach old o ks) (fold : is_fold (shape o) ≡ true) where
  pub right_last : (k : ℕ) (d : NodeId) → k + 1 ≡ length ks → RightFold old old o ks (get_or ks k d) k
  right_last k d last =
      let within : k < length ks = omega arith in
      let count = length-map ks (tree_in old.trees) in
      let within_trees : k < length (trees_at old ks) = omega (arith, count) in
      let at_end : suc k ≡ length (trees_at old ks) = omega (arith, count) in
      let at = λ (y : TakesEach old o ks). kid_sorted old o ks y fold old (extends-refl old) k d within in
      record {
        extends = extends-refl old;
        node = (at x).node;
        sort = λ y. (at y).sort;
        term = kid_tree old o ks x fold old (extends-refl old) k d within
            ∙ sym (ap (associated term_algebra o (from_right (apply_to_both term_algebra o))) (drop-cons (trees_at old ks) k no_tree within_trees
            ∙ ap (λ us. get_or (trees_at old ks) k no_tree ∷ us) (ap (λ j. drop j (trees_at old ks)) at_end ∙ drop-length (trees_at old ks))));
      }

  module _ (new : Formulas) (all : NodeId) (k j : ℕ) (d : NodeId) (lt : j < length ks) (is : j ≡ k + 1) (g : RightFold old new o ks all j) where
    f : RightFold old new o ks all (k + 1)
    f = subst (RightFold old new o ks all) is g

    within : k < length ks
    within = omega arith

    pub right_kid : IsNode new (get_or ks k d)
    right_kid = kid_node old o ks x fold new f.extends k d within

    made_sorted : (y : TakesEach old o ks) → IsOfSort new all y.sort
    made_sorted y = record { node = f.node; sort = f.sort y }

    pub right_ranked : IsOk (rank_pair o (node_sort new (get_or ks k d)) (node_sort new all))
    right_ranked = ranked_as new o (get_or ks k d) all x.sort x.sort (kid_sorted old o ks x fold new f.extends k d within) (made_sorted x) (to_itself old o ks x fold)

    pub right_next : (newer : Formulas) (n : NodeId) → Extends new newer → IsNode newer n → tree newer n ≡ apply_to_both term_algebra o (tree new (get_or ks k d)) (tree new all) → RightFold old newer o ks n k
    right_next newer n e node term =
        let count = length-map ks (tree_in old.trees) in
        let within_trees : k < length (trees_at old ks) = omega (arith, count, within) in
        let next : k + 1 ≡ suc k = omega arith in
        let more : 0 < length (drop (suc k) (trees_at old ks)) = let dropped = length-drop (suc k) (trees_at old ks) in omega (arith, count, dropped) in
        let two = apply_to_both term_algebra o in
        let t = get_or (trees_at old ks) k no_tree in
        record {
          extends = extends-trans old new newer f.extends e;
          node = node;
          sort = λ y. (pair_of_sort new newer o (get_or ks k d) all n y.sort y.sort (kid_sorted old o ks y fold new f.extends k d within) (made_sorted y) (to_itself old o ks y fold) node term).sort;
          term = term ∙ (λ i. two (kid_tree old o ks x fold new f.extends k d within i) (f.term i))
              ∙ ap (λ j. two t (associated term_algebra o (from_right two) (drop j (trees_at old ks)))) next
              ∙ sym (right_cons o t (drop (suc k) (trees_at old ks)) more)
              ∙ sym (ap (associated term_algebra o (from_right two)) (drop-cons (trees_at old ks) k no_tree within_trees));
        }

pub right_done : (old new : Formulas) (o : Op) (ks : List NodeId) (all : NodeId) (k : ℕ) → k ≤ 0 → RightFold old new o ks all k → tree new all ≡ associated term_algebra o (from_right (apply_to_both term_algebra o)) (trees_at old ks)
right_done old new o ks all k least f =
    let none : k ≡ 0 = omega arith in
    f.term ∙ ap (λ j. associated term_algebra o (from_right (apply_to_both term_algebra o)) (drop j (trees_at old ks))) none

pub left_built : (old : Formulas) (o : Op) (ks : List NodeId) (d : NodeId) → 2 ≤ length ks
    → from_left (apply_to_both term_algebra o) (tree old (get_or ks 0 d)) (trees_at old (take (length ks - 1) (drop 1 ks))) ≡ build term_algebra (left_associative o) (trees_at old ks)
unfolding build
left_built old o [] d two = absurd (omega arith)
left_built old o (k ∷ ks) d two = ap (λ l. from_left (apply_to_both term_algebra o) (tree old k) (trees_at old l)) (take_rest (k ∷ ks) 1)

pub right_built : (o : Op) (ts : List Term) → associated term_algebra o (from_right (apply_to_both term_algebra o)) ts ≡ build term_algebra (right_associative o) ts
unfolding build
right_built o ts = refl
