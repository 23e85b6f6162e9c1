-- The law of `store` keeps values.
use Rattle.std.proofs.Common.{◌≡◌, Bool, true, false, cond, ◌&&◌, inl, inr, [], ◌∷◌, Some, refl, ap, sym, ◌∙◌, subst}
use Rattle.smt_terms.specs.declared.op.Op.{Op}
use Rattle.smt_terms.specs.declared.op.Op.TheVariants.{Store}
use Rattle.smt_terms.specs.Sorts.{Sort, array}
use Rattle.smt_terms.specs.Term.{op, Term, apply, none, ◌⨾◌}
use Rattle.smt_terms.specs.ArrayTerms.{selected, stored}
use Rattle.smt_terms.specs.Equal.{op_eq, term_eq}
use Rattle.smt_terms.specs.Keeps.{Keeps}
use Rattle.smt_terms.specs.Rank.{shape, sort_of, is_array, is_sort, is_regular, IsWellSorted}
use Rattle.smt_terms.specs.Values.{Value, Sizes, same, select, store, is_value, pairs_of, default_of}
use Rattle.smt_terms.specs.Val.{val}
use Rattle.smt_terms.proofs.Equal.{Decides-op_eq, Decides-term_eq}
use Rattle.smt_terms.proofs.Keeping.{keeps_itself, keeps_through}
use Rattle.smt_terms.proofs.Operands.{IsStore, is_store, store_value, select_value, more_sorts, narrow_sort, sort_over_more, regular_over_more}
use Rattle.smt_terms.proofs.Ranked.{rank-takes}
use Rattle.smt_terms.proofs.Respects.{equal_same}
use Rattle.smt_terms.proofs.Same.{same_scalar, same-itself, select-like, is_value-select, array_sorts, array_value, same_default}
use Rattle.smt_terms.proofs.SameStores.{value_at-put}
use Rattle.smt_terms.proofs.Sorted.{applied}
use Rattle.smt_terms.proofs.SortsOfTerms.{regular, sort_is_sort}
use Rattle.smt_terms.proofs.StoredTerms.{fine_term, keeps}
use Rattle.smt_terms.proofs.Tests.{both_true, and_true, true_or_false}
use Rattle.smt_terms.proofs.Valid.{val_valid, is_value-store}
use Rattle.simplify.specs.Arrays.{storing_anew, storing}

-- ---- arrays

module _ (k s : Sort) (sizes : Sizes) (fine : is_sort (array k s) ≡ true) (a i : Value) (va : is_value (array k s) sizes a ≡ true) (vi : is_value k sizes i ≡ true) where
  scalar : is_array k ≡ false
  scalar = (array_sorts k s fine).0

  read_stored : (b v j : Value) → select k sizes (store k sizes b i v) j ≡ cond (same k sizes i j) v (select k sizes b j)
  read_stored b v j = value_at-put (same k sizes) (same_scalar k sizes scalar) i v j (pairs_of b) (default_of b)

  -- what is there already
  store_there : same (array k s) sizes (store k sizes a i (select k sizes a i)) a ≡ true
  store_there = same_default k s sizes (store k sizes a i (select k sizes a i)) a
      (array_value k s sizes (store k sizes a i (select k sizes a i)) (is_value-store k s sizes a i (select k sizes a i) va vi (is_value-select k s sizes a i va)))
      (array_value k s sizes a va)
      (λ j valid. equal_same s sizes (read_stored a (select k sizes a i) j ∙ elim (true_or_false (same k sizes i j)) [
        | inl here ↦ ap (λ c. cond c (select k sizes a i) (select k sizes a j)) here ∙ select-like k sizes a i j scalar here
        | inr other ↦ ap (λ c. cond c (select k sizes a i) (select k sizes a j)) other
      ]))
      (same-itself s sizes (default_of a))

  -- the later of two
  store_twice : (v w : Value) → is_value s sizes v ≡ true → is_value s sizes w ≡ true → same (array k s) sizes (store k sizes (store k sizes a i w) i v) (store k sizes a i v) ≡ true
  store_twice v w vv vw = same_default k s sizes (store k sizes (store k sizes a i w) i v) (store k sizes a i v)
      (array_value k s sizes (store k sizes (store k sizes a i w) i v) (is_value-store k s sizes (store k sizes a i w) i v (is_value-store k s sizes a i w va vi vw) vi vv))
      (array_value k s sizes (store k sizes a i v) (is_value-store k s sizes a i v va vi vv))
      (λ j valid. equal_same s sizes (read_stored (store k sizes a i w) v j ∙ ap (cond (same k sizes i j) v) (read_stored a w j) ∙ same_test (same k sizes i j) v w (select k sizes a j) ∙ sym (read_stored a v j)))
      (same-itself s sizes (default_of a))
    where
      same_test : (c : Bool) (v w r : Value) → cond c v (cond c w r) ≡ cond c v r
      same_test true v w r = refl
      same_test false v w r = refl

-- ---- the operands of a store

record Parts (a i v : Term) : Type 0 where
  index : Sort
  element : Sort
  has : sort_of (stored a i v) ≡ Some (array index element)
  operands : IsStore a i v index element
  fine : is_sort (array index element) ≡ true
  array_rules : is_regular a ≡ true
  key_rules : is_regular i ≡ true
  element_rules : is_regular v ≡ true

parts_of : (a i v : Term) → IsWellSorted (stored a i v) → Parts a i v
unfolding shape
parts_of a i v fine =
    let f = fine_term (stored a i v) fine in
    let over = applied (op Store) (a ⨾ i ⨾ v ⨾ none) f.sort f.has in
    let taken = rank-takes (op Store) over.sorts f.sort over.rank in
    let has : sort_of (stored a i v) ≡ Some (array taken.0 taken.1) = f.has ∙ ap (λ r. Some r) taken.3 in
    let rules = both_true (is_regular a) (is_regular i && (is_regular v && true)) (regular (op Store) (a ⨾ i ⨾ v ⨾ none) f.rules).operands in
    let rest = both_true (is_regular i) (is_regular v && true) rules.1 in
    record {
      index = taken.0;
      element = taken.1;
      has = has;
      operands = is_store a i v taken.0 taken.1 has;
      fine = sort_is_sort (stored a i v) (array taken.0 taken.1) f.rules has;
      array_rules = rules.0;
      key_rules = rest.0;
      element_rules = (both_true (is_regular v) true rest.1).0;
    }

-- ---- an element that is there already

keeps_there : (a i : Term) → IsWellSorted (stored a i (selected a i)) → Keeps (stored a i (selected a i)) a
keeps_there a i fine =
    let p = parts_of a i (selected a i) fine in
    keeps (stored a i (selected a i)) a (array p.index p.element) p.has p.operands.array_sort p.array_rules
    (λ m e model env.
    let left = store_value m e a i (selected a i) p.index p.element p.operands.array_sort p.operands.index_sort p.operands.element_sort
    ∙ ap (store p.index m.sizes (val m a e) (val m i e)) (select_value m e a i p.index p.element p.operands.array_sort p.operands.index_sort) in
    ap (λ v. same (array p.index p.element) m.sizes v (val m a e)) left
    ∙ store_there p.index p.element m.sizes p.fine (val m a e) (val m i e) (val_valid a (array p.index p.element) m e model env p.operands.array_sort) (val_valid i p.index m e model env p.operands.index_sort))

keeps_anew : (a i v : Term) → IsWellSorted (stored a i v) → Keeps (stored a i v) (storing_anew a i v)
keeps_anew a i v fine = elim (true_or_false (term_eq v (selected a i))) [
  | inl there ↦ subst (λ c. Keeps (stored a i v) (cond c a (stored a i v))) (sym there)
      (let one : v ≡ selected a i = (Decides-term_eq v (selected a i)).0 there in
      subst (λ u. Keeps (stored a i u) a) (sym one) (keeps_there a i (subst (λ u. IsWellSorted (stored a i u)) one fine)))
  | inr other ↦ subst (λ c. Keeps (stored a i v) (cond c a (stored a i v))) (sym other) (keeps_itself (stored a i v) fine)
]

-- ---- of two stores at one index, the later one

abbrev twice_stored : Term → Term → Term → Term → Term → Term
twice_stored a j w i v = stored (stored a j w) i v

keeps_later : (a w i v : Term) → IsWellSorted (twice_stored a i w i v) → Keeps (twice_stored a i w i v) (stored a i v)
unfolding shape
keeps_later a w i v fine =
    let p = parts_of (stored a i w) i v fine in
    let q = is_store a i w p.index p.element p.operands.array_sort in
    let inner = both_true (is_regular a) (is_regular i && (is_regular w && true)) (regular (op Store) (a ⨾ i ⨾ w ⨾ none) p.array_rules).operands in
    let sort : sort_of (stored a i v) ≡ Some (array p.index p.element) = sort_over_more Store a i (v ⨾ none) (array p.index p.element ∷ p.index ∷ p.element ∷ []) (array p.index p.element)
    (more_sorts a (i ⨾ v ⨾ none) (array p.index p.element) (p.index ∷ p.element ∷ []) q.array_sort (more_sorts i (v ⨾ none) p.index (p.element ∷ []) p.operands.index_sort (more_sorts v none p.element [] p.operands.element_sort refl)))
    (p.index, p.element, refl, refl) (narrow_sort (array p.index p.element) p.fine) in
    keeps (twice_stored a i w i v) (stored a i v) (array p.index p.element) p.has sort
    (regular_over_more Store a i (v ⨾ none) (and_true (is_regular a) (is_regular i && (is_regular v && true)) inner.0 (and_true (is_regular i) (is_regular v && true) p.key_rules (and_true (is_regular v) true p.element_rules refl))))
    (λ m e model env.
    let left = store_value m e (stored a i w) i v p.index p.element p.operands.array_sort p.operands.index_sort p.operands.element_sort
    ∙ ap (λ b. store p.index m.sizes b (val m i e) (val m v e)) (store_value m e a i w p.index p.element q.array_sort q.index_sort q.element_sort) in
    let right = store_value m e a i v p.index p.element q.array_sort p.operands.index_sort p.operands.element_sort in
    (λ x. same (array p.index p.element) m.sizes (left x) (right x))
    ∙ store_twice p.index p.element m.sizes p.fine (val m a e) (val m i e) (val_valid a (array p.index p.element) m e model env q.array_sort) (val_valid i p.index m e model env p.operands.index_sort)
    (val m v e) (val m w e) (val_valid v p.element m e model env p.operands.element_sort) (val_valid w p.element m e model env q.element_sort))

keeps_last : (a j w i v r : Term) → (IsWellSorted (stored a i v) → Keeps (stored a i v) r) → IsWellSorted (twice_stored a j w i v) → term_eq i j ≡ true → Keeps (twice_stored a j w i v) r
keeps_last a j w i v r below fine equal =
    let one : i ≡ j = (Decides-term_eq i j).0 equal in
    let there : IsWellSorted (twice_stored a i w i v) = subst (λ t. IsWellSorted (twice_stored a t w i v)) (sym one) fine in
    let k : Keeps (twice_stored a i w i v) (stored a i v) = keeps_later a w i v there in
    subst (λ t. Keeps (twice_stored a t w i v) r) one (keeps_through (twice_stored a i w i v) (stored a i v) r there k (below k.sorted))

keeps_three : (o : Op) (a j w i v r : Term) → (IsWellSorted (stored a i v) → Keeps (stored a i v) r) → IsWellSorted (stored (apply (op o) (a ⨾ j ⨾ w ⨾ none)) i v) → Keeps (stored (apply (op o) (a ⨾ j ⨾ w ⨾ none)) i v) (cond (op_eq o Store && term_eq i j) r (storing_anew (apply (op o) (a ⨾ j ⨾ w ⨾ none)) i v))
keeps_three o a j w i v r below fine = elim (true_or_false (op_eq o Store && term_eq i j)) [
  | inl both ↦
      let parts = both_true (op_eq o Store) (term_eq i j) both in
      let one : o ≡ Store = (Decides-op_eq o Store).0 parts.0 in
      subst (λ c. Keeps (stored (apply (op o) (a ⨾ j ⨾ w ⨾ none)) i v) (cond c r (storing_anew (apply (op o) (a ⨾ j ⨾ w ⨾ none)) i v))) (sym both)
      (subst (λ p. Keeps (stored (apply (op p) (a ⨾ j ⨾ w ⨾ none)) i v) r) (sym one)
      (keeps_last a j w i v r below (subst (λ p. IsWellSorted (stored (apply (op p) (a ⨾ j ⨾ w ⨾ none)) i v)) one fine) parts.1))
  | inr other ↦
      subst (λ c. Keeps (stored (apply (op o) (a ⨾ j ⨾ w ⨾ none)) i v) (cond c r (storing_anew (apply (op o) (a ⨾ j ⨾ w ⨾ none)) i v))) (sym other)
      (keeps_anew (apply (op o) (a ⨾ j ⨾ w ⨾ none)) i v fine)
]

pub storing_keeps : (a i v : Term) → IsWellSorted (stored a i v) → Keeps (stored a i v) (storing a i v)
storing_keeps (apply (op o) (a ⨾ j ⨾ w ⨾ none)) i v fine = keeps_three o a j w i v (storing a i v) (storing_keeps a i v) fine
storing_keeps a i v fine = keeps_anew a i v fine
