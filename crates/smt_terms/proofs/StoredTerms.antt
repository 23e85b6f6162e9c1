-- Elements of constant arrays and of arrays that were stored to.
use Rattle.std.proofs.Common.{◌≡◌, true, false, cond, ◌&&◌, [], ◌∷◌, Some, refl, ap, sym, ◌∙◌, subst}
use Rattle.std.specs.Prelude.{is_some}
use Rattle.smt_terms.specs.declared.op.Op.TheVariants.{Select, Store}
use Rattle.smt_terms.specs.Sorts.{Sort, array}
use Rattle.smt_terms.specs.Term.{op, const_array, Term, apply, none, ◌⨾◌}
use Rattle.smt_terms.specs.ArrayTerms.{selected, stored}
use Rattle.smt_terms.specs.Constants.{are_different_constants}
use Rattle.smt_terms.specs.Equal.{term_eq}
use Rattle.smt_terms.specs.Keeps.{Keeps}
use Rattle.smt_terms.specs.Laws.{IsEnv}
use Rattle.smt_terms.specs.Models.{Model, IsModel}
use Rattle.smt_terms.specs.Rank.{shape, sort_of, is_array, is_sort, is_regular, IsWellSorted}
use Rattle.smt_terms.specs.Val.{Env, val}
use Rattle.smt_terms.specs.Values.{same, select, pairs_of, default_of}
use Rattle.smt_terms.proofs.ConstantTerms.{constants_apart}
use Rattle.smt_terms.proofs.Equal.{Decides-term_eq}
use Rattle.smt_terms.proofs.Keeping.{keeps_through, the_sort}
use Rattle.smt_terms.proofs.Operands.{more_sorts, fewer_sorts, narrow_sort, sort_over_more, regular_over_more, well_sorted, select_value, store_value, is_select, is_store}
use Rattle.smt_terms.proofs.Ranked.{rank-takes}
use Rattle.smt_terms.proofs.Respects.{equal_same}
use Rattle.smt_terms.proofs.Same.{same_scalar, same-itself, array_sorts}
use Rattle.smt_terms.proofs.SameStores.{value_at-put}
use Rattle.smt_terms.proofs.Sorted.{applied}
use Rattle.smt_terms.proofs.SortsOfTerms.{regular, sort_is_sort}
use Rattle.smt_terms.proofs.Tests.{both_true, and_true}

-- ---- a term that is well sorted

pub record Fine (t : Term) : Type 0 where
  pub sort : Sort
  pub has : sort_of t ≡ Some sort
  pub rules : is_regular t ≡ true

pub fine_term : (t : Term) → IsWellSorted t → Fine t
fine_term t fine =
    let parts = both_true (is_some (sort_of t)) (is_regular t) fine in
    let found = the_sort (sort_of t) parts.0 in
    record { sort = found.0; has = found.1; rules = parts.1 }

-- what stands for a term of that sort, by its value
pub keeps : (t u : Term) (s : Sort) → sort_of t ≡ Some s → sort_of u ≡ Some s → is_regular u ≡ true → ((m : Model) (e : Env) → IsModel m → IsEnv m.sizes e → same s m.sizes (val m t e) (val m u e) ≡ true) → Keeps t u
keeps t u s has result rules value = record {
  sorted = well_sorted u s result rules;
  sort = result ∙ sym has;
  value = λ m e r model env there.
      let one : Some s ≡ Some r = sym has ∙ there in
      let equal : s ≡ r = cc in
      subst (λ q. same q m.sizes (val m t e) (val m u e) ≡ true) equal (value m e model env);
}

-- ---- an element of a constant array

pub array_rules : (a j : Term) → is_regular (selected a j) ≡ true → (is_regular a ≡ true) × (is_regular j ≡ true)
array_rules a j rules =
    let parts = both_true (is_regular a) (is_regular j && true) (regular (op Select) (a ⨾ j ⨾ none) rules).operands in
    (parts.0, (both_true (is_regular j) true parts.1).0)

pub element_sort : (r : Sort) (v : Term) (i s : Sort) → sort_of (apply (const_array r) (v ⨾ none)) ≡ Some (array i s) → sort_of v ≡ Some s
element_sort r v i s has =
    let parts = applied (const_array r) (v ⨾ none) (array i s) has in
    let taken = rank-takes (const_array r) parts.sorts (array i s) parts.rank in
    let one : array i s ≡ array taken.0 taken.1 = taken.4 ∙ taken.2 in
    let element : taken.1 ≡ s = cc in
    (fewer_sorts v none taken.1 [] (parts.operands ∙ ap (λ rs. Some rs) taken.3)).0 ∙ ap (λ q. Some q) element

pub keeps_constant : (r : Sort) (v j : Term) → IsWellSorted (selected (apply (const_array r) (v ⨾ none)) j) → Keeps (selected (apply (const_array r) (v ⨾ none)) j) v
keeps_constant r v j fine =
    let f = fine_term (selected (apply (const_array r) (v ⨾ none)) j) fine in
    let sel = is_select (apply (const_array r) (v ⨾ none)) j f.sort f.has in
    let inner = (array_rules (apply (const_array r) (v ⨾ none)) j f.rules).0 in
    keeps (selected (apply (const_array r) (v ⨾ none)) j) v f.sort f.has (element_sort r v sel.index f.sort sel.array_sort)
    (both_true (is_regular v) true (regular (const_array r) (v ⨾ none) inner).operands).0
    (λ m e model env. equal_same f.sort m.sizes (select_value m e (apply (const_array r) (v ⨾ none)) j sel.index f.sort sel.array_sort sel.index_sort))

-- ---- an element of an array that was stored to

pub record Stored (b i v j : Term) : Type 0 where
  pub index : Sort
  pub sort : Sort
  pub has : sort_of (selected (stored b i v) j) ≡ Some sort
  pub array_sort : sort_of b ≡ Some (array index sort)
  pub key_sort : sort_of i ≡ Some index
  pub element : sort_of v ≡ Some sort
  pub asked_sort : sort_of j ≡ Some index
  pub scalar : is_array index ≡ false
  pub array_rules : is_regular b ≡ true
  pub key_rules : is_regular i ≡ true
  pub element_rules : is_regular v ≡ true
  pub asked_rules : is_regular j ≡ true
  pub fine : is_sort sort ≡ true

pub stored_term : (b i v j : Term) → IsWellSorted (selected (stored b i v) j) → Stored b i v j
stored_term b i v j fine =
    let f = fine_term (selected (stored b i v) j) fine in
    let sel = is_select (stored b i v) j f.sort f.has in
    let sto = is_store b i v sel.index f.sort sel.array_sort in
    let rules = array_rules (stored b i v) j f.rules in
    let inner = both_true (is_regular b) (is_regular i && (is_regular v && true)) (regular (op Store) (b ⨾ i ⨾ v ⨾ none) rules.0).operands in
    let rest = both_true (is_regular i) (is_regular v && true) inner.1 in
    record {
      index = sel.index;
      sort = f.sort;
      has = f.has;
      array_sort = sto.array_sort;
      key_sort = sto.index_sort;
      element = sto.element_sort;
      asked_sort = sel.index_sort;
      scalar = (array_sorts sel.index f.sort (sort_is_sort (stored b i v) (array sel.index f.sort) rules.0 sel.array_sort)).0;
      array_rules = inner.0;
      key_rules = rest.0;
      element_rules = (both_true (is_regular v) true rest.1).0;
      asked_rules = rules.1;
      fine = sort_is_sort (selected (stored b i v) j) f.sort f.rules f.has;
    }

module _ (b i v j : Term) (g : Stored b i v j) where
  pub before_sort : sort_of (selected b j) ≡ Some g.sort
  unfolding shape
  before_sort = sort_over_more Select b j none (array g.index g.sort ∷ g.index ∷ []) g.sort (more_sorts b (j ⨾ none) (array g.index g.sort) (g.index ∷ []) g.array_sort (more_sorts j none g.index [] g.asked_sort refl)) (g.index, refl) (narrow_sort g.sort g.fine)

  pub before_rules : is_regular (selected b j) ≡ true
  before_rules = regular_over_more Select b j none (and_true (is_regular b) (is_regular j && true) g.array_rules (and_true (is_regular j) true g.asked_rules refl))

  -- the stored element at the stored index, else what was there before
  pub split_value : (m : Model) (e : Env) → val m (selected (stored b i v) j) e ≡ cond (same g.index m.sizes (val m i e) (val m j e)) (val m v e) (val m (selected b j) e)
  unfolding shape
  split_value m e =
      let store_sort : sort_of (stored b i v) ≡ Some (array g.index g.sort) = (is_select (stored b i v) j g.sort g.has).array_sort ∙ index_only in
      select_value m e (stored b i v) j g.index g.sort store_sort g.asked_sort
      ∙ ap (λ a. select g.index m.sizes a (val m j e)) (store_value m e b i v g.index g.sort g.array_sort g.key_sort g.element)
      ∙ value_at-put (same g.index m.sizes) (same_scalar g.index m.sizes g.scalar) (val m i e) (val m v e) (val m j e) (pairs_of (val m b e)) (default_of (val m b e))
      ∙ ap (cond (same g.index m.sizes (val m i e) (val m j e)) (val m v e)) (sym (select_value m e b j g.index g.sort g.array_sort g.asked_sort))
    where
      index_only : Some (array (is_select (stored b i v) j g.sort g.has).index g.sort) ≡ Some (array g.index g.sort)
      index_only =
          let sel = is_select (stored b i v) j g.sort g.has in
          let one : Some sel.index ≡ Some g.index = sym sel.index_sort ∙ g.asked_sort in
          let index : sel.index ≡ g.index = cc in
          ap (λ k. Some (array k g.sort)) index

  pub keeps_element : term_eq i j ≡ true → Keeps (selected (stored b i v) j) v
  keeps_element equal_terms =
      let one : i ≡ j = (Decides-term_eq i j).0 equal_terms in
      keeps (selected (stored b i v) j) v g.sort g.has g.element g.element_rules
      (λ m e model env. equal_same g.sort m.sizes (split_value m e ∙ ap (λ c. cond c (val m v e) (val m (selected b j) e)) (here m e one)))
    where
      here : (m : Model) (e : Env) → i ≡ j → same g.index m.sizes (val m i e) (val m j e) ≡ true
      here m e one = subst (λ t. same g.index m.sizes (val m i e) (val m t e) ≡ true) one (same-itself g.index m.sizes (val m i e))

  pub before_fine : IsWellSorted (selected b j)
  before_fine = well_sorted (selected b j) g.sort before_sort before_rules

  -- at another constant, by what stands for the element before
  pub keeps_before : (w : Term) → Keeps (selected b j) w → are_different_constants i j ≡ true → Keeps (selected (stored b i v) j) w
  keeps_before w k apart =
      keeps_through (selected (stored b i v) j) (selected b j) w
      (well_sorted (selected (stored b i v) j) g.sort g.has (regular_over_more Select (stored b i v) j none (and_true (is_regular (stored b i v)) (is_regular j && true) store_rules (and_true (is_regular j) true g.asked_rules refl))))
      (keeps (selected (stored b i v) j) (selected b j) g.sort g.has before_sort before_rules
      (λ m e model env. equal_same g.sort m.sizes (split_value m e ∙ ap (λ c. cond c (val m v e) (val m (selected b j) e)) (constants_apart i j g.index apart g.key_sort g.asked_sort m e))))
      k
    where
      store_rules : is_regular (stored b i v) ≡ true
      store_rules = regular_over_more Store b i (v ⨾ none) (and_true (is_regular b) (is_regular i && (is_regular v && true)) g.array_rules (and_true (is_regular i) (is_regular v && true) g.key_rules (and_true (is_regular v) true g.element_rules refl)))
