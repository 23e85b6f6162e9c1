-- Reading over writing keeps values.
use Rattle.std.proofs.Common.{◌≡◌, List, true, cond, ◌&&◌, [], ◌∷◌, Some, refl, ap, sym, ◌∙◌, subst, inl, inr}
use Rattle.std.specs.Prelude.{is_some, if◌then◌else◌}
use Rattle.smt_terms.specs.declared.op.Op.{Op}
use Rattle.smt_terms.specs.declared.op.Op.TheVariants.{Equal, Ite, Select, Store}
use Rattle.smt_terms.specs.Sorts.{Sort, bool}
use Rattle.smt_terms.specs.Term.{Head, op, const_array, Term, apply, quantified, Terms, none, ◌⨾◌}
use Rattle.smt_terms.specs.ArrayTerms.{selected, stored}
use Rattle.smt_terms.specs.Connectives.{equal}
use Rattle.smt_terms.specs.Constants.{are_different_constants}
use Rattle.smt_terms.specs.Equal.{op_eq, term_eq}
use Rattle.smt_terms.specs.Keeps.{Keeps, KeepsValues}
use Rattle.smt_terms.specs.Models.{Model}
use Rattle.smt_terms.specs.Operators.{op_value}
use Rattle.smt_terms.specs.Rank.{shape, sort_of, sorts_of, is_regular, are_regular, IsWellSorted}
use Rattle.smt_terms.specs.Val.{Env, val}
use Rattle.smt_terms.specs.Values.{is_true, same, select}
use Rattle.smt_terms.proofs.Equal.{Decides-op_eq}
use Rattle.smt_terms.proofs.FromBelow.{from_below}
use Rattle.smt_terms.proofs.Keeping.{KeepsAll, keeps_none, keeps_more, keeps_itself, keeps_through, keeps_apply, keeps_made, keeps_quantified, two_or_more}
use Rattle.smt_terms.proofs.Operands.{more_sorts, narrow_sort, sort_over_more, regular_over_more, well_sorted, equal_value}
use Rattle.smt_terms.proofs.Same.{same-itself}
use Rattle.smt_terms.proofs.SameStores.{same_choice}
use Rattle.smt_terms.proofs.Sorted.{sorted}
use Rattle.smt_terms.proofs.Tests.{both_true, and_true, true_or_false}
use Rattle.array_forms.specs.Reads.{where_equal, over_store, read, made_by_reading, reads, reads_all}
use Rattle.smt_terms.proofs.StoredTerms.{keeps, keeps_constant, Stored, stored_term, before_sort, split_value, keeps_element, before_fine, keeps_before}

-- ---- an element of an array that was stored to

module _ (b i v j : Term) (g : Stored b i v j) where
  equal_sort : sort_of (equal i j) ≡ Some bool
  unfolding shape
  equal_sort = sort_over_more Equal i j none (g.index ∷ g.index ∷ []) bool (more_sorts i (j ⨾ none) g.index (g.index ∷ []) g.key_sort (more_sorts j none g.index [] g.asked_sort refl)) (g.index, refl, refl) (narrow_sort bool refl)

  equal_rules : is_regular (equal i j) ≡ true
  equal_rules = regular_over_more Equal i j none (and_true (is_regular i) (is_regular j && true) g.key_rules (and_true (is_regular j) true g.asked_rules refl))

  choice_sort : (w : Term) → sort_of w ≡ Some g.sort → sort_of (where_equal i j v w) ≡ Some g.sort
  unfolding shape
  choice_sort w has = sort_over_more Ite (equal i j) v (w ⨾ none) (bool ∷ g.sort ∷ g.sort ∷ []) g.sort
      (more_sorts (equal i j) (v ⨾ w ⨾ none) bool (g.sort ∷ g.sort ∷ []) equal_sort (more_sorts v (w ⨾ none) g.sort (g.sort ∷ []) g.element (more_sorts w none g.sort [] has refl)))
      (g.sort, refl, refl) (narrow_sort g.sort g.fine)

  choice_value : (w : Term) (m : Model) (e : Env) → val m (where_equal i j v w) e ≡ cond (same g.index m.sizes (val m i e) (val m j e)) (val m v e) (val m w e)
  unfolding op_value
  choice_value w m e = ap (λ c. cond (is_true c) (val m v e) (val m w e)) (equal_value m e i j g.index g.key_sort g.asked_sort)

  keeps_choice : (w : Term) → Keeps (selected b j) w → Keeps (selected (stored b i v) j) (where_equal i j v w)
  keeps_choice w k =
      let rules : is_regular w ≡ true = (both_true (is_some (sort_of w)) (is_regular w) k.sorted).1 in
      let sort : sort_of w ≡ Some g.sort = k.sort ∙ (before_sort b i v j g) in
      keeps (selected (stored b i v) j) (where_equal i j v w) g.sort g.has (choice_sort w sort)
      (regular_over_more Ite (equal i j) v (w ⨾ none) (and_true (is_regular (equal i j)) (is_regular v && (is_regular w && true)) equal_rules (and_true (is_regular v) (is_regular w && true) g.element_rules (and_true (is_regular w) true rules refl))))
      (λ m e model env.
      let test = same g.index m.sizes (val m i e) (val m j e) in
      (λ x. same g.sort m.sizes ((split_value b i v j g) m e x) (choice_value w m e x))
      ∙ same_choice g.sort m.sizes test test (val m v e) (val m v e) (val m (selected b j) e) (val m w e) refl
      (same-itself g.sort m.sizes (val m v e)) (k.value m e g.sort model env (before_sort b i v j g)))

  keeps_store : (w : Term) → Keeps (selected b j) w → Keeps (selected (stored b i v) j) (over_store i j v w)
  keeps_store w k = elim (true_or_false (term_eq i j)) [
    | inl equal_terms ↦ subst (λ c. Keeps (selected (stored b i v) j) (cond c v (cond (are_different_constants i j) w (where_equal i j v w)))) (sym equal_terms) ((keeps_element b i v j g) equal_terms)
    | inr other ↦ subst (λ c. Keeps (selected (stored b i v) j) (cond c v (cond (are_different_constants i j) w (where_equal i j v w)))) (sym other) (elim (true_or_false (are_different_constants i j)) [
      | inl apart ↦ subst (λ c. Keeps (selected (stored b i v) j) (cond c w (where_equal i j v w))) (sym apart) ((keeps_before b i v j g) w k apart)
      | inr either ↦ subst (λ c. Keeps (selected (stored b i v) j) (cond c w (where_equal i j v w))) (sym either) (keeps_choice w k)
    ])
  ]

-- ---- any array

keeps_three : (o : Op) (b i v j r : Term) → (IsWellSorted (selected b j) → Keeps (selected b j) r) → IsWellSorted (selected (apply (op o) (b ⨾ i ⨾ v ⨾ none)) j) → Keeps (selected (apply (op o) (b ⨾ i ⨾ v ⨾ none)) j) (if op_eq o Store then over_store i j v r else selected (apply (op o) (b ⨾ i ⨾ v ⨾ none)) j)
keeps_three o b i v j r below fine = elim (true_or_false (op_eq o Store)) [
  | inl store ↦
      subst (λ p. Keeps (selected (apply (op p) (b ⨾ i ⨾ v ⨾ none)) j) (cond (op_eq p Store) (over_store i j v r) (selected (apply (op p) (b ⨾ i ⨾ v ⨾ none)) j))) (sym ((Decides-op_eq o Store).0 store))
      (subst (λ c. Keeps (selected (stored b i v) j) (cond c (over_store i j v r) (selected (stored b i v) j))) (sym ((Decides-op_eq Store Store).1 refl))
      (at_store (subst (λ p. IsWellSorted (selected (apply (op p) (b ⨾ i ⨾ v ⨾ none)) j)) ((Decides-op_eq o Store).0 store) fine)))
  | inr other ↦ subst (λ c. Keeps (selected (apply (op o) (b ⨾ i ⨾ v ⨾ none)) j) (cond c (over_store i j v r) (selected (apply (op o) (b ⨾ i ⨾ v ⨾ none)) j))) (sym other) (keeps_itself (selected (apply (op o) (b ⨾ i ⨾ v ⨾ none)) j) fine)
]
  where
    at_store : IsWellSorted (selected (stored b i v) j) → Keeps (selected (stored b i v) j) (over_store i j v r)
    at_store there = let g = stored_term b i v j there in keeps_store b i v j g r (below (before_fine b i v j g))

pub read_keeps : (a j : Term) → IsWellSorted (selected a j) → Keeps (selected a j) (read a j)
read_keeps (apply (const_array s) (v ⨾ none)) j fine = keeps_constant s v j fine
read_keeps (apply (op o) (b ⨾ i ⨾ v ⨾ none)) j fine = keeps_three o b i v j (read b j) (read_keeps b j) fine
read_keeps a j fine = keeps_itself (selected a j) fine

-- ---- the law

keeps_select : (o : Op) (ts : Terms) (a j : Term) → IsWellSorted (apply (op o) ts) → KeepsAll ts (a ⨾ j ⨾ none) → Keeps (apply (op o) ts) (if op_eq o Select then read a j else apply (op o) (a ⨾ j ⨾ none))
keeps_select o ts a j fine k =
    let over : Keeps (apply (op o) ts) (apply (op o) (a ⨾ j ⨾ none)) = keeps_apply (op o) ts (a ⨾ j ⨾ none) fine k (two_or_more o a j none) in
    elim (true_or_false (op_eq o Select)) [
      | inl select ↦ subst (λ c. Keeps (apply (op o) ts) (cond c (read a j) (apply (op o) (a ⨾ j ⨾ none)))) (sym select)
          (let one : o ≡ Select = (Decides-op_eq o Select).0 select in
          let there : Keeps (apply (op o) ts) (selected a j) = subst (λ p. Keeps (apply (op o) ts) (apply (op p) (a ⨾ j ⨾ none))) one over in
          keeps_through (apply (op o) ts) (selected a j) (read a j) fine there (read_keeps a j there.sorted))
      | inr other ↦ subst (λ c. Keeps (apply (op o) ts) (cond c (read a j) (apply (op o) (a ⨾ j ⨾ none)))) (sym other) over
    ]

over_head : (h : Head) (ts us : Terms) → IsWellSorted (apply h ts) → KeepsAll ts us → Keeps (apply h ts) (made_by_reading h us)
over_head (op o) ts (a ⨾ j ⨾ none) fine k = keeps_select o ts a j fine k
over_head h ts us fine k = keeps_made h ts us fine k

pub reads_keep : KeepsValues reads
reads_keep = from_below reads made_by_reading quantified (record {
  operands = reads_all;
  at_head = λ h ts. refl;
  at_quantifier = λ q xs t. refl;
  at_none = refl;
  at_more = λ t ts. refl;
}) over_head keeps_quantified

-- and the operands of a term
pub operands_keep : (ts : Terms) (ss : List Sort) → are_regular ts ≡ true → sorts_of ts ≡ Some ss → KeepsAll ts (reads_all ts)
operands_keep none ss fine has = keeps_none
operands_keep (t ⨾ ts) ss fine has =
    let parts = sorted t ts ss has in
    let rules = both_true (is_regular t) (are_regular ts) fine in
    keeps_more t (reads t) ts (reads_all ts) (reads_keep t (well_sorted t parts.sort parts.first rules.0)) (operands_keep ts parts.sorts rules.1 parts.others)
