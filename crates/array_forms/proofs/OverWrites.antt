-- What is read over writes, as nodes.
use Rattle.std.proofs.Common.{rules, ◌≡◌, ◌⊎◌, ℕ, suc, Bool, ℤ, ◌<◌, true, false, cond, List, [], ◌∷◌, ◌++◌, length, get_or, All, Option, Some, Ok, refl, ap, sym, ◌∙◌, subst, inl, inr, arith}
use Rattle.std.specs.Prelude.{is_some}
use Rattle.std.proofs.lemmas.List.{length-map}
use Rattle.std.proofs.lemmas.List.Elements.{All-head, All-tail}
use Rattle.smt_terms.specs.declared.ids.NodeId.{NodeId}
use Rattle.smt_terms.specs.declared.ids.SortId.{SortId}
use Rattle.smt_terms.specs.declared.op.Op.{Op}
use Rattle.smt_terms.specs.declared.op.Op.TheVariants.{Truth, Whole, Bits, ConstArray, Equal, Ite, Select, Store}
use Rattle.smt_terms.specs.ArrayTerms.{selected, stored}
use Rattle.smt_terms.specs.Connectives.{equal}
use Rattle.smt_terms.specs.Constants.{literal_value, is_constant, are_different_constants}
use Rattle.smt_terms.specs.Equal.{op_eq, term_eq}
use Rattle.smt_terms.specs.Rank.{shape, rank, sort_of, sorts_of, is_minus, IsWellSorted}
use Rattle.smt_terms.specs.Sorts.{Sort, bool}
use Rattle.smt_terms.specs.Term.{Head, op, const_array, Term, apply, Terms, none, ◌⨾◌, list, terms, over}
use Rattle.smt_terms.proofs.Equal.{Decides-op_eq, Decides-term_eq}
use Rattle.smt_terms.proofs.Operands.{more_sorts, narrow_sort, sort_over_more}
use Rattle.smt_terms.proofs.Ranked.{rank-takes}
use Rattle.smt_terms.proofs.Sorted.{applied, sorted, length-sorts_of}
use Rattle.smt_terms.proofs.SortsOfTerms.{sort_is_sort}
use Rattle.smt_terms.proofs.StoredTerms.{Fine, fine_term}
use Rattle.smt_terms.proofs.Tests.{true_or_false}
use Rattle.smt_values.specs.SortIds.{sort_at}
use Rattle.term_table.specs.Formulas.{Formulas, Grows, no_tree, tree, tree_in, trees_at, operands, sort_or_bool, sorts_in, Kind, theory, applied as applied_kind, filled, binder, kind, kind_term, kind_rank, term_over, IsKindOf, Makes, IsTable, IsNode, AreNodes}
use Rattle.term_table.proofs.Made.{makes_ranked}
use Rattle.term_table.proofs.Operators.{kind-one, kind-theory}
use Rattle.term_walk.specs.Walking.{GrowsTo}
use Rattle.array_forms.specs.declared.reading.Write.{Write}
use Rattle.array_forms.specs.Reads.{where_equal, over_store, read}
use Rattle.array_forms.specs.Writes.{EndsAt, over_writes, Suits}

-- ---- how many operands

list-terms : (us : List Term) → list (terms us) ≡ us
list-terms [] = refl
list-terms (u ∷ us) = ap (λ ts. u ∷ ts) (list-terms us)

-- as many as there are sorts in the rank
pub counted : (us : List Term) (ss : List Sort) → sorts_of (terms us) ≡ Some ss → length us ≡ length ss
counted us ss has = ap length (sym (list-terms us)) ∙ sym (length-sorts_of (terms us) ss has)

pub store-count : (us : List Term) (s : Sort) → sort_of (over (op Store) us) ≡ Some s → length us ≡ 3
unfolding shape
store-count us s has =
    let parts = applied (op Store) (terms us) s has in
    counted us parts.sorts parts.operands ∙ ap length (rank-takes (op Store) parts.sorts s parts.rank).2

pub select-count : (us : List Term) (s : Sort) → sort_of (over (op Select) us) ≡ Some s → length us ≡ 2
unfolding shape
select-count us s has =
    let parts = applied (op Select) (terms us) s has in
    counted us parts.sorts parts.operands ∙ ap length (rank-takes (op Select) parts.sorts s parts.rank).1

pub filled-count : (r : Sort) (us : List Term) (s : Sort) → sort_of (over (const_array r) us) ≡ Some s → length us ≡ 1
filled-count r us s has =
    let parts = applied (const_array r) (terms us) s has in
    counted us parts.sorts parts.operands ∙ ap length (rank-takes (const_array r) parts.sorts s parts.rank).3

module _ (t : Formulas) where
  pub kids-count : (us : List Term) (kids : List NodeId) → trees_at t kids ≡ us → length kids ≡ length us
  kids-count us kids are = sym (length-map kids (tree_in t.trees)) ∙ ap length are

  pub one-kid : (us : List Term) (kids : List NodeId) (d : NodeId) → trees_at t kids ≡ us → length us ≡ 1 → us ≡ tree t (get_or kids 0 d) ∷ []
  one-kid us (a ∷ []) d are n = sym are
  one-kid us [] d are n = let m : 0 ≡ length us = ap length are in absurd (omega arith)
  one-kid us (a ∷ b ∷ kids) d are n = let m : suc (suc (length (trees_at t kids))) ≡ length us = ap length are in absurd (omega arith)

  pub two-kids : (us : List Term) (kids : List NodeId) (d : NodeId) → trees_at t kids ≡ us → length us ≡ 2 → us ≡ tree t (get_or kids 0 d) ∷ tree t (get_or kids 1 d) ∷ []
  two-kids us (a ∷ b ∷ []) d are n = sym are
  two-kids us [] d are n = let m : 0 ≡ length us = ap length are in absurd (omega arith)
  two-kids us (a ∷ []) d are n = let m : 1 ≡ length us = ap length are in absurd (omega arith)
  two-kids us (a ∷ b ∷ c ∷ kids) d are n = let m : suc (suc (suc (length (trees_at t kids)))) ≡ length us = ap length are in absurd (omega arith)

  pub three-kids : (us : List Term) (kids : List NodeId) (d : NodeId) → trees_at t kids ≡ us → length us ≡ 3 → us ≡ tree t (get_or kids 0 d) ∷ tree t (get_or kids 1 d) ∷ tree t (get_or kids 2 d) ∷ []
  three-kids us (a ∷ b ∷ c ∷ []) d are n = sym are
  three-kids us [] d are n = let m : 0 ≡ length us = ap length are in absurd (omega arith)
  three-kids us (a ∷ []) d are n = let m : 1 ≡ length us = ap length are in absurd (omega arith)
  three-kids us (a ∷ b ∷ []) d are n = let m : 2 ≡ length us = ap length are in absurd (omega arith)
  three-kids us (a ∷ b ∷ c ∷ e ∷ kids) d are n = let m : suc (suc (suc (suc (length (trees_at t kids))))) ≡ length us = ap length are in absurd (omega arith)

  pub below-nodes : (a : NodeId) (kids : List NodeId) → IsNode t a → All (λ (k : NodeId). k.0 < a.0) kids → AreNodes t kids
  below-nodes a kids node below i d lt = let less = below i d lt in omega arith

-- ---- constants

literal-count : (q : Op) (us : List Term) (s : Sort) → is_some (literal_value q) ≡ true → sort_of (over (op q) us) ≡ Some s → length us ≡ 0
unfolding shape literal_value
literal-count (Truth b) us s h has =
    let parts = applied (op (Truth b)) (terms us) s has in
    counted us parts.sorts parts.operands ∙ ap length (rank-takes (op (Truth b)) parts.sorts s parts.rank).0
literal-count (Whole n) us s h has =
    let parts = applied (op (Whole n)) (terms us) s has in
    counted us parts.sorts parts.operands ∙ ap length (rank-takes (op (Whole n)) parts.sorts s parts.rank).0
literal-count (Bits w n) us s h has =
    let parts = applied (op (Bits w n)) (terms us) s has in
    counted us parts.sorts parts.operands ∙ ap length (rank-takes (op (Bits w n)) parts.sorts s parts.rank).0
literal-count _ us s h has = absurd cc

literal-theory : (p : Op) → is_some (literal_value p) ≡ true → kind p ≡ theory p
unfolding kind literal_value
literal-theory (Truth b) h = refl
literal-theory (Whole n) h = refl
literal-theory (Bits w n) h = refl
literal-theory _ h = absurd cc

no-literal : (q : Op) (ts : Terms) → is_some (literal_value q) ≡ false → is_constant (apply (op q) ts) ≡ false
no-literal q none h = h
no-literal q (t ⨾ ts) h = refl

module _ (t : Formulas) (p : Op) (u : Term) (term : u ≡ term_over t p (operands u)) where
  of-kind : (k : Kind) → kind p ≡ k → u ≡ kind_term t.symbols t.sorts k (operands u)
  of-kind k e = term ∙ ap (λ l. kind_term t.symbols t.sorts l (operands u)) e

  pub a-constant : (s : Sort) → sort_of u ≡ Some s → is_some (literal_value p) ≡ true → is_constant u ≡ true
  a-constant s has h =
      let is : u ≡ over (op p) (operands u) = of-kind (theory p) (literal-theory p h) in
      alone (operands u) is (literal-count p (operands u) s h (sym (ap sort_of is) ∙ has))
    where
      alone : (us : List Term) → u ≡ over (op p) us → length us ≡ 0 → is_constant u ≡ true
      alone [] is n = ap is_constant is ∙ h
      alone (v ∷ us) is n = let m : suc (length us) ≡ 0 = n in absurd (omega arith)

  pub no-constant : is_some (literal_value p) ≡ false → is_constant u ≡ false
  no-constant h = by (kind p) refl
    where
      by : (k : Kind) → kind p ≡ k → is_constant u ≡ false
      by (theory q) e = ap is_constant (of-kind (theory q) e) ∙ no-literal q (terms (operands u)) (ap (λ o. is_some (literal_value o)) (sym (kind-theory p q e)) ∙ h)
      by (applied_kind f) e = ap is_constant (of-kind (applied_kind f) e)
      by (filled s) e = ap is_constant (of-kind (filled s) e)
      by (binder q) e = ap is_constant (of-kind (binder q) e)

pub a-literal : (p : Op) → ((b : Bool) × (p ≡ Truth b)) ⊎ (((n : ℤ) × (p ≡ Whole n)) ⊎ ((w : ℕ) × (n : ℕ) × (p ≡ Bits w n))) → is_some (literal_value p) ≡ true
unfolding literal_value
a-literal p (inl h) = ap (λ o. is_some (literal_value o)) h.1
a-literal p (inr (inl h)) = ap (λ o. is_some (literal_value o)) h.1
a-literal p (inr (inr h)) = ap (λ o. is_some (literal_value o)) h.2

pub other-literal : (p : Op) → ((b : Bool) → p ≡ Truth b → ⊥) → ((n : ℤ) → p ≡ Whole n → ⊥) → ((w n : ℕ) → p ≡ Bits w n → ⊥) → is_some (literal_value p) ≡ false
unfolding literal_value
other-literal (Truth b) no-truth no-whole no-bits = absurd (no-truth b refl)
other-literal (Whole n) no-truth no-whole no-bits = absurd (no-whole n refl)
other-literal (Bits w n) no-truth no-whole no-bits = absurd (no-bits w n refl)
other-literal _ no-truth no-whole no-bits = refl

-- ---- the last write of an array

pub record IsStore (t : Formulas) (a : NodeId) (kids : List NodeId) : Type 0 where
  pub number : length kids ≡ 3
  pub nodes : AreNodes t kids
  pub term : (d : NodeId) → tree t a ≡ stored (tree t (get_or kids 0 d)) (tree t (get_or kids 1 d)) (tree t (get_or kids 2 d))

store-term : (t : Formulas) (us : List Term) → term_over t Store us ≡ over (op Store) us
unfolding kind
store-term t us = refl

pub store-kids : (t : Formulas) (a : NodeId) (kids : List NodeId) → IsTable t → IsNode t a → tree t a ≡ term_over t Store (operands (tree t a)) → trees_at t kids ≡ operands (tree t a) → All (λ (k : NodeId). k.0 < a.0) kids → IsStore t a kids
store-kids t a kids table node term are below =
    let us = operands (tree t a) in
    let f = fine_term (tree t a) (table.sorted a.0 node) in
    let is : tree t a ≡ over (op Store) us = term ∙ store-term t us in
    let n = store-count us f.sort (ap sort_of (sym is) ∙ f.has) in
    record {
      number = kids-count t us kids are ∙ n;
      nodes = below-nodes t a kids node below;
      term = λ d. is ∙ ap (over (op Store)) (three-kids t us kids d are n);
    }

pub record IsFilled (t : Formulas) (a : NodeId) (r : Sort) (kids : List NodeId) : Type 0 where
  pub number : length kids ≡ 1
  pub term : (d : NodeId) → tree t a ≡ apply (const_array r) (tree t (get_or kids 0 d) ⨾ none)

filled-term : (t : Formulas) (s : SortId) (us : List Term) → term_over t (ConstArray s) us ≡ over (const_array (sort_at t.sorts s)) us
unfolding kind
filled-term t s us = refl

pub filled-kids : (t : Formulas) (a : NodeId) (s : SortId) (kids : List NodeId) → IsTable t → IsNode t a → tree t a ≡ term_over t (ConstArray s) (operands (tree t a)) → trees_at t kids ≡ operands (tree t a) → IsFilled t a (sort_at t.sorts s) kids
filled-kids t a s kids table node term are =
    let us = operands (tree t a) in
    let r = sort_at t.sorts s in
    let f = fine_term (tree t a) (table.sorted a.0 node) in
    let is : tree t a ≡ over (const_array r) us = term ∙ filled-term t s us in
    let n = filled-count r us f.sort (ap sort_of (sym is) ∙ f.has) in
    record {
      number = kids-count t us kids are ∙ n;
      term = λ d. is ∙ ap (over (const_array r)) (one-kid t us kids d are n);
    }

pub never-stored : (t : Formulas) (p : Op) (u : Term) → u ≡ term_over t p (operands u) → (p ≡ Store → ⊥) → (b i v : Term) → u ≡ stored b i v → ⊥
never-stored t p u term other b i v is = by (kind p) refl
  where
    by : (k : Kind) → kind p ≡ k → ⊥
    by (theory q) e =
        let same : over (op q) (operands u) ≡ stored b i v = sym (term ∙ ap (λ l. kind_term t.symbols t.sorts l (operands u)) e) ∙ is in
        let head : op q ≡ op Store = cc in
        let one : q ≡ Store = cc in
        other (kind-theory p q e ∙ one)
    by (applied_kind f) e = let same = sym (term ∙ ap (λ l. kind_term t.symbols t.sorts l (operands u)) e) ∙ is in absurd cc
    by (filled s) e = let same = sym (term ∙ ap (λ l. kind_term t.symbols t.sorts l (operands u)) e) ∙ is in absurd cc
    by (binder q) e = let same = sym (term ∙ ap (λ l. kind_term t.symbols t.sorts l (operands u)) e) ∙ is in absurd cc

filled-kind : (s : SortId) → filled s ≡ kind (ConstArray s)
unfolding kind
filled-kind s = refl

pub never-filled : (t : Formulas) (p : Op) (u : Term) → u ≡ term_over t p (operands u) → ((s : SortId) → p ≡ ConstArray s → ⊥) → (r : Sort) (v : Term) → u ≡ apply (const_array r) (v ⨾ none) → ⊥
never-filled t p u term other r v is = by (kind p) refl
  where
    by : (k : Kind) → kind p ≡ k → ⊥
    by (theory q) e = let same = sym (term ∙ ap (λ l. kind_term t.symbols t.sorts l (operands u)) e) ∙ is in absurd cc
    by (applied_kind f) e = let same = sym (term ∙ ap (λ l. kind_term t.symbols t.sorts l (operands u)) e) ∙ is in absurd cc
    by (filled s) e = other s (kind-one p (ConstArray s) (e ∙ filled-kind s))
    by (binder q) e = let same = sym (term ∙ ap (λ l. kind_term t.symbols t.sorts l (operands u)) e) ∙ is in absurd cc

pub ends-at-write : (a j b i v : Term) → a ≡ stored b i v → term_eq i j ≡ true → EndsAt a j
ends-at-write a j b i v is same c k w other =
    let both : stored c k w ≡ stored b i v = sym other ∙ is in
    let index : k ≡ i = cc in
    index ∙ (Decides-term_eq i j).0 same

-- ---- over one write more

pub over-push : (t : Formulas) (j : Term) (ws : List Write) (w : Write) (e : Term) → over_writes t j (ws ++ w ∷ []) e ≡ over_writes t j ws (where_equal (tree t w.index) j (tree t w.value) e)
over-push t j [] w e = refl
over-push t j (v ∷ ws) w e = ap (where_equal (tree t v.index) j (tree t v.value)) (over-push t j ws w e)

pub over-other : (i j v e : Term) → term_eq i j ≡ false → are_different_constants i j ≡ true → over_store i j v e ≡ e
over-other i j v e other apart = ap (λ c. cond c v (cond (are_different_constants i j) e (where_equal i j v e))) other ∙ ap (λ c. cond c e (where_equal i j v e)) apart

pub over-either : (i j v e : Term) → term_eq i j ≡ false → are_different_constants i j ≡ false → over_store i j v e ≡ where_equal i j v e
over-either i j v e other apart = ap (λ c. cond c v (cond (are_different_constants i j) e (where_equal i j v e))) other ∙ ap (λ c. cond c e (where_equal i j v e)) apart

-- ---- what is read

pub read-stored : (b i v j : Term) → read (stored b i v) j ≡ over_store i j v (read b j)
read-stored b i v j = ap (λ c. cond c (over_store i j v (read b j)) (selected (stored b i v) j)) ((Decides-op_eq Store Store).1 refl)

pub read-here : (b i v j : Term) → i ≡ j → read (stored b i v) j ≡ v
read-here b i v j one = read-stored b i v j ∙ ap (λ c. cond c v (cond (are_different_constants i j) (read b j) (where_equal i j v (read b j)))) ((Decides-term_eq i j).1 one)

pub read-other : (a j : Term) → ((b i v : Term) → a ≡ stored b i v → ⊥) → ((r : Sort) (v : Term) → a ≡ apply (const_array r) (v ⨾ none) → ⊥) → read a j ≡ selected a j
read-other (apply (const_array r) (v ⨾ none)) j plain bare = absurd (bare r v refl)
read-other (apply (op o) (b ⨾ i ⨾ v ⨾ none)) j plain bare = elim (true_or_false (op_eq o Store)) [
  | inl store ↦ absurd (plain b i v (ap (λ p. apply (op p) (b ⨾ i ⨾ v ⨾ none)) ((Decides-op_eq o Store).0 store)))
  | inr other ↦ ap (λ c. cond c (over_store i j v (read b j)) (selected (apply (op o) (b ⨾ i ⨾ v ⨾ none)) j)) other
]
read-other a j plain bare = refl

-- ---- what makes the nodes

sorts-in : (us : List Term) (ss : List Sort) → sorts_of (terms us) ≡ Some ss → sorts_in us ≡ ss
sorts-in [] ss e = cc
sorts-in (u ∷ us) ss e =
    let parts = sorted u (terms us) ss e in
    let rest = sorts-in us parts.sorts parts.others in
    (λ i. sort_or_bool (parts.first i) ∷ rest i) ∙ sym parts.all

pub ranks : (h : Head) (us : List Term) (s : Sort) → sort_of (over h us) ≡ Some s → rank h (sorts_in us) ≡ Ok s
ranks h us s has =
    let parts = applied h (terms us) s has in
    ap (rank h) (sorts-in us parts.sorts parts.operands) ∙ parts.rank

makes : (t : Formulas) (p : Op) (ks : List NodeId) (s : Sort) → AreNodes t ks → kind p ≡ theory p → is_minus p ≡ false → sort_of (over (op p) (trees_at t ks)) ≡ Some s → Makes t p ks
makes t p ks s nodes is plain has =
    makes_ranked t p ks s nodes (subst (λ k. IsKindOf t.symbols t.sorts k) (sym is) tt) plain
    (sym (ap (λ k. kind_rank t.symbols t.sorts k (trees_at t ks)) is ∙ ranks (op p) (trees_at t ks) s has))

pub three-nodes : (t : Formulas) (a b c : NodeId) → IsNode t a → IsNode t b → IsNode t c → AreNodes t (a ∷ b ∷ c ∷ [])
three-nodes t a b c first second third = search rules

both-nodes : (t : Formulas) (a b : NodeId) → IsNode t a → IsNode t b → AreNodes t (a ∷ b ∷ [])
both-nodes t a b here there = search rules

module _ (t : Formulas) (a j : NodeId) (here : IsNode t a) (there : IsNode t j) where
  pub makes-select : IsWellSorted (selected (tree t a) (tree t j)) → Makes t Select (a ∷ j ∷ [])
  unfolding kind is_minus
  makes-select fine = let f = fine_term (selected (tree t a) (tree t j)) fine in makes t Select (a ∷ j ∷ []) f.sort (both-nodes t a j here there) refl refl f.has

  pub equal-sort : (s : Sort) → sort_of (tree t a) ≡ Some s → sort_of (tree t a) ≡ sort_of (tree t j) → sort_of (equal (tree t a) (tree t j)) ≡ Some bool
  unfolding shape
  equal-sort s has same =
      sort_over_more Equal (tree t a) (tree t j) none (s ∷ s ∷ []) bool
      (more_sorts (tree t a) (tree t j ⨾ none) s (s ∷ []) has (more_sorts (tree t j) none s [] (sym same ∙ has) refl)) (s, refl, refl) (narrow_sort bool refl)

  pub makes-equal : (s : Sort) → sort_of (tree t a) ≡ Some s → sort_of (tree t a) ≡ sort_of (tree t j) → Makes t Equal (a ∷ j ∷ [])
  unfolding kind is_minus
  makes-equal s has same = makes t Equal (a ∷ j ∷ []) bool (both-nodes t a j here there) refl refl (equal-sort s has same)

module _ (t : Formulas) (j e : NodeId) (w : Write) (table : IsTable t) (asked : IsNode t j) (below : IsNode t e) (suits : Suits t (tree t j) (sort_of (tree t e)) w) where
  element : Fine (tree t e)
  element = fine_term (tree t e) (table.sorted e.0 below)

  key : Fine (tree t w.index)
  key = fine_term (tree t w.index) (table.sorted w.index.0 suits.index)

  pub makes-key : Makes t Equal (w.index ∷ j ∷ [])
  makes-key = makes-equal t w.index j suits.index asked key.sort key.has suits.index_sort

  pub chosen-sort : sort_of (where_equal (tree t w.index) (tree t j) (tree t w.value) (tree t e)) ≡ sort_of (tree t e)
  unfolding shape
  chosen-sort =
      let s = element.sort in
      let same = equal-sort t w.index j suits.index asked key.sort key.has suits.index_sort in
      sort_over_more Ite (equal (tree t w.index) (tree t j)) (tree t w.value) (tree t e ⨾ none) (bool ∷ s ∷ s ∷ []) s
      (more_sorts (equal (tree t w.index) (tree t j)) (tree t w.value ⨾ tree t e ⨾ none) bool (s ∷ s ∷ []) same
      (more_sorts (tree t w.value) (tree t e ⨾ none) s (s ∷ []) (suits.value_sort ∙ element.has) (more_sorts (tree t e) none s [] element.has refl)))
      (s, refl, refl) (narrow_sort s (sort_is_sort (tree t e) s element.rules element.has))
      ∙ sym element.has

pub makes-choice : (t : Formulas) (c v e : NodeId) (u : Term) (r : Sort) → AreNodes t (c ∷ v ∷ e ∷ []) → over (op Ite) (trees_at t (c ∷ v ∷ e ∷ [])) ≡ u → sort_of u ≡ Some r → Makes t Ite (c ∷ v ∷ e ∷ [])
unfolding kind is_minus
makes-choice t c v e u r nodes is has = makes t Ite (c ∷ v ∷ e ∷ []) r nodes refl refl (ap sort_of is ∙ has)

-- ---- as the table gains

pub suits-still : (old new : Formulas) (j : NodeId) (s : Option Sort) (w : Write) → GrowsTo old new → IsNode old j → Suits old (tree old j) s w → Suits new (tree new j) s w
suits-still old new j s w grows asked suits =
    let longer = grows.trees.longer in
    let index = suits.index in
    let value = suits.value in
    record {
      index = omega arith;
      value = omega arith;
      index_sort = ap sort_of (grows.trees.same w.index.0 no_tree suits.index) ∙ suits.index_sort ∙ ap sort_of (sym (grows.trees.same j.0 no_tree asked));
      value_sort = ap sort_of (grows.trees.same w.value.0 no_tree suits.value) ∙ suits.value_sort;
    }

pub choice-still : (old new : Formulas) (j : NodeId) (s : Option Sort) (w : Write) (e : Term) → GrowsTo old new → IsNode old j → Suits old (tree old j) s w → where_equal (tree new w.index) (tree new j) (tree new w.value) e ≡ where_equal (tree old w.index) (tree old j) (tree old w.value) e
choice-still old new j s w e grows asked suits =
    let i = grows.trees.same w.index.0 no_tree suits.index in
    let v = grows.trees.same w.value.0 no_tree suits.value in
    let k = grows.trees.same j.0 no_tree asked in
    λ x. where_equal (i x) (k x) (v x) e

pub made-choice : (old new : Formulas) (c v e : NodeId) (u : Term) → GrowsTo old new → tree new c ≡ u → IsNode old v → IsNode old e → over (op Ite) (trees_at new (c ∷ v ∷ e ∷ [])) ≡ apply (op Ite) (u ⨾ tree old v ⨾ tree old e ⨾ none)
made-choice old new c v e u grows is here there =
    let value = grows.trees.same v.0 no_tree here in
    let other = grows.trees.same e.0 no_tree there in
    λ x. apply (op Ite) (is x ⨾ value x ⨾ other x ⨾ none)

list-grows : {X : Type 0} (a b c : List X) → Grows a b → Grows b c → Grows a c
list-grows a b c first second =
    let one = first.longer in
    let two = second.longer in
    record { longer = omega arith; same = λ i d lt. second.same i d (omega arith) ∙ first.same i d lt }

pub grows-through : (a b c : Formulas) → GrowsTo a b → GrowsTo b c → GrowsTo a c
grows-through a b c first second = record {
  trees = list-grows a.trees b.trees c.trees first.trees second.trees;
  symbols = list-grows a.symbols b.symbols c.symbols first.symbols second.symbols;
  sorts = list-grows a.sorts b.sorts c.sorts first.sorts second.sorts;
}

pub over-still : (old new : Formulas) (j : NodeId) (s : Option Sort) (ws : List Write) (e : Term) → GrowsTo old new → IsNode old j → All (Suits old (tree old j) s) ws → over_writes new (tree new j) ws e ≡ over_writes old (tree old j) ws e
over-still old new j s [] e grows asked suit = refl
over-still old new j s (w ∷ ws) e grows asked suit =
    choice-still old new j s w (over_writes new (tree new j) ws e) grows asked (All-head (Suits old (tree old j) s) w ws suit)
    ∙ ap (where_equal (tree old w.index) (tree old j) (tree old w.value)) (over-still old new j s ws e grows asked (All-tail (Suits old (tree old j) s) w ws suit))
