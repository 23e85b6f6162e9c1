-- Sorts and values of terms with one, two and three operands.
use Rattle.std.proofs.Common.{◌≡◌, ◌≤◌, true, not, List, [], ◌∷◌, Option, Some, refl, ap, sym, ◌∙◌, arith}
use Rattle.std.specs.Prelude.{unwrap_or, is_some, nat_le}
use Rattle.std.proofs.lemmas.Bool.{leb-true}
use Rattle.smt_terms.specs.declared.op.Op.{Op}
use Rattle.smt_terms.specs.declared.op.Op.TheVariants.{Equal, Ite, Select, Store}
use Rattle.smt_terms.specs.Sorts.{Sort, bool, int, bit_vector, array, free_sort}
use Rattle.smt_terms.specs.Term.{op, Term, apply, Terms, none, ◌⨾◌}
use Rattle.smt_terms.specs.Rank.{shape, width, most_bits, with_sort, sort_of, sorts_of, is_sort, is_regular, are_regular, IsWellSorted}
use Rattle.smt_terms.specs.ArrayTerms.{selected, stored}
use Rattle.smt_terms.specs.Connectives.{equal}
use Rattle.smt_terms.specs.Takes.{Takes}
use Rattle.smt_terms.specs.Values.{truth, same, select, store}
use Rattle.smt_terms.specs.Operators.{op_value}
use Rattle.smt_terms.specs.Models.{Model, background}
use Rattle.smt_terms.specs.Val.{Env, val, vals}
use Rattle.smt_terms.proofs.Tests.{both_true, and_true}
use Rattle.smt_terms.proofs.Ranked.{rank-takes, takes-rank}
use Rattle.smt_terms.proofs.Sorted.{applied, sorted, sort_of-apply}
use Rattle.smt_terms.proofs.SortsOfTerms.{regular_over}
use Rattle.smt_terms.proofs.Keeping.{two_or_more}

-- ---- sorts of operands, one by one

pub more_sorts : (t : Term) (ts : Terms) (s : Sort) (ss : List Sort) → sort_of t ≡ Some s → sorts_of ts ≡ Some ss → sorts_of (t ⨾ ts) ≡ Some (s ∷ ss)
more_sorts t ts s ss p q = λ i. with_sort (p i) (q i)

pub fewer_sorts : (t : Term) (ts : Terms) (s : Sort) (ss : List Sort) → sorts_of (t ⨾ ts) ≡ Some (s ∷ ss) → (sort_of t ≡ Some s) × (sorts_of ts ≡ Some ss)
fewer_sorts t ts s ss has =
    let parts = sorted t ts (s ∷ ss) has in
    let all : s ∷ ss ≡ parts.sort ∷ parts.sorts = parts.all in
    let here : s ≡ parts.sort = cc in
    let behind : ss ≡ parts.sorts = cc in
    (parts.first ∙ ap (λ r. Some r) (sym here), parts.others ∙ ap (λ rs. Some rs) (sym behind))

pub narrow_sort : (s : Sort) → is_sort s ≡ true → width s ≤ most_bits
narrow_sort bool fine = omega arith
narrow_sort int fine = omega arith
narrow_sort (free_sort n) fine = omega arith
narrow_sort (array i e) fine = omega arith
narrow_sort (bit_vector w) fine = leb-true w most_bits (both_true (nat_le 1 w) (nat_le w most_bits) fine).1

-- ---- a theory operator over two operands or more

pub sort_over_more : (o : Op) (t u : Term) (us : Terms) (ss : List Sort) (s : Sort) → sorts_of (t ⨾ (u ⨾ us)) ≡ Some ss → Takes (shape o) ss s → width s ≤ most_bits → sort_of (apply (op o) (t ⨾ (u ⨾ us))) ≡ Some s
sort_over_more o t u us ss s has takes narrow = sort_of-apply (op o) (t ⨾ (u ⨾ us)) ss s has (takes-rank (op o) ss s takes narrow)

pub regular_over_more : (o : Op) (t u : Term) (us : Terms) → are_regular (t ⨾ (u ⨾ us)) ≡ true → is_regular (apply (op o) (t ⨾ (u ⨾ us))) ≡ true
regular_over_more o t u us fine = regular_over (op o) (t ⨾ (u ⨾ us)) (record { head = refl; no_minus = ap not (two_or_more o t u us); operands = fine })

pub well_sorted : (t : Term) (s : Sort) → sort_of t ≡ Some s → is_regular t ≡ true → IsWellSorted t
well_sorted t s has fine = and_true (is_some (sort_of t)) (is_regular t) (ap is_some has) fine

-- ---- values of some terms

abbrev pub chosen : Term → Term → Term → Term
chosen c v w = apply (op Ite) (c ⨾ v ⨾ w ⨾ none)

pub select_value : (m : Model) (e : Env) (a j : Term) (i s : Sort) → sort_of a ≡ Some (array i s) → sort_of j ≡ Some i → val m (selected a j) e ≡ select i m.sizes (val m a e) (val m j e)
unfolding op_value
select_value m e a j i s p q = ap (λ (o : Option (List Sort)). op_value (background m) Select (unwrap_or o []) (vals m (a ⨾ j ⨾ none) e)) (more_sorts a (j ⨾ none) (array i s) (i ∷ []) p (more_sorts j none i [] q refl))

pub store_value : (m : Model) (e : Env) (a k v : Term) (i s : Sort) → sort_of a ≡ Some (array i s) → sort_of k ≡ Some i → sort_of v ≡ Some s → val m (stored a k v) e ≡ store i m.sizes (val m a e) (val m k e) (val m v e)
unfolding op_value
store_value m e a k v i s p q r = ap (λ (o : Option (List Sort)). op_value (background m) Store (unwrap_or o []) (vals m (a ⨾ k ⨾ v ⨾ none) e)) (more_sorts a (k ⨾ v ⨾ none) (array i s) (i ∷ s ∷ []) p (more_sorts k (v ⨾ none) i (s ∷ []) q (more_sorts v none s [] r refl)))

pub equal_value : (m : Model) (e : Env) (i j : Term) (s : Sort) → sort_of i ≡ Some s → sort_of j ≡ Some s → val m (equal i j) e ≡ truth (same s m.sizes (val m i e) (val m j e))
unfolding op_value
equal_value m e i j s p q = ap (λ (o : Option (List Sort)). op_value (background m) Equal (unwrap_or o []) (vals m (i ⨾ j ⨾ none) e)) (more_sorts i (j ⨾ none) s (s ∷ []) p (more_sorts j none s [] q refl))

-- ---- the operands of a `select` and a `store`

pub record IsSelect (a j : Term) (s : Sort) : Type 0 where
  pub index : Sort
  pub array_sort : sort_of a ≡ Some (array index s)
  pub index_sort : sort_of j ≡ Some index

pub record IsStore (a k v : Term) (i s : Sort) : Type 0 where
  pub array_sort : sort_of a ≡ Some (array i s)
  pub index_sort : sort_of k ≡ Some i
  pub element_sort : sort_of v ≡ Some s

pub is_select : (a j : Term) (s : Sort) → sort_of (selected a j) ≡ Some s → IsSelect a j s
unfolding shape
is_select a j s has =
    let parts = applied (op Select) (a ⨾ j ⨾ none) s has in
    let taken = rank-takes (op Select) parts.sorts s parts.rank in
    let operands : sorts_of (a ⨾ j ⨾ none) ≡ Some (array taken.0 s ∷ taken.0 ∷ []) = parts.operands ∙ ap (λ rs. Some rs) taken.1 in
    let first = fewer_sorts a (j ⨾ none) (array taken.0 s) (taken.0 ∷ []) operands in
    record { index = taken.0; array_sort = first.0; index_sort = (fewer_sorts j none taken.0 [] first.1).0 }

pub is_store : (a k v : Term) (i s : Sort) → sort_of (stored a k v) ≡ Some (array i s) → IsStore a k v i s
unfolding shape
is_store a k v i s has =
    let parts = applied (op Store) (a ⨾ k ⨾ v ⨾ none) (array i s) has in
    let taken = rank-takes (op Store) parts.sorts (array i s) parts.rank in
    let result : array i s ≡ array taken.0 taken.1 = taken.3 in
    let index : taken.0 ≡ i = cc in
    let element : taken.1 ≡ s = cc in
    let operands : sorts_of (a ⨾ k ⨾ v ⨾ none) ≡ Some (array i s ∷ i ∷ s ∷ []) =
    parts.operands ∙ ap (λ rs. Some rs) taken.2 ∙ (λ x. Some (array (index x) (element x) ∷ index x ∷ element x ∷ [])) in
    let first = fewer_sorts a (k ⨾ v ⨾ none) (array i s) (i ∷ s ∷ []) operands in
    let second = fewer_sorts k (v ⨾ none) i (s ∷ []) first.1 in
    record { array_sort = first.0; index_sort = second.0; element_sort = (fewer_sorts v none s [] second.1).0 }
