-- The rank of a shape from the tests of its operands.
use Rattle.std.proofs.Common.{◌≡◌, ℕ, zero, suc, ◌+◌, ◌*◌, ◌/◌, ◌^◌, ◌↔◌, ◌<◌, ◌≤◌, true, cond, ◌==◌, nat_le, inl, inr, List, [], ◌∷◌, map, length, drop, get_or, replicate, Option, Some, None, Ok, Err, refl, ap, sym, ◌∙◌, arith}
use Rattle.std.specs.Bool.{IsTrue}
use Rattle.std.proofs.Math.Nat.{lt-div-mul-add, div-eq_of_lt}
use Rattle.std.proofs.Math.Seq.{drop-cons}
use Rattle.std.proofs.lemmas.Nat.{pow_pos}
use Rattle.std.proofs.lemmas.List.{get_or-map, length-map}
use Rattle.std.proofs.lemmas.Bool.Decides.{Decides-eqb, nat_tests}
use Rattle.smt_terms.specs.declared.ids.NodeId.{NodeId}
use Rattle.smt_terms.specs.declared.ids.SortId.{SortId}
use Rattle.smt_terms.specs.Sorts.{Sort, bool, bit_vector}
use Rattle.smt_terms.specs.Equal.{sort_eq}
use Rattle.smt_terms.specs.Rank.{Fault, wrong_arity, wrong_sort, width_limit, fixed, distinctness, Place, only, any_sort, misfit, before, first_misfit, accepted, most_bits, width, sort_of, is_sort}
use Rattle.smt_terms.proofs.Tests.{true_or_false, both_true}
use Rattle.smt_terms.proofs.Equal.{Decides-sort_eq}
use Rattle.smt_values.specs.SortIds.{sort_at, IsSortId, IsSortList}
use Rattle.smt_values.proofs.SortIds.{sort_one, sort_is}
use Rattle.term_table.specs.Formulas.{Formulas, no_tree, tree_in, trees_at, sort_or_bool}
use Rattle.term_table.specs.ShapeRank.{shape_rank, kid_sorts}

-- ---- one operand

pub misfit-same : (k : ℕ) (s t : Sort) → s ≡ t → misfit k (only t) s ≡ None
misfit-same k s t e = let same : sort_eq s t ≡ true = (Decides-sort_eq s t).1 e in cc

pub misfit-other : (k : ℕ) (s t : Sort) → (s ≡ t → ⊥) → misfit k (only t) s ≡ Some (wrong_sort k s t)
misfit-other k s t other =
    elim (true_or_false (sort_eq s t)) [
      | inl e ↦ absurd (other ((Decides-sort_eq s t).0 e))
      | inr e ↦ cc
    ]

pub unlike-same : (ss : List Sort) (k : ℕ) (have want : SortId) → have.0 ≡ want.0 → None ≡ misfit k (only (sort_at ss want)) (sort_at ss have)
unlike-same ss k have want e = sym (misfit-same k (sort_at ss have) (sort_at ss want) (λ i. sort_at ss (record { 0 = e i })))

pub unlike-other : (ss : List Sort) → IsSortList ss → (k : ℕ) (have want : SortId) → IsSortId ss have → IsSortId ss want → (have.0 ≡ want.0 → ⊥) → Some (wrong_sort k (sort_at ss have) (sort_at ss want)) ≡ misfit k (only (sort_at ss want)) (sort_at ss have)
unlike-other ss table k have want a b other =
    sym (misfit-other k (sort_at ss have) (sort_at ss want) (λ e. other (sort_one ss table have.0 want.0 a b e)))

-- ---- one operand after the other

module _ (ps : List Place) (us : List Sort) (k : ℕ) (lp : k < length ps) (lu : k < length us) where
  at_place : first_misfit k (drop k ps) (drop k us) ≡ before (misfit k (get_or ps k any_sort) (get_or us k bool)) (first_misfit (suc k) (drop (suc k) ps) (drop (suc k) us))
  at_place = (λ i. first_misfit k (drop-cons ps k any_sort lp i) (drop-cons us k bool lu i))

  pub misfit_step : (j : ℕ) → j ≡ k + 1 → misfit k (get_or ps k any_sort) (get_or us k bool) ≡ None → first_misfit k (drop k ps) (drop k us) ≡ first_misfit j (drop j ps) (drop j us)
  misfit_step j e none =
      let next : suc k ≡ j = omega arith in
      at_place ∙ ap (λ m. before m (first_misfit (suc k) (drop (suc k) ps) (drop (suc k) us))) none ∙ ap (λ n. first_misfit n (drop n ps) (drop n us)) next

  pub misfit_here : (f : Fault) → misfit k (get_or ps k any_sort) (get_or us k bool) ≡ Some f → first_misfit k (drop k ps) (drop k us) ≡ Some f
  misfit_here f some = at_place ∙ ap (λ m. before m (first_misfit (suc k) (drop (suc k) ps) (drop (suc k) us))) some

pub length-kid_sorts : (t : Formulas) (ks : List NodeId) → length (kid_sorts t ks) ≡ length ks
length-kid_sorts t ks = length-map (trees_at t ks) (λ u. sort_or_bool (sort_of u)) ∙ length-map ks (tree_in t.trees)

pub kid_sorts-at : (t : Formulas) (ks : List NodeId) (k : ℕ) (d : NodeId) (s : Sort) → k < length ks → sort_of (tree_in t.trees (get_or ks k d)) ≡ Some s → get_or (kid_sorts t ks) k bool ≡ s
kid_sorts-at t ks k d s lt e =
    let count : length (trees_at t ks) ≡ length ks = length-map ks (tree_in t.trees) in
    let inner : get_or (trees_at t ks) k no_tree ≡ tree_in t.trees (get_or ks k d) = get_or-map (tree_in t.trees) ks k d no_tree lt in
    let within : k < length (trees_at t ks) = omega arith in
    get_or-map (λ u. sort_or_bool (sort_of u)) (trees_at t ks) k no_tree bool within ∙ ap (λ u. sort_or_bool (sort_of u)) inner ∙ ap sort_or_bool e

-- ---- shapes whose operands are alike

alike_places : (s : Sort) (us : List Sort) (n : ℕ) → length us ≡ n → map only (replicate n s) ≡ map (λ _. only s) us
alike_places s [] zero e = refl
alike_places s [] (suc n) e = absurd (omega arith)
alike_places s (u ∷ us) zero e = absurd (omega arith)
alike_places s (u ∷ us) (suc n) e = ap (λ ps. only s ∷ ps) (alike_places s us n (omega arith))

length_alike : (s : Sort) (n : ℕ) → length (replicate n s) ≡ n
length_alike s zero = refl
length_alike s (suc n) = ap suc (length_alike s n)

pub uniform-rank : (s to : Sort) (us : List Sort) (n : ℕ) (m : Option Fault) → length us ≡ n → first_misfit 0 (map (λ _. only s) us) us ≡ m → shape_rank (fixed (replicate n s) to) us ≡ accepted m true to
uniform-rank s to us n m e h =
    let number : (length us == length (replicate n s)) ≡ true = (Decides-eqb (length us) (length (replicate n s))).1 (e ∙ sym (length_alike s n)) in
    (λ i. cond (number i) (accepted (first_misfit 0 (alike_places s us n e i) us) true to) (Err wrong_arity)) ∙ ap (λ x. accepted x true to) h

pub distinct-rank : (us : List Sort) (s : Sort) (m : Option Fault) → 2 ≤ length us → get_or us 0 bool ≡ s → first_misfit 0 (map (λ _. only s) us) us ≡ m → shape_rank distinctness us ≡ accepted m true bool
distinct-rank [] s m le e h = absurd (omega arith)
distinct-rank (u ∷ us) s m le e h =
    let number : nat_le 2 (length (u ∷ us)) ≡ true = grind (arith, nat_tests) in
    let first : misfit 0 (only s) u ≡ None = misfit-same 0 u s e in
    let rest : first_misfit 1 (map (λ _. only u) us) us ≡ m =
    ap (λ t. first_misfit 1 (map (λ _. only t) us) us) e ∙ sym (ap (λ x. before x (first_misfit 1 (map (λ _. only s) us) us)) first) ∙ h in
    (λ i. cond (number i) (accepted (first_misfit 1 (map (λ _. only u) us) us) true bool) (Err wrong_arity)) ∙ ap (λ x. accepted x true bool) rest

pub basic-narrow : (ss : List Sort) (to : SortId) → to.0 < 3 → nat_le (width (sort_at ss to)) most_bits ≡ true
basic-narrow ss to lt = by to.0 lt
  where
    by : (n : ℕ) → n < 3 → nat_le (width (sort_at ss (record { 0 = n }))) most_bits ≡ true
    by zero h = refl
    by (suc zero) h = refl
    by (suc (suc zero)) h = refl
    by (suc (suc (suc n))) h = absurd (omega arith)

pub sort-narrow : (ss : List Sort) → IsSortList ss → (k : SortId) → IsSortId ss k → nat_le (width (sort_at ss k)) most_bits ≡ true
sort-narrow ss table k within = by (sort_at ss k) (sort_is ss table k.0 within)
  where
    by : (s : Sort) → is_sort s ≡ true → nat_le (width s) most_bits ≡ true
    by (bit_vector w) h = (both_true (nat_le 1 w) (nat_le w most_bits) h).1
    by _ h = refl

pub fixed-rank : (from us : List Sort) (to : Sort) (m : Option Fault) → length us ≡ length from → first_misfit 0 (map only from) us ≡ m → shape_rank (fixed from to) us ≡ accepted m true to
fixed-rank from us to m e h =
    let number : (length us == length from) ≡ true = (Decides-eqb (length us) (length from)).1 e in
    (λ i. cond (number i) (accepted (first_misfit 0 (map only from) us) true to) (Err wrong_arity)) ∙ ap (λ x. accepted x true to) h

pub accepted-narrow : (s : Sort) → nat_le (width s) most_bits ≡ true → accepted None true s ≡ Ok s
accepted-narrow s h = ap (λ b. cond b (Ok s) (Err width_limit)) h

-- ---- a step over the operands of a node

step_at : (t : Formulas) (ks : List NodeId) (ps : List Place) (k : ℕ) (d : NodeId) (s w : Sort) (m : Option Fault) → k < length ks → get_or ps k any_sort ≡ only w
    → sort_of (tree_in t.trees (get_or ks k d)) ≡ Some s → m ≡ misfit k (only w) s → misfit k (get_or ps k any_sort) (get_or (kid_sorts t ks) k bool) ≡ m
step_at t ks ps k d s w m lt place sort fault =
    let here : get_or (kid_sorts t ks) k bool ≡ s = kid_sorts-at t ks k d s lt sort in
    (λ i. misfit k (place i) (here i)) ∙ sym fault

module _ (t : Formulas) (ks : List NodeId) (ps : List Place) (k : ℕ) (d : NodeId) (s w : Sort) (lt : k < length ks) (number : length ps ≡ length ks)
    (place : get_or ps k any_sort ≡ only w) (sort : sort_of (tree_in t.trees (get_or ks k d)) ≡ Some s)
    (before_k : first_misfit 0 ps (kid_sorts t ks) ≡ first_misfit k (drop k ps) (drop k (kid_sorts t ks))) where
  within_places : k < length ps
  within_places = omega arith

  within_sorts : k < length (kid_sorts t ks)
  within_sorts = let count = length-kid_sorts t ks in omega (arith, count)

  pub misfit_next : None ≡ misfit k (only w) s → first_misfit 0 ps (kid_sorts t ks) ≡ first_misfit (k + 1) (drop (k + 1) ps) (drop (k + 1) (kid_sorts t ks))
  misfit_next none = before_k ∙ misfit_step ps (kid_sorts t ks) k within_places within_sorts (k + 1) refl (step_at t ks ps k d s w None lt place sort none)

  pub misfit_found : (f : Fault) → Some f ≡ misfit k (only w) s → Some f ≡ first_misfit 0 ps (kid_sorts t ks)
  misfit_found f some = sym (before_k ∙ misfit_here ps (kid_sorts t ks) k within_places within_sorts f (step_at t ks ps k d s w (Some f) lt place sort some))

pub alike_place : (w : Sort) (us : List Sort) (k : ℕ) → k < length us → get_or (map (λ _. only w) us) k any_sort ≡ only w
alike_place w us k lt = get_or-map (λ _. only w) us k bool any_sort lt

pub each_place : (ss : List Sort) (ws : List SortId) (k : ℕ) (d : SortId) → k < length ws → get_or (map only (map (sort_at ss) ws)) k any_sort ≡ only (sort_at ss (get_or ws k d))
each_place ss ws k d lt =
    let count : length (map (sort_at ss) ws) ≡ length ws = length-map ws (sort_at ss) in
    let within : k < length (map (sort_at ss) ws) = omega arith in
    get_or-map only (map (sort_at ss) ws) k bool any_sort within ∙ ap only (get_or-map (sort_at ss) ws k d bool lt)

-- ---- bits below a power

pub below_power : (bits w : ℕ) → IsTrue (bits / 2 ^ w == 0) ↔ (bits < 2 ^ w)
below_power bits w =
    let positive : 0 < 2 ^ w = pow_pos w in (
      (λ h. let none : bits / 2 ^ w ≡ 0 = (Decides-eqb (bits / 2 ^ w) 0).0 h in
          let above : bits < bits / 2 ^ w * 2 ^ w + 2 ^ w = lt-div-mul-add positive in
          let same : bits / 2 ^ w * 2 ^ w ≡ 0 * 2 ^ w = ap (λ n. n * 2 ^ w) none in
          omega (arith, above, same)),
      (λ h. (Decides-eqb (bits / 2 ^ w) 0).1 (div-eq_of_lt h)),
    )
