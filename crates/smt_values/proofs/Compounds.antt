-- What a sort table gains when a sort is asked for.
use Rattle.std.proofs.Common.{◌≡◌, ℕ, ◌+◌, ◌-◌, ◌<◌, ◌≤◌, nat_lt, Bool, true, false, not, ◌&&◌, if◌then◌else◌, ◌⊎◌, inl, inr, List, [], ◌∷◌, ◌++◌, length, get_or, slice_get, Option, Some, None, refl, ap, sym, ◌∙◌, subst, arith, true≢false, length-append, IfSome, Bor}
use Rattle.std.specs.Option.{option_copied}
use Rattle.std.specs.List.{list_any}
use Rattle.std.proofs.lemmas.Option.{slice_get_within, slice_get-get_or, get_or_from_slice_get, slice_get_cases}
use Rattle.std.proofs.Math.Seq.{get_or-append_seam}
use Rattle.std.proofs.lemmas.List.{get_or_append_left}
use Rattle.std.proofs.lemmas.Bool.{ltb-true, ltb-false}
use Rattle.std.proofs.lemmas.List.Folds.{list_any-from_Any}
use Rattle.indexmap.specs.IndexSet.{insert_key}
use Rattle.smt_terms.specs.Sorts.{Sort, bool, array}
use Rattle.smt_terms.specs.Rank.{is_array, is_sort}
use Rattle.smt_terms.proofs.Tests.{and_true}
use Rattle.smt_values.specs.declared.sort_table.Compound.{Compound}
use Rattle.smt_values.specs.declared.sort_table.Compound.TheVariants.{Array, Declared}
use Rattle.smt_values.specs.SortIds.{sort_at, IsSortList, AddsSort, is_composed}
use Rattle.smt_values.specs.Compounds.{compound_sort, sorts_after, sorts_of, Fits, IsBelow, AreSorts}
use Rattle.smt_values.proofs.Derived.{compound_eq, compound_eq-sort, compound_eq-from_sort}
use Rattle.smt_values.proofs.SortIds.{sort_stays, sort_one, sort_is}

sorts_after-push : (made : List Sort) (cs : List Compound) (c : Compound) → sorts_after made (cs ++ c ∷ []) ≡ sorts_after made cs ++ compound_sort (sorts_after made cs) c ∷ []
sorts_after-push made [] c = refl
sorts_after-push made (d ∷ cs) c = sorts_after-push (made ++ compound_sort made d ∷ []) cs c

-- ---- what stays

compound_stays : (ss ts : List Sort) (c : Compound) → IsBelow (130 + length ss) c → compound_sort (ss ++ ts) c ≡ compound_sort ss c
compound_stays ss ts (Array i e) below = λ k. array (sort_stays ss ts i.0 below.0 k) (sort_stays ss ts e.0 below.1 k)
compound_stays ss ts (Declared n) below = refl

IsBelow-more : (m n : ℕ) (c : Compound) → m ≤ n → IsBelow m c → IsBelow n c
IsBelow-more m n (Array i e) le below = (omega arith, omega arith)
IsBelow-more m n (Declared x) le below = tt

Fits-below : (ss : List Sort) (c : Compound) → Fits ss c → IsBelow (130 + length ss) c
Fits-below ss (Array i e) fits = (fits.0, fits.1)
Fits-below ss (Declared n) fits = tt

Fits-composed : (ss : List Sort) (c : Compound) → Fits ss c → is_composed (compound_sort ss c) ≡ true
Fits-composed ss (Array i e) fits = refl
Fits-composed ss (Declared n) fits = fits

Fits-sort : (ss : List Sort) → IsSortList ss → (c : Compound) → Fits ss c → is_sort (compound_sort ss c) ≡ true
Fits-sort ss table (Array i e) fits =
    and_true (not (is_array (sort_at ss i))) (is_sort (sort_at ss i) && is_sort (sort_at ss e)) (ap not fits.2)
    (and_true (is_sort (sort_at ss i)) (is_sort (sort_at ss e)) (sort_is ss table i.0 fits.0) (sort_is ss table e.0 fits.1))
Fits-sort ss table (Declared n) fits = refl

-- ---- a row behind the others

-- an element of a list with one more behind is one of the list, or that one
pushed : {X : Type 0} (xs : List X) (y x : X) (k : ℕ) → slice_get (xs ++ y ∷ []) k ≡ Some x → ((k < length xs) × (slice_get xs k ≡ Some x)) ⊎ ((k ≡ length xs) × (x ≡ y))
pushed xs y x k at = by (nat_lt k (length xs)) refl
  where
    read : get_or (xs ++ y ∷ []) k x ≡ x
    read = get_or_from_slice_get (xs ++ y ∷ []) k x x at

    by : (b : Bool) → nat_lt k (length xs) ≡ b → ((k < length xs) × (slice_get xs k ≡ Some x)) ⊎ ((k ≡ length xs) × (x ≡ y))
    by true e =
        let lt : k < length xs = ltb-true k (length xs) e in
        inl (lt, slice_get-get_or xs k x lt ∙ ap Some (sym (get_or_append_left xs (y ∷ []) x k lt) ∙ read))
    by false e =
        let le : length xs ≤ k = ltb-false k (length xs) e in
        let within : k < length (xs ++ y ∷ []) = slice_get_within (xs ++ y ∷ []) k x at in
        let same : k ≡ length xs = omega (arith, length-append xs (y ∷ [])) in
        inr (same, sym read ∙ ap (λ n. get_or (xs ++ y ∷ []) n x) same ∙ get_or-append_seam xs y [] x)

module _ (cs : List Compound) (ss : List Sort) (c : Compound) (are : AreSorts cs ss) where
  -- a row that is there has the sort
  found : (r : ℕ) (k : Compound) → slice_get cs r ≡ Some k → compound_eq c k ≡ true → (r < length ss) × (get_or ss r bool ≡ compound_sort ss c)
  found r k at same =
      let within : r < length cs = slice_get_within cs r k at in
      let e = are.lengths in
      (omega arith, are.each r k at ∙ sym (compound_eq-sort ss c k same))

  module _ (fits : Fits ss c) (none : list_any (compound_eq c) cs ≡ false) where
    below : IsBelow (130 + length ss) c
    below = Fits-below ss c fits

    -- where no row is equal, no sort is
    unlike : (n : ℕ) → n < length ss → get_or ss n bool ≡ compound_sort ss c → ⊥
    unlike n lt same = by (slice_get_cases cs n).1
      where
        by : ((x : Compound) × (n < length cs) × (slice_get cs n ≡ Some x) × (get_or cs n x ≡ x)) ⊎ ((length cs ≤ n) × (slice_get cs n ≡ None)) → ⊥
        by (inl (x, within, at, read)) =
            let le : 130 + n ≤ 130 + length ss = omega arith in
            let equal : compound_eq c x ≡ true =
            compound_eq-from_sort ss c x (sort_one ss are.table) below (IsBelow-more (130 + n) (130 + length ss) x le (are.below n x at)) (sym same ∙ are.each n x at) in
            true≢false (sym (list_any-from_Any (compound_eq c) cs (n, x, within, read, equal)) ∙ none)
        by (inr past) = let e = are.lengths in absurd (omega arith)

    new : List Sort
    new = ss ++ compound_sort ss c ∷ []

    kept : (n : ℕ) → n < length ss → get_or new n bool ≡ get_or ss n bool
    unfolding new
    kept n lt = get_or_append_left ss (compound_sort ss c ∷ []) bool n lt

    last : get_or new (length ss) bool ≡ compound_sort ss c
    unfolding new
    last = get_or-append_seam ss (compound_sort ss c) [] bool

    size : length new ≡ length ss + 1
    unfolding new
    size = length-append ss (compound_sort ss c ∷ [])

    last_or : (n : ℕ) → n < length new → (n < length ss) ⊎ (n ≡ length ss)
    last_or n lt = let e = size in let h : n < length ss + 1 = omega arith in by (nat_lt n (length ss)) refl h
      where
        by : (b : Bool) → nat_lt n (length ss) ≡ b → n < length ss + 1 → (n < length ss) ⊎ (n ≡ length ss)
        by true e h = inl (ltb-true n (length ss) e)
        by false e h = let le : length ss ≤ n = ltb-false n (length ss) e in inr (omega arith)

    each_new : (k : ℕ) (d : Compound) → slice_get (cs ++ c ∷ []) k ≡ Some d → get_or new k bool ≡ compound_sort new d
    unfolding new
    each_new k d at = by (pushed cs c d k at)
      where
        by : ((k < length cs) × (slice_get cs k ≡ Some d)) ⊎ ((k ≡ length cs) × (d ≡ c)) → get_or new k bool ≡ compound_sort new d
        by (inl (lt, old)) =
            let e = are.lengths in
            let within : k < length ss = omega arith in
            let le : 130 + k ≤ 130 + length ss = omega arith in
            kept k within ∙ are.each k d old ∙ sym (compound_stays ss (compound_sort ss c ∷ []) d (IsBelow-more (130 + k) (130 + length ss) d le (are.below k d old)))
        by (inr (at_end, same)) =
            ap (λ n. get_or new n bool) (at_end ∙ sym are.lengths) ∙ last ∙ sym (compound_stays ss (compound_sort ss c ∷ []) c below) ∙ ap (compound_sort new) (sym same)

    below_new : (k : ℕ) (d : Compound) → slice_get (cs ++ c ∷ []) k ≡ Some d → IsBelow (130 + k) d
    below_new k d at = by (pushed cs c d k at)
      where
        by : ((k < length cs) × (slice_get cs k ≡ Some d)) ⊎ ((k ≡ length cs) × (d ≡ c)) → IsBelow (130 + k) d
        by (inl (lt, old)) = are.below k d old
        by (inr (at_end, same)) =
            let place : length ss ≡ k = are.lengths ∙ sym at_end in
            subst (IsBelow (130 + k)) (sym same) (subst (λ n. IsBelow (130 + n) c) place below)

    -- what holds of each sort of the table and of the new one holds of each sort of the larger table
    every : (test : Sort → Bool) → ((n : ℕ) → n < length ss → test (get_or ss n bool) ≡ true) → test (compound_sort ss c) ≡ true → (n : ℕ) → n < length new → test (get_or new n bool) ≡ true
    every test old one n lt = by (last_or n lt)
      where
        by : (n < length ss) ⊎ (n ≡ length ss) → test (get_or new n bool) ≡ true
        by (inl within) = ap test (kept n within) ∙ old n within
        by (inr at_end) = ap (λ k. test (get_or new k bool)) at_end ∙ ap test last ∙ one

    distinct_new : (m n : ℕ) → m < length new → n < length new → get_or new m bool ≡ get_or new n bool → m ≡ n
    distinct_new m n a b same = by (last_or m a) (last_or n b)
      where
        by : (m < length ss) ⊎ (m ≡ length ss) → (n < length ss) ⊎ (n ≡ length ss) → m ≡ n
        by (inl p) (inl q) = are.table.distinct m n p q (sym (kept m p) ∙ same ∙ kept n q)
        by (inl p) (inr q) = absurd (unlike m p (sym (kept m p) ∙ same ∙ ap (λ k. get_or new k bool) q ∙ last))
        by (inr p) (inl q) = absurd (unlike n q (sym (kept n q) ∙ sym same ∙ ap (λ k. get_or new k bool) p ∙ last))
        by (inr p) (inr q) = p ∙ sym q

    are_new : AreSorts (cs ++ c ∷ []) new
    are_new = record {
      lengths = let e = size in let f = are.lengths in let g = length-append cs (c ∷ []) in omega arith;
      each = each_new;
      below = below_new;
      table = record {
        sorts = every is_sort are.table.sorts (Fits-sort ss are.table c fits);
        composed = every is_composed are.table.composed (Fits-composed ss c fits);
        distinct = distinct_new;
      };
    }

    adds_new : AddsSort ss new (compound_sort ss c)
    unfolding new
    adds_new = inr (refl, λ there. unlike there.0 there.1 (get_or_from_slice_get ss there.0 (compound_sort ss c) bool (slice_get-get_or ss there.0 (compound_sort ss c) there.1 ∙ ap Some there.2)))

-- what `insert_full` leaves
pub record Gained (new : List Compound) (old ss : List Sort) (c : Compound) (r : ℕ) : Type 0 where
  pub are : AreSorts new ss
  pub within : r < length ss
  pub sort : get_or ss r bool ≡ compound_sort old c
  pub grows : AddsSort old ss (compound_sort old c)

Stored : List Compound → Compound → ℕ → Type 0
Stored cs c r = (k : Compound) × (slice_get cs r ≡ Some k) × (compound_eq c k ≡ true)

module _ (cs : List Compound) (c : Compound) (r : ℕ) (are : AreSorts cs (sorts_of cs)) where
  gained_old : (made : List Compound) → made ≡ cs → Stored made c r → Gained made (sorts_of cs) (sorts_of made) c r
  unfolding Stored
  gained_old made e =
      let P : List Compound → Type 0 = λ n. Stored n c r → Gained n (sorts_of cs) (sorts_of n) c r in
      subst P (sym e) (λ stored.
      let f = found cs (sorts_of cs) c are r stored.0 stored.1 stored.2 in
      record { are = are; within = f.0; sort = f.1; grows = inl refl })

  gained_new : Fits (sorts_of cs) c → list_any (compound_eq c) cs ≡ false → (made : List Compound) → made ≡ cs ++ c ∷ [] → Stored made c r → Gained made (sorts_of cs) (sorts_of made) c r
  unfolding Stored new
  gained_new fits none made e =
      let P : List Compound → Type 0 = λ n. Stored n c r → Gained n (sorts_of cs) (sorts_of n) c r in
      subst P (sym e) (λ stored.
      let Q : List Sort → Type 0 = λ ss. Gained (cs ++ c ∷ []) (sorts_of cs) ss c r in
      subst Q (sym (sorts_after-push [] cs c)) (by stored (pushed cs c stored.0 r stored.1)))
    where
      by : (s : Stored (cs ++ c ∷ []) c r) → ((r < length cs) × (slice_get cs r ≡ Some s.0)) ⊎ ((r ≡ length cs) × (s.0 ≡ c)) → Gained (cs ++ c ∷ []) (sorts_of cs) (sorts_of cs ++ compound_sort (sorts_of cs) c ∷ []) c r
      by s (inl (lt, old)) = absurd (true≢false (sym (list_any-from_Any (compound_eq c) cs (r, s.0, lt, get_or_from_slice_get cs r s.0 s.0 old, s.2)) ∙ none))
      by s (inr (at_end, same)) = record {
        are = are_new cs (sorts_of cs) c are fits none;
        within = let e = size cs (sorts_of cs) c are fits none in let f = are.lengths in omega arith;
        sort = ap (λ n. get_or (sorts_of cs ++ compound_sort (sorts_of cs) c ∷ []) n bool) (at_end ∙ sym are.lengths) ∙ last cs (sorts_of cs) c are fits none;
        grows = adds_new cs (sorts_of cs) c are fits none;
      }

  pub gained : (made : List Compound) → Fits (sorts_of cs) c → made ≡ insert_key compound_eq cs c → ((k : Compound) × (slice_get made r ≡ Some k) × (compound_eq c k ≡ true)) → Gained made (sorts_of cs) (sorts_of made) c r
  unfolding Stored
  gained made fits keys stored = by (list_any (compound_eq c) cs) refl
    where
      by : (b : Bool) → list_any (compound_eq c) cs ≡ b → Gained made (sorts_of cs) (sorts_of made) c r
      by true e = gained_old made (keys ∙ ap (λ b. if b then cs else cs ++ c ∷ []) e) stored
      by false e = gained_new fits e made (keys ∙ ap (λ b. if b then cs else cs ++ c ∷ []) e) stored

-- a row that is there stands behind its parts
pub IsBelow-found : (cs : List Compound) (ss : List Sort) → AreSorts cs ss → (n : ℕ) → 130 ≤ n → (o : Option (Bor Compound)) → option_copied o ≡ slice_get cs (n - 130) → IfSome o (λ c. IsBelow n c.now)
IsBelow-found cs ss are n le None e = tt
IsBelow-found cs ss are n le (Some c) e =
    let place : 130 + (n - 130) ≡ n = omega arith in
    subst (λ k. IsBelow k c.now) place (are.below (n - 130) c.now (sym e))
