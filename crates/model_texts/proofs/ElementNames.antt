-- An element that is met is known from then on, and its number is below the number of its sort's elements.
use Rattle.std.proofs.Common.{◌≡◌, zero, suc, ◌<◌, ◌≤◌, ◌==◌, Bool, true, false, cond, ◌||◌, if◌then◌else◌, List, [], ◌∷◌, ◌++◌, map, length, refl, ap, sym, ◌∙◌, arith, true≢false}
use Rattle.std.specs.Prelude.{filter}
use Rattle.std.proofs.lemmas.Bool.Decides.{Decides-eqb}
use Rattle.std.proofs.lemmas.List.{length-append}
use Rattle.smt_lex.specs.Names.{is_among}
use Rattle.smt_terms.specs.Equal.{name_eq}
use Rattle.smt_terms.specs.Sorts.{Name, Sort, free_sort, bool, int, bit_vector, array}
use Rattle.smt_terms.specs.declared.ids.SortId.{SortId}
use Rattle.smt_terms.proofs.Equal.{name_same, name_itself}
use Rattle.smt_terms.proofs.Tests.{alike_from}
use Rattle.smt_values.specs.SortIds.{sort_at, is_free, IsSortList}
use Rattle.smt_values.proofs.SortIds.{sort_one}
use Rattle.term_table.specs.Formulas.{Formulas}
use Rattle.script_read.specs.CommandLists.{free_name}
use Rattle.models.specs.LiveNumbers.{IsFreeSort}
use Rattle.model_texts.specs.Met.{MetNames, names_kept, with_name}
use Rattle.model_texts.specs.Reading.{Element, names_in, place_among, with_element}
use Rattle.model_texts.specs.Replies.{AreElementsOf}
use Rattle.model_texts.proofs.MetNames.{turned}

-- ---- the names of each sort

abbrev names_after : Element → Name → Bool → List Element → List Name
names_after x s b es = map (λ y. y.name) (cond b (x ∷ filter (λ y. name_eq y.sort s) es) (filter (λ y. name_eq y.sort s) es))

names-append : (es : List Element) (e : Element) (s : Name) → names_in (es ++ e ∷ []) s ≡ (if name_eq e.sort s then names_in es s ++ e.name ∷ [] else names_in es s)
names-append [] e s = by (name_eq e.sort s)
  where
    by : (b : Bool) → map (λ x. x.name) (cond b (e ∷ []) []) ≡ (if b then e.name ∷ [] else [])
    by true = refl
    by false = refl
names-append (x ∷ xs) e s = by (name_eq x.sort s) (name_eq e.sort s) (names-append xs e s)
  where
    by : (b c : Bool) → names_in (xs ++ e ∷ []) s ≡ (if c then names_in xs s ++ e.name ∷ [] else names_in xs s) → names_after x s b (xs ++ e ∷ []) ≡ (if c then names_after x s b xs ++ e.name ∷ [] else names_after x s b xs)
    by true true h = ap (λ ns. x.name ∷ ns) h
    by true false h = ap (λ ns. x.name ∷ ns) h
    by false true h = h
    by false false h = h

module _ (es : List Element) (k n s : Name) where
  abbrev with_more : Bool → List Element
  with_more b = if b then es else es ++ record { sort = k; name = n } ∷ []

  names-with : (b c : Bool) → is_among (names_in es k) n ≡ b → name_eq k s ≡ c → names_in (with_more b) s ≡ (if c then with_name n (names_in es s) else names_in es s)
  names-with true true among same =
      let here : is_among (names_in es s) n ≡ true = ap (λ m. is_among (names_in es m) n) (sym (name_same k s same)) ∙ among in
      sym (ap (λ b. if b then names_in es s else names_in es s ++ n ∷ []) here)
  names-with true false among other = refl
  names-with false true new same =
      let here : is_among (names_in es s) n ≡ false = ap (λ m. is_among (names_in es m) n) (sym (name_same k s same)) ∙ new in
      names-append es (record { sort = k; name = n }) s
      ∙ ap (λ b. if b then names_in es s ++ n ∷ [] else names_in es s) same
      ∙ sym (ap (λ b. if b then names_in es s else names_in es s ++ n ∷ []) here)
  names-with false false new other =
      names-append es (record { sort = k; name = n }) s ∙ ap (λ b. if b then names_in es s ++ n ∷ [] else names_in es s) other

  pub names-met : names_in (with_element k n es) s ≡ (if name_eq k s then with_name n (names_in es s) else names_in es s)
  names-met = names-with (is_among (names_in es k) n) (name_eq k s) refl refl

-- ---- by the numbers of sorts

pub free_is : (s : Sort) → is_free s ≡ true → s ≡ free_sort (free_name s)
free_is (free_sort n) is = refl
free_is bool is = absurd (true≢false (sym is))
free_is int is = absurd (true≢false (sym is))
free_is (bit_vector w) is = absurd (true≢false (sym is))
free_is (array i e) is = absurd (true≢false (sym is))

module _ (t : Formulas) (table : IsSortList t.sorts) (sort : SortId) (free : IsFreeSort t sort) where
  one_name : (s : SortId) → IsFreeSort t s → name_eq (free_name (sort_at t.sorts sort)) (free_name (sort_at t.sorts s)) ≡ (s.0 == sort.0)
  one_name s other =
      alike_from (name_eq (free_name (sort_at t.sorts sort)) (free_name (sort_at t.sorts s))) (s.0 == sort.0)
      (λ h. (Decides-eqb s.0 sort.0).1 (sort_one t.sorts table s.0 sort.0 other.0 free.0
      (free_is (sort_at t.sorts s) other.1 ∙ ap free_sort (sym (name_same (free_name (sort_at t.sorts sort)) (free_name (sort_at t.sorts s)) h)) ∙ sym (free_is (sort_at t.sorts sort) free.1))))
      (λ h. ap (λ k. name_eq (free_name (sort_at t.sorts sort)) (free_name (sort_at t.sorts (record { 0 = k })))) ((Decides-eqb s.0 sort.0).0 h) ∙ name_itself (free_name (sort_at t.sorts sort)))

  pub element_met : (old new : MetNames) (n : Name) → ((s : SortId) → names_kept new s ≡ (if s.0 == sort.0 then with_name n (names_kept old s) else names_kept old s))
      → (es : List Element) → AreElementsOf t (names_kept old) es → AreElementsOf t (names_kept new) (with_element (free_name (sort_at t.sorts sort)) n es)
  element_met old new n met es known s other =
      names-met es (free_name (sort_at t.sorts sort)) n (free_name (sort_at t.sorts s))
      ∙ ap (λ b. if b then with_name n (names_in es (free_name (sort_at t.sorts s))) else names_in es (free_name (sort_at t.sorts s))) (one_name s other)
      ∙ ap (λ ns. if s.0 == sort.0 then with_name n ns else ns) (known s other)
      ∙ sym (met s)

-- ---- numbers

place-among-most : (ns : List Name) (n : Name) → place_among ns n ≤ length ns
place-among-most [] n = omega arith
place-among-most (m ∷ ms) n = by (name_eq m n) (place-among-most ms n)
  where
    by : (b : Bool) → place_among ms n ≤ length ms → (if b then zero else suc (place_among ms n)) ≤ suc (length ms)
    by true most = omega arith
    by false most = omega (arith, most)

place-among-below : (ns : List Name) (n : Name) → is_among ns n ≡ true → place_among ns n < length ns
place-among-below [] n among = absurd (true≢false (sym among))
place-among-below (m ∷ ms) n among = by (name_eq m n) (ap (λ b. b || is_among ms n) (sym (turned n m)) ∙ among) (place-among-below ms n)
  where
    by : (b : Bool) → (b || is_among ms n) ≡ true → (is_among ms n ≡ true → place_among ms n < length ms) → (if b then zero else suc (place_among ms n)) < suc (length ms)
    by true e rest = omega arith
    by false e rest = let below = rest e in omega (arith, below)

pub place-met-below : (ns : List Name) (n : Name) → place_among ns n < length (with_name n ns)
place-met-below ns n = by (is_among ns n) refl
  where
    by : (b : Bool) → is_among ns n ≡ b → place_among ns n < length (if b then ns else ns ++ n ∷ [])
    by true among = place-among-below ns n among
    by false new = let most = place-among-most ns n in let size = length-append ns (n ∷ []) in omega (arith, most, size)
