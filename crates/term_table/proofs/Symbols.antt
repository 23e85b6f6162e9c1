-- One symbol more, and more sorts, leave the terms as they are.
use Rattle.std.proofs.Common.{◌≡◌, ℕ, suc, ◌+◌, ◌<◌, ◌≤◌, inl, inr, Bool, true, false, if◌then◌else◌, List, [], ◌∷◌, ◌++◌, length, map, get_or, All, Contains, Some, refl, ap, sym, ◌∙◌, subst, arith, length-append}
use Rattle.std.specs.List.{slice_get, list_any}
use Rattle.std.proofs.Math.ListN.{get_or-append}
use Rattle.std.proofs.Math.Seq.{get_or-append_seam}
use Rattle.std.proofs.lemmas.List.{length-map, get_or-map, map-append}
use Rattle.std.proofs.lemmas.List.Folds.{list_any_at}
use Rattle.std.proofs.lemmas.Option.{get_or_from_slice_get, slice_get_within}
use Rattle.indexmap.specs.IndexSet.{insert_key}
use Rattle.smt_terms.specs.declared.ids.SortId.{SortId}
use Rattle.smt_terms.specs.Sorts.{Sort, Symbol}
use Rattle.smt_values.specs.SortIds.{sort_at, IsSortId, IsSortList, AddsSort}
use Rattle.smt_values.proofs.SortIds.{sort_one, sort_stays}
use Rattle.term_table.specs.declared.table.Node.{Node}
use Rattle.term_table.specs.declared.table.Entry.{Entry}
use Rattle.term_table.specs.Formulas.{no_symbol, Adds, GrowsByOne}
use Rattle.term_table.specs.View.{row_of, symbol_of, grown, FitsEntry, symbols_of, IsKept}
use Rattle.term_table.proofs.Derived.{entry_eq, entry_eq-true, entry_eq-from}
use Rattle.term_table.proofs.Growth.{either_place, grows-same, grows-push, seam-push}
use Rattle.term_table.proofs.Larger.{IsLarger, grown-larger, RowsFit-larger}
use Rattle.term_table.proofs.Fields.{in_list}

-- ---- symbols are told by their sorts' numbers

args_same : (ss : List Sort) → IsSortList ss → (ks ls : List SortId) → All (IsSortId ss) ks → All (IsSortId ss) ls → map (sort_at ss) ks ≡ map (sort_at ss) ls → ks ≡ ls
args_same ss table [] [] a b e = refl
args_same ss table [] (l ∷ ls) a b e = absurd cc
args_same ss table (k ∷ ks) [] a b e = absurd cc
args_same ss table (k ∷ ks) (l ∷ ls) a b e =
    let first : sort_at ss k ≡ sort_at ss l = cc in
    let rest : map (sort_at ss) ks ≡ map (sort_at ss) ls = cc in
    let number : k.0 ≡ l.0 = sort_one ss table k.0 l.0 (a 0 k (omega arith)) (b 0 l (omega arith)) first in
    let others : ks ≡ ls = args_same ss table ks ls (λ i d lt. a (suc i) d (omega arith)) (λ i d lt. b (suc i) d (omega arith)) rest in
    λ i. record { 0 = number i } ∷ others i

pub symbol_of-one : (ss : List Sort) → IsSortList ss → (e f : Entry) → FitsEntry ss e → FitsEntry ss f → symbol_of ss e ≡ symbol_of ss f → entry_eq e f ≡ true
symbol_of-one ss table e f a b same =
    let names : e.name.items ≡ f.name.items = ap (λ (g : Symbol). g.name) same in
    let args : e.args.items ≡ f.args.items = args_same ss table e.args.items f.args.items a.args b.args (ap (λ (g : Symbol). g.args) same) in
    let number : e.to.0 ≡ f.to.0 = sort_one ss table e.to.0 f.to.0 a.to b.to (ap (λ (g : Symbol). g.result) same) in
    entry_eq-from e f names args (λ i. record { 0 = number i })

pub symbol_of-same : (ss : List Sort) (e f : Entry) → entry_eq e f ≡ true → symbol_of ss e ≡ symbol_of ss f
symbol_of-same ss e f h =
    let told = entry_eq-true e f h in
    λ i. record { name = told.0 i; args = map (sort_at ss) (told.1 i); result = sort_at ss (told.2 i) }

-- ---- one symbol more

module _ (ss : List Sort) (fs : List Entry) (es : List (Node × SortId)) (h : IsKept ss fs es) (e : Entry) (fits : FitsEntry ss e) where
  abbrev pushed : List Entry
  pushed = fs ++ e ∷ []

  symbols-pushed : symbols_of ss pushed ≡ symbols_of ss fs ++ symbol_of ss e ∷ []
  symbols-pushed = map-append (symbol_of ss) fs (e ∷ [])

  larger : IsLarger (symbols_of ss fs) ss (symbols_of ss pushed) ss
  larger =
      let more : length (symbols_of ss pushed) ≡ length (symbols_of ss fs) + 1 = ap length symbols-pushed ∙ length-append (symbols_of ss fs) (symbol_of ss e ∷ []) in
      record {
        symbols = omega (arith, more);
        same_symbol = λ i lt. ap (λ l. get_or l i no_symbol) symbols-pushed ∙ get_or-append (symbols_of ss fs) (symbol_of ss e ∷ []) no_symbol i lt;
        sorts = omega arith;
        same_sort = λ k lt. refl;
      }

  absent_symbol : list_any (entry_eq e) fs ≡ false → (i : ℕ) → i < length fs → get_or (symbols_of ss fs) i no_symbol ≡ symbol_of ss e → ⊥
  absent_symbol none i lt same =
      let f = get_or fs i e in
      let here : get_or (symbols_of ss fs) i no_symbol ≡ symbol_of ss f = get_or-map (symbol_of ss) fs i e no_symbol lt in
      let equal : entry_eq e f ≡ true = symbol_of-one ss h.sorts e f fits (h.entries i e lt) (sym same ∙ here) in
      let found : list_any (entry_eq e) fs ≡ true = list_any_at (entry_eq e) fs i e lt equal in
      absurd cc

  pub symbol_not_contained : list_any (entry_eq e) fs ≡ false → Contains (symbols_of ss fs) (symbol_of ss e) → ⊥
  symbol_not_contained none is =
      let count : length (symbols_of ss fs) ≡ length fs = length-map fs (symbol_of ss) in
      let lt : is.0 < length (symbols_of ss fs) = is.1 in
      absent_symbol none is.0 (omega arith) (in_list (symbols_of ss fs) is.0 no_symbol (symbol_of ss e) lt ∙ is.2)

  kept_pushed_symbol : list_any (entry_eq e) fs ≡ false → IsKept ss pushed es
  kept_pushed_symbol none = record {
    sorts = h.sorts;
    entries = every;
    one_symbol = one;
    rows = RowsFit-larger (symbols_of ss fs) ss (symbols_of ss pushed) ss larger [] (map row_of es) h.rows;
  }
    where
      count : length pushed ≡ length fs + 1
      count = length-append fs (e ∷ [])

      numbers : length (symbols_of ss fs) ≡ length fs
      numbers = length-map fs (symbol_of ss)

      every : All (FitsEntry ss) pushed
      every i d lt = elim (either_place (length fs) i (omega (arith, count))) [
        | inl a ↦ subst (FitsEntry ss) (sym (get_or-append fs (e ∷ []) d i a)) (h.entries i d a)
        | inr b ↦ subst (FitsEntry ss) (sym (ap (λ k. get_or pushed k d) b ∙ get_or-append_seam fs e [] d)) fits
      ]

      early : (i : ℕ) → i < length fs → get_or (symbols_of ss pushed) i no_symbol ≡ get_or (symbols_of ss fs) i no_symbol
      early i lt = larger.same_symbol i (omega (arith, numbers))

      late : (i : ℕ) → i ≡ length fs → get_or (symbols_of ss pushed) i no_symbol ≡ symbol_of ss e
      late i is = seam-push (symbols_of ss fs) (symbols_of ss pushed) (symbol_of ss e) symbols-pushed i no_symbol (is ∙ sym numbers)

      one : (i j : ℕ) → i < length pushed → j < length pushed → get_or (symbols_of ss pushed) i no_symbol ≡ get_or (symbols_of ss pushed) j no_symbol → i ≡ j
      one i j li lj same =
          elim (either_place (length fs) i (omega (arith, count))) [
            | inl a ↦ elim (either_place (length fs) j (omega (arith, count))) [
              | inl b ↦ h.one_symbol i j a b (sym (early i a) ∙ same ∙ early j b)
              | inr b ↦ absurd (absent_symbol none i a (sym (early i a) ∙ same ∙ late j b))
            ]
            | inr a ↦ elim (either_place (length fs) j (omega (arith, count))) [
              | inl b ↦ absurd (absent_symbol none j b (sym (early j b) ∙ sym same ∙ late i a))
              | inr b ↦ a ∙ sym b
            ]
          ]

  pub kept_inserted : (new : List Entry) → new ≡ insert_key entry_eq fs e → IsKept ss new es
  kept_inserted new is = subst (λ l. IsKept ss l es) (sym is) (by (list_any (entry_eq e) fs) refl)
    where
      by : (b : Bool) → list_any (entry_eq e) fs ≡ b → IsKept ss (if b then fs else fs ++ e ∷ []) es
      by true r = h
      by false r = kept_pushed_symbol r

  pub trees_inserted : (new : List Entry) → new ≡ insert_key entry_eq fs e → grown (symbols_of ss new) ss [] (map row_of es) ≡ grown (symbols_of ss fs) ss [] (map row_of es)
  trees_inserted new is = ap (λ l. grown (symbols_of ss l) ss [] (map row_of es)) is ∙ by (list_any (entry_eq e) fs)
    where
      by : (b : Bool) → grown (symbols_of ss (if b then fs else fs ++ e ∷ [])) ss [] (map row_of es) ≡ grown (symbols_of ss fs) ss [] (map row_of es)
      by true = refl
      by false = grown-larger (symbols_of ss fs) ss (symbols_of ss pushed) ss larger [] (map row_of es) h.rows

  pub added_symbol : (new : List Entry) → new ≡ insert_key entry_eq fs e → Adds (symbols_of ss fs) (symbols_of ss new) (symbol_of ss e)
  added_symbol new is = subst (λ l. Adds (symbols_of ss fs) (symbols_of ss l) (symbol_of ss e)) (sym is) (by (list_any (entry_eq e) fs) refl)
    where
      by : (b : Bool) → list_any (entry_eq e) fs ≡ b → Adds (symbols_of ss fs) (symbols_of ss (if b then fs else fs ++ e ∷ [])) (symbol_of ss e)
      by true r = inl refl
      by false r = inr (symbols-pushed, symbol_not_contained r)

  pub grows_symbol : (new : List Entry) → new ≡ insert_key entry_eq fs e → GrowsByOne (symbols_of ss fs) (symbols_of ss new)
  grows_symbol new is = subst (λ l. GrowsByOne (symbols_of ss fs) (symbols_of ss l)) (sym is) (by (list_any (entry_eq e) fs))
    where
      by : (b : Bool) → GrowsByOne (symbols_of ss fs) (symbols_of ss (if b then fs else fs ++ e ∷ []))
      by true = grows-same (symbols_of ss fs) (symbols_of ss fs) refl
      by false = grows-push (symbols_of ss fs) (symbols_of ss pushed) (symbol_of ss e) symbols-pushed

  pub stored_symbol : (new : List Entry) (i : ℕ) (k : Entry) → slice_get new i ≡ Some k → entry_eq e k ≡ true → (i < length (symbols_of ss new)) × (get_or (symbols_of ss new) i no_symbol ≡ symbol_of ss e)
  stored_symbol new i k is same =
      let lt : i < length new = slice_get_within new i k is in
      let count : length (symbols_of ss new) ≡ length new = length-map new (symbol_of ss) in
      (omega arith, get_or-map (symbol_of ss) new i k no_symbol lt ∙ ap (symbol_of ss) (get_or_from_slice_get new i k k is) ∙ sym (symbol_of-same ss e k same))

-- ---- more sorts

module _ (ss us : List Sort) (longer : length ss ≤ length us) (stays : (k : SortId) → IsSortId ss k → sort_at us k ≡ sort_at ss k) (table : IsSortList us) where
  map-stays : (ks : List SortId) → All (IsSortId ss) ks → map (sort_at us) ks ≡ map (sort_at ss) ks
  map-stays [] a = refl
  map-stays (k ∷ ks) a = let first = stays k (a 0 k (omega arith)) in let rest = map-stays ks (λ i d lt. a (suc i) d (omega arith)) in λ i. first i ∷ rest i

  symbol-stays : (f : Entry) → FitsEntry ss f → symbol_of us f ≡ symbol_of ss f
  symbol-stays f fits = let args = map-stays f.args.items fits.args in let to = stays f.to fits.to in λ i. record { name = f.name.items; args = args i; result = to i }

  pub symbols-stay : (fs : List Entry) → All (FitsEntry ss) fs → symbols_of us fs ≡ symbols_of ss fs
  symbols-stay [] a = refl
  symbols-stay (f ∷ fs) a = let first = symbol-stays f (a 0 f (omega arith)) in let rest = symbols-stay fs (λ i d lt. a (suc i) d (omega arith)) in λ i. first i ∷ rest i

  module _ (fs : List Entry) (es : List (Node × SortId)) (h : IsKept ss fs es) where
    same_symbols : symbols_of us fs ≡ symbols_of ss fs
    same_symbols = symbols-stay fs h.entries

    more_sorts : IsLarger (symbols_of ss fs) ss (symbols_of us fs) us
    more_sorts =
        let count : length (symbols_of us fs) ≡ length (symbols_of ss fs) = ap length same_symbols in
        record { symbols = omega arith; same_symbol = λ i lt. ap (λ l. get_or l i no_symbol) same_symbols; sorts = longer; same_sort = stays }

    entry-larger : (f : Entry) → FitsEntry ss f → FitsEntry us f
    entry-larger f fits =
        let to : IsSortId ss f.to = fits.to in
        record { name = fits.name; args = λ i d lt. let within : IsSortId ss (get_or f.args.items i d) = fits.args i d lt in omega arith; to = omega arith }

    pub kept_sorts : IsKept us fs es
    kept_sorts = record {
      sorts = table;
      entries = λ i d lt. entry-larger (get_or fs i d) (h.entries i d lt);
      one_symbol = λ i j li lj e. h.one_symbol i j li lj (ap (λ l. get_or l i no_symbol) (sym same_symbols) ∙ e ∙ ap (λ l. get_or l j no_symbol) same_symbols);
      rows = RowsFit-larger (symbols_of ss fs) ss (symbols_of us fs) us more_sorts [] (map row_of es) h.rows;
    }

    pub trees_sorts : grown (symbols_of us fs) us [] (map row_of es) ≡ grown (symbols_of ss fs) ss [] (map row_of es)
    trees_sorts = grown-larger (symbols_of ss fs) ss (symbols_of us fs) us more_sorts [] (map row_of es) h.rows

-- a sort that is added
pub added_longer : (ss us : List Sort) (s : Sort) → AddsSort ss us s → length ss ≤ length us
added_longer ss us s (inl e) = let count : length us ≡ length ss = ap length e in omega arith
added_longer ss us s (inr e) = let count : length us ≡ length ss + 1 = ap length e.0 ∙ length-append ss (s ∷ []) in omega arith

pub added_stays : (ss us : List Sort) (s : Sort) → AddsSort ss us s → (k : SortId) → IsSortId ss k → sort_at us k ≡ sort_at ss k
added_stays ss us s (inl e) k lt = ap (λ l. sort_at l k) e
added_stays ss us s (inr e) k lt = ap (λ l. sort_at l k) e.0 ∙ sort_stays ss (s ∷ []) k.0 lt
