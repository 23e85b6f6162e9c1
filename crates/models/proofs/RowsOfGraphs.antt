-- Models in which a symbol has a row more, and the model with defaults alone.
use Rattle.std.proofs.Common.{◌≡◌, ◌∙◌, sym, ap, subst, refl, ℕ, ◌<◌, Bool, true, false, cond, not, if◌then◌else◌, ◌&&◌, ◌||◌, List, [], ◌∷◌, ◌++◌, map, length, Option, Some, None, is_some, Result, Ok, Err, IsTrue, true≢false, arith}
use Rattle.std.specs.Prelude.{IfSome, IsSome, OnOk, OnErr, option_map}
use Rattle.std.specs.List.{list_any, list_all}
use Rattle.smt_terms.specs.declared.ids.SortId.{SortId}
use Rattle.smt_terms.specs.declared.ids.SymId.{SymId}
use Rattle.smt_terms.specs.Equal.{name_eq, symbol_eq}
use Rattle.smt_terms.specs.Models.{Row, Graph, Model, distinct_rows, rows_allowed, is_graph, IsModel, IsModelOver}
use Rattle.smt_terms.specs.Sorts.{Name, Sort, free_sort, Symbol}
use Rattle.smt_terms.specs.Values.{Value, Sizes, all_same, is_value, are_values}
use Rattle.smt_terms.proofs.Equal.{Decides-symbol_eq}
use Rattle.smt_terms.proofs.Tests.{both_true, and_true, both_false, not_true}
use Rattle.smt_values.specs.declared.value.Value.{Value as Held}
use Rattle.smt_values.specs.SizeTable.{sizes_by, number_of}
use Rattle.smt_values.specs.SortIds.{sort_at}
use Rattle.term_table.specs.Formulas.{Formulas, symbol_at, IsSymbol, IsTable}
use Rattle.script_read.specs.CommandLists.{free_name}
use Rattle.models.specs.GraphRows.{meanings, default_graph, has_row, with_row, row_added, HaveKeys}
use Rattle.models.specs.ModelView.{ModelLists, graph_in, graphs_by, model_at, IsModelOf, AreSizesOf, no_numbers, default_model_of, with_graph, with_row_for}
use Rattle.models.proofs.NumberedGraphs.{graph_of_symbol, still_valid}

-- ---- answers

pub on_ok : {A E : Type 0} {P Q : Type 0} (r : Result A E) → OnOk r P → (P → Q) → OnOk r Q
on_ok (Ok x) p f = f p
on_ok (Err e) p f = tt

pub on_err : {A E : Type 0} {P Q : Type 0} (r : Result A E) → OnErr r P → (P → Q) → OnErr r Q
on_err (Ok x) p f = tt
on_err (Err e) p f = f p

-- the same keys, by another name
pub seen_keys : (args : List Sort) (sizes : Sizes) (vs ws : List Held) → vs ≡ ws → (o : Option Graph) (b : Bool) → IfSome o (λ g. b ≡ has_row args sizes (meanings vs) g.rows) → IfSome o (λ g. b ≡ has_row args sizes (meanings ws) g.rows)
seen_keys args sizes vs ws same o b h = subst (λ us. IfSome o (λ g. b ≡ has_row args sizes (meanings us) g.rows)) same h

-- ---- valid functions

module _ (f : Symbol) (sizes : Sizes) where
  keys_only : (rs : List Row) → list_all (λ r. are_values f.args sizes r.keys && is_value f.result sizes r.result) rs ≡ true → list_all (λ r. are_values f.args sizes r.keys) rs ≡ true
  keys_only [] h = refl
  keys_only (r ∷ rs) h =
      let parts = both_true (are_values f.args sizes r.keys && is_value f.result sizes r.result) (list_all (λ q. are_values f.args sizes q.keys && is_value f.result sizes q.result) rs) h in
      and_true (are_values f.args sizes r.keys) (list_all (λ q. are_values f.args sizes q.keys) rs)
      (both_true (are_values f.args sizes r.keys) (is_value f.result sizes r.result) parts.0).0 (keys_only rs parts.1)

  abbrev fit : List Row → Bool
  fit rs = list_all (λ r. are_values f.args sizes r.keys && is_value f.result sizes r.result) rs

  pub graph_keys : (g : Graph) → is_graph f sizes g ≡ true → HaveKeys f.args sizes g.rows
  graph_keys g h =
      keys_only g.rows (both_true (fit g.rows) (distinct_rows f.args sizes g.rows && rows_allowed f.args g.rows)
      (both_true (is_value f.result sizes g.otherwise) (fit g.rows && (distinct_rows f.args sizes g.rows && rows_allowed f.args g.rows)) h).1).0

  module _ (ks : List Value) (v : Value) (keys : are_values f.args sizes ks ≡ true) (value : is_value f.result sizes v ≡ true) where
    abbrev last : Row
    last = record { keys = ks; result = v }

    fit_more : (rs : List Row) → fit rs ≡ true → fit (rs ++ last ∷ []) ≡ true
    fit_more [] h = and_true (are_values f.args sizes ks && is_value f.result sizes v) true (and_true (are_values f.args sizes ks) (is_value f.result sizes v) keys value) refl
    fit_more (r ∷ rs) h =
        let parts = both_true (are_values f.args sizes r.keys && is_value f.result sizes r.result) (fit rs) h in
        and_true (are_values f.args sizes r.keys && is_value f.result sizes r.result) (fit (rs ++ last ∷ [])) parts.0 (fit_more rs parts.1)

    none_alike : (r : Row) (rs : List Row) → list_any (λ q. all_same f.args sizes r.keys q.keys) rs ≡ false → all_same f.args sizes r.keys ks ≡ false
        → list_any (λ q. all_same f.args sizes r.keys q.keys) (rs ++ last ∷ []) ≡ false
    none_alike r [] h differs = ap (λ b. b || false) differs
    none_alike r (q ∷ rs) h differs =
        let parts = both_false (all_same f.args sizes r.keys q.keys) (list_any (λ p. all_same f.args sizes r.keys p.keys) rs) h in
        ap (λ b. b || list_any (λ p. all_same f.args sizes r.keys p.keys) (rs ++ last ∷ [])) parts.0 ∙ none_alike r rs parts.1 differs

    distinct_more : (rs : List Row) → distinct_rows f.args sizes rs ≡ true → has_row f.args sizes ks rs ≡ false → distinct_rows f.args sizes (rs ++ last ∷ []) ≡ true
    distinct_more [] h new = refl
    distinct_more (r ∷ rs) h new =
        let parts = both_true (not (list_any (λ q. all_same f.args sizes r.keys q.keys) rs)) (distinct_rows f.args sizes rs) h in
        let differ = both_false (all_same f.args sizes r.keys ks) (has_row f.args sizes ks rs) new in
        and_true (not (list_any (λ q. all_same f.args sizes r.keys q.keys) (rs ++ last ∷ []))) (distinct_rows f.args sizes (rs ++ last ∷ []))
        (ap not (none_alike r rs (not_true (list_any (λ q. all_same f.args sizes r.keys q.keys) rs) parts.0) differ.0)) (distinct_more rs parts.1 differ.1)

    allowed : (args : List Sort) (rs : List Row) → 0 < length args → rows_allowed args (rs ++ last ∷ []) ≡ true
    allowed [] rs some = absurd (omega (arith, some))
    allowed (s ∷ ss) [] some = refl
    allowed (s ∷ ss) (r ∷ rs) some = refl

    pub row_fits_too : (g : Graph) → is_graph f sizes g ≡ true → 0 < length f.args → has_row f.args sizes ks g.rows ≡ false → is_graph f sizes (with_row ks v g) ≡ true
    row_fits_too g h some new =
        let a = both_true (is_value f.result sizes g.otherwise) (fit g.rows && (distinct_rows f.args sizes g.rows && rows_allowed f.args g.rows)) h in
        let b = both_true (fit g.rows) (distinct_rows f.args sizes g.rows && rows_allowed f.args g.rows) a.1 in
        let d = both_true (distinct_rows f.args sizes g.rows) (rows_allowed f.args g.rows) b.1 in
        let rs = g.rows ++ last ∷ [] in
        and_true (is_value f.result sizes g.otherwise) (fit rs && (distinct_rows f.args sizes rs && rows_allowed f.args rs)) a.0
        (and_true (fit rs) (distinct_rows f.args sizes rs && rows_allowed f.args rs) (fit_more g.rows b.0)
        (and_true (distinct_rows f.args sizes rs) (rows_allowed f.args rs) (distinct_more g.rows d.0 new) (allowed f.args g.rows some)))

-- ---- a row more in a model

module _ (m : Model) (f : Symbol) where
  pub valid_at : (g : Graph) → m.graphs f ≡ Some g → IsModel m → is_graph f m.sizes g ≡ true
  valid_at g at is = subst (λ o. IfSome o (λ h. IsTrue (is_graph f m.sizes h))) at (is.graphs f)

  -- a function that the model has
  unchanged : (o : Option Graph) → m.graphs f ≡ o → m ≡ with_graph f o m
  unchanged o at = λ i. record { sizes = m.sizes; graphs = λ h. by h (symbol_eq h f) refl i; div_by_zero = m.div_by_zero; mod_by_zero = m.mod_by_zero }
    where
      by : (h : Symbol) (b : Bool) → symbol_eq h f ≡ b → m.graphs h ≡ cond b o (m.graphs h)
      by h true e = ap m.graphs ((Decides-symbol_eq h f).0 e) ∙ at
      by h false e = refl

  module _ (ks : List Value) (v : Value) where
    pub row_there : (o : Option Graph) → m.graphs f ≡ o → IsSome o → (b : Bool) → IfSome o (λ g. b ≡ has_row f.args m.sizes ks g.rows) → b ≡ true → m ≡ with_row_for f ks v m
    row_there None at there b is h = absurd (true≢false (sym there))
    row_there (Some g) at there b is h =
        unchanged (Some g) at
        ∙ ap (λ o. with_graph f o m)
        (ap (λ x. Some (if x then g else with_row ks v g)) (sym (sym is ∙ h)) ∙ ap (option_map (row_added f.args m.sizes ks v)) (sym at))

    pub row_new : (o : Option Graph) → m.graphs f ≡ o → IsSome o → (b : Bool) → IfSome o (λ g. b ≡ has_row f.args m.sizes ks g.rows) → b ≡ false
        → with_graph f (option_map (with_row ks v) o) m ≡ with_row_for f ks v m
    row_new None at there b is h = absurd (true≢false (sym there))
    row_new (Some g) at there b is h =
        ap (λ o. with_graph f o m)
        (ap (λ x. Some (if x then g else with_row ks v g)) (sym (sym is ∙ h)) ∙ ap (option_map (row_added f.args m.sizes ks v)) (sym at))

    pub row_new_valid : (o : Option Graph) → m.graphs f ≡ o → IsSome o → (b : Bool) → IfSome o (λ g. b ≡ has_row f.args m.sizes ks g.rows) → b ≡ false → IsModel m
        → 0 < length f.args → are_values f.args m.sizes ks ≡ true → is_value f.result m.sizes v ≡ true → IsModel (with_graph f (option_map (with_row ks v) o) m)
    row_new_valid None at there b is h valid some keys value = absurd (true≢false (sym there))
    row_new_valid (Some g) at there b is h valid some keys value =
        still_valid f (Some (with_row ks v g)) m valid (row_fits_too f m.sizes ks v keys value g (valid_at g at valid) some (sym is ∙ h))

-- the keys of a symbol's rows in a model over a table
pub keys_in : (t : Formulas) (table : IsTable t) (m : ModelLists) (s : SymId) (within : IsSymbol t s) (g : Graph) → Some g ≡ graph_in m.graphs s → IsModel (model_at t m)
    → HaveKeys (symbol_at t s).args (sizes_by t.sorts m.sizes) g.rows
keys_in t table m s within g at valid =
    graph_keys (symbol_at t s) (sizes_by t.sorts m.sizes) g (valid_at (model_at t m) (symbol_at t s) g (graph_of_symbol t table s within m.graphs ∙ sym at) valid)

-- ---- the model with defaults alone

abbrev pub no_lists : List (SortId × ℕ) → ModelLists
no_lists sizes = record { sizes = sizes; graphs = []; div_by_zero = no_numbers; mod_by_zero = no_numbers }

module _ (t : Formulas) (sizes : List (SortId × ℕ)) where
  pub default_none : (names : List Name) → model_at t (no_lists sizes) ≡ default_model_of (sizes_by t.sorts sizes) record { sorts = names; symbols = [] }
  unfolding sizes_by graphs_by
  default_none names = refl

  module _ (sorts : List SortId) (are : AreSizesOf t sorts sizes) where
    pub default_none_valid : (names : List Name) → IsModel (default_model_of (sizes_by t.sorts sizes) record { sorts = names; symbols = [] })
    unfolding sizes_by
    default_none_valid names = record { sizes = λ s. are.positive (number_of t.sorts (free_sort s)); graphs = λ f. tt; div_by_zero = refl; mod_by_zero = refl }

    pub no_lists_of : IsModelOf t (no_lists sizes)
    no_lists_of = record { sizes = are.table; graphs = λ f far. refl }

    among_names : (n : Name) (ss : List SortId) → list_any (name_eq n) (map (λ s. free_name (sort_at t.sorts s)) ss) ≡ list_any (λ s. name_eq n (free_name (sort_at t.sorts s))) ss
    among_names n [] = refl
    among_names n (s ∷ ss) = ap (λ b. name_eq n (free_name (sort_at t.sorts s)) || b) (among_names n ss)

    among_symbols : {A : Type 0} (x : A) (b : Bool) → is_some (if b then Some x else None) ≡ b
    among_symbols x true = refl
    among_symbols x false = refl

    -- a valid model with defaults alone is one over its signature
    pub default_over : (symbols : List Symbol) (m : Model)
        → m ≡ default_model_of (sizes_by t.sorts sizes) record { sorts = map (λ s. free_name (sort_at t.sorts s)) sorts; symbols = symbols } → IsModel m
        → IsModelOver (map (λ s. free_name (sort_at t.sorts s)) sorts) symbols m
    default_over symbols m is valid = record {
      valid = valid;
      graphs = λ f. ap (λ (k : Model). is_some (k.graphs f)) is ∙ among_symbols (default_graph f.result) (list_any (symbol_eq f) symbols);
      sizes = λ n h. ap (λ (k : Model). k.sizes n) is ∙ are.others n (sym (among_names n sorts) ∙ h);
    }

-- where no size is given
module _ (t : Formulas) where
  pub no_sizes_of : (sorts : List SortId) → AreSizesOf t sorts []
  unfolding sizes_by
  no_sizes_of sorts = record { positive = λ s. omega arith; table = λ s far. refl; others = λ n h. refl }

  pub no_sizes : (sizes : List (SortId × ℕ)) → sizes ≡ [] → sizes_by t.sorts sizes ≡ (λ _. 1)
  unfolding sizes_by
  no_sizes sizes none = ap (sizes_by t.sorts) none

among_last : (f h : Symbol) (fs : List Symbol) → list_any (symbol_eq h) (fs ++ f ∷ []) ≡ (symbol_eq h f || list_any (symbol_eq h) fs)
among_last f h [] = refl
among_last f h (g ∷ fs) = ap (λ b. symbol_eq h g || b) (among_last f h fs) ∙ swapped (symbol_eq h g) (symbol_eq h f) (list_any (symbol_eq h) fs)
  where
    swapped : (a b c : Bool) → (a || (b || c)) ≡ (b || (a || c))
    swapped true true c = refl
    swapped true false c = refl
    swapped false b c = refl

pub default_more : (sizes : Sizes) (names : List Name) (fs : List Symbol) (f : Symbol)
    → with_graph f (Some (default_graph f.result)) (default_model_of sizes record { sorts = names; symbols = fs }) ≡ default_model_of sizes record { sorts = names; symbols = fs ++ f ∷ [] }
default_more sizes names fs f = λ i. record { sizes = sizes; graphs = λ h. by h (symbol_eq h f) refl i; div_by_zero = no_numbers; mod_by_zero = no_numbers }
  where
    by : (h : Symbol) (b : Bool) → symbol_eq h f ≡ b
        → cond (symbol_eq h f) (Some (default_graph f.result)) (if list_any (symbol_eq h) fs then Some (default_graph h.result) else None)
        ≡ (if list_any (symbol_eq h) (fs ++ f ∷ []) then Some (default_graph h.result) else None)
    by h true e =
        ap (λ b. cond b (Some (default_graph f.result)) (if list_any (symbol_eq h) fs then Some (default_graph h.result) else None)) e
        ∙ ap (λ (g : Symbol). Some (default_graph g.result)) (sym ((Decides-symbol_eq h f).0 e))
        ∙ ap (λ b. if b then Some (default_graph h.result) else None) (sym (among_last f h fs ∙ ap (λ b. b || list_any (symbol_eq h) fs) e))
    by h false e =
        ap (λ b. cond b (Some (default_graph f.result)) (if list_any (symbol_eq h) fs then Some (default_graph h.result) else None)) e
        ∙ ap (λ b. if b then Some (default_graph h.result) else None) (sym (among_last f h fs ∙ ap (λ b. b || list_any (symbol_eq h) fs) e))
