-- The rows that were made so far of live applications, and the least assertion with an operand beyond the range, with one
-- application more.
use Rattle.std.proofs.Common.{◌≡◌, ◌∙◌, sym, ap, refl, subst, ℕ, ◌<◌, ◌≤◌, ◌==◌, Bool, true, false, ◌&&◌, ◌||◌, List, [], ◌∷◌, ◌++◌, map, cond, take, reverse, get_or, slice_get, zero, suc, ◌+◌, length, Option, Some, None, option_map, is_some, unwrap_or, Err, All, IfSome, IsTrue, append_assoc, arith}
use Rattle.std.specs.List.{list_any, list_all}
use Rattle.std.proofs.lemmas.Bool.{eq-eqb, le-leb}
use Rattle.std.proofs.lemmas.Grind.{flat_map-append}
use Rattle.std.proofs.lemmas.List.{map-append, append-nil, reverse-append}
use Rattle.std.proofs.lemmas.List.Elements.{All-push, All-nil, All-cons, All-head, All-tail}
use Rattle.std.proofs.lemmas.List.Folds.{list_any-append}
use Rattle.smt_terms.specs.declared.ids.NodeId.{NodeId}
use Rattle.smt_terms.specs.Models.{Row, Graph, Model, row_value, graph_or_default, distinct_rows, rows_allowed, is_graph, IsModel}
use Rattle.smt_terms.specs.Equal.{symbol_eq}
use Rattle.smt_terms.specs.Rank.{sort_of, IsWellSorted, is_regular}
use Rattle.smt_terms.specs.Sorts.{Sort, Symbol}
use Rattle.smt_terms.specs.Term.{symbol, Term, Terms, apply, terms, constant}
use Rattle.smt_terms.specs.Val.{no_variables, val, fits}
use Rattle.smt_terms.specs.Values as plain
use Rattle.smt_terms.specs.Values.{Sizes, all_same, is_value, are_values, default_value}
use Rattle.smt_terms.proofs.Equal.{Decides-symbol_eq}
use Rattle.smt_terms.proofs.Keeping.{the_sort}
use Rattle.smt_terms.proofs.Ranked.{rank-takes}
use Rattle.smt_terms.proofs.Sorted.{applied}
use Rattle.smt_terms.proofs.Tests.{left_true, right_true, both_true, and_true, contrary}
use Rattle.smt_values.specs.Meaning.{meaning, IsHeld}
use Rattle.smt_values.specs.SizeTable.{sizes_by}
use Rattle.smt_values.specs.Valid.{IsValue}
use Rattle.smt_values.specs.declared.value.Value.{Value}
use Rattle.term_table.specs.Formulas.{Formulas, tree_in, tree, trees_at, symbol_at, operands, sort_or_bool, IsNode}
use Rattle.models.specs.GraphRows.{meanings, row_added, AreValues}
use Rattle.models.specs.ModelView.{ModelLists, model_at, with_row_for}
use Rattle.evaluation.specs.declared.faults.ValueFault.{ValueFault}
use Rattle.evaluation.specs.declared.faults.ValueFault.TheVariants.{Beyond128 as BeyondRange, Memory as NoMemory}
use Rattle.evaluation.specs.Evaluated.{breaks, Values, IsValueOf}
use Rattle.passes.specs.declared.carrying.Beyond.{Beyond}
use Rattle.passes.specs.declared.searching.LiveSymbol.{LiveSymbol}
use Rattle.passes.specs.declared.plan.Use.{Use}
use Rattle.passes.specs.declared.tables.NewRow.{NewRow}
use Rattle.passes.specs.declared.tables.Tabling.{Tabling}
use Rattle.pass_laws.specs.Carry.{Asked, asked_for}
use Rattle.pass_laws.specs.LiveGroups.{Operands}
use Rattle.passes.specs.LiveRows.{asked_for_rows, row_for, rows_for, row_at, with_rows_for, IsNarrowTerm, IsOneBeyond, AreValuesIn, IsRowFor, IsTabling}
use Rattle.passes.specs.LiveSymbols.{Given, given_at, beyond_of, breaks_among, widest_of, is_settled, IsLiveOver, IsLeastBeyond}
use Rattle.passes.specs.Plans.{IsUse}
use Rattle.passes.proofs.GroupingSteps.{taken_more}
use Rattle.passes.proofs.ListPlaces.{all_at, map_at}
use Rattle.passes.proofs.LiveStages.{given-more, IsNarrow, all_narrow}
use Rattle.pass_laws.proofs.NamedTerms.{all_apart}
use Rattle.passes.proofs.ValuedTerms.{beyond_fits, beyond_settled, beyond_least, settled_stays}

-- ---- an assertion's terms

module _ (t : Formulas) (m : Model) (n : ℕ) where
  abbrev asked : Term → Asked
  asked u = record { number = n; term = u }

  abbrev fit : Term → Bool
  fit u = fits m u no_variables

  -- one first
  moved : (qs : List Asked) (u : Term) (us : List Term) → (qs ++ asked u ∷ []) ++ asked_for n us ≡ qs ++ asked_for n (u ∷ us)
  moved qs u us = append_assoc qs (asked u ∷ []) (asked_for n us)

  all_settled : (us : List Term) (qs : List Asked) (o : Option Beyond) → is_settled o n ≡ true → IsLeastBeyond t m qs o → IsLeastBeyond t m (qs ++ asked_for n us) o
  all_settled [] qs o settled is = subst (λ xs. IsLeastBeyond t m xs o) (sym (append-nil qs)) is
  all_settled (u ∷ us) qs o settled is =
      subst (λ xs. IsLeastBeyond t m xs o) (moved qs u us) (all_settled us (qs ++ asked u ∷ []) o settled (beyond_settled t m qs (asked u) o settled is))

  all_fit : (us : List Term) (qs : List Asked) (o : Option Beyond) → list_all fit us ≡ true → IsLeastBeyond t m qs o → IsLeastBeyond t m (qs ++ asked_for n us) o
  all_fit [] qs o fits is = subst (λ xs. IsLeastBeyond t m xs o) (sym (append-nil qs)) is
  all_fit (u ∷ us) qs o fits is =
      let parts = both_true (fit u) (list_all fit us) fits in
      subst (λ xs. IsLeastBeyond t m xs o) (moved qs u us) (all_fit us (qs ++ asked u ∷ []) o parts.1 (beyond_fits t m qs (asked u) o parts.0 is))

  least_stays : (k : NodeId) (us : List Term) (qs : List Asked) → beyond_of m qs ≡ Some n → beyond_of m (qs ++ asked_for n us) ≡ Some n
  least_stays k [] qs is = ap (beyond_of m) (append-nil qs) ∙ is
  least_stays k (u ∷ us) qs is =
      sym (ap (beyond_of m) (moved qs u us))
      ∙ least_stays k us (qs ++ asked u ∷ []) (settled_stays t m qs (asked u) (record { assertion = n; node = k }) (let le : n ≤ n = omega arith in le-leb n n le) is (fit u) refl)

  least_found : (k : NodeId) (us : List Term) (qs : List Asked) (o : Option Beyond) → is_settled o n ≡ false → IsLeastBeyond t m qs o → list_all fit us ≡ false → beyond_of m (qs ++ asked_for n us) ≡ Some n
  least_found k [] qs o settled is some = absurd cc
  least_found k (u ∷ us) qs o settled is some = by (least_found k us (qs ++ asked u ∷ []) o settled) (fit u) refl
    where
      by : (IsLeastBeyond t m (qs ++ asked u ∷ []) o → list_all fit us ≡ false → beyond_of m ((qs ++ asked u ∷ []) ++ asked_for n us) ≡ Some n) → (b : Bool) → fit u ≡ b → beyond_of m (qs ++ asked_for n (u ∷ us)) ≡ Some n
      by rest true h =
          sym (ap (beyond_of m) (moved qs u us))
          ∙ rest (beyond_fits t m qs (asked u) o h is) (ap (λ b. b && list_all fit us) (sym h) ∙ some)
      by rest false h = sym (ap (beyond_of m) (moved qs u us)) ∙ least_stays k us (qs ++ asked u ∷ []) (beyond_least t m qs (asked u) o settled is h)

  breaks_in_one : (w : Term) (us : List Term) → list_any (λ u. breaks m w u no_variables) us ≡ true → breaks_among m (asked_for n us) n w ≡ true
  breaks_in_one w us h = same us ∙ h
    where
      same : (xs : List Term) → breaks_among m (asked_for n xs) n w ≡ list_any (λ u. breaks m w u no_variables) xs
      same [] = refl
      same (x ∷ xs) = λ i. (eq-eqb n n refl i && breaks m w x no_variables) || same xs i

  one_beyond : (k : NodeId) (us : List Term) (qs : List Asked) (o : Option Beyond) → is_settled o n ≡ false → IsLeastBeyond t m qs o → list_all fit us ≡ false → IsNode t k
      → list_any (λ u. breaks m (tree t k) u no_variables) us ≡ true → IsLeastBeyond t m (qs ++ asked_for n us) (Some (record { assertion = n; node = k }))
  one_beyond k us qs o settled is some node there = (
    least_found k us qs o settled is some,
    node,
    list_any-append (λ (a : Asked). (a.number == n) && breaks m (tree t k) a.term no_variables) qs (asked_for n us)
        ∙ right_true (breaks_among m qs n (tree t k)) (breaks_among m (asked_for n us) n (tree t k)) (breaks_in_one (tree t k) us there),
  )

-- ---- values of terms

module _ (m : Model) where
  pub values_pushed : (us : List Term) (vs : List Value) (u : Term) (v : Value) → AreValuesIn m us vs → IsValueOf m no_variables u v → AreValuesIn m (us ++ u ∷ []) (vs ++ v ∷ [])
  values_pushed [] [] u v are is = (is, tt)
  values_pushed [] (w ∷ vs) u v are is = absurd are
  values_pushed (x ∷ us) [] u v are is = absurd are
  values_pushed (x ∷ us) (w ∷ vs) u v are is = (are.0, values_pushed us vs u v are.1 is)

  pub values_fit : (us : List Term) (vs : List Value) → AreValuesIn m us vs → list_all (λ u. fits m u no_variables) us ≡ true
  values_fit [] vs are = refl
  values_fit (u ∷ us) [] are = absurd are
  values_fit (u ∷ us) (v ∷ vs) are = and_true (fits m u no_variables) (list_all (λ x. fits m x no_variables) us) are.0.within (values_fit us vs are.1)

  values_mean : (us : List Term) (vs : List Value) → AreValuesIn m us vs → meanings vs ≡ map (λ u. val m u no_variables) us
  values_mean [] [] are = refl
  values_mean [] (v ∷ vs) are = absurd are
  values_mean (u ∷ us) [] are = absurd are
  values_mean (u ∷ us) (v ∷ vs) are = λ i. are.0.value i ∷ values_mean us vs are.1 i

  values_held : (us : List Term) (vs : List Value) → AreValuesIn m us vs → All IsHeld vs
  values_held [] [] are = All-nil IsHeld
  values_held [] (v ∷ vs) are = absurd are
  values_held (u ∷ us) [] are = absurd are
  values_held (u ∷ us) (v ∷ vs) are = All-cons IsHeld v vs are.0.held (values_held us vs are.1)

  values_valid : (us : List Term) (vs : List Value) (ss : List Sort) → AreValuesIn m us vs → map sort_of us ≡ map (λ s. Some s) ss → are_values ss m.sizes (meanings vs) ≡ true
  values_valid [] [] [] are sorts = refl
  values_valid [] [] (s ∷ ss) are sorts = absurd cc
  values_valid [] (v ∷ vs) ss are sorts = absurd are
  values_valid (u ∷ us) [] ss are sorts = absurd are
  values_valid (u ∷ us) (v ∷ vs) [] are sorts = absurd cc
  values_valid (u ∷ us) (v ∷ vs) (s ∷ ss) are sorts =
      let here : sort_of u ≡ Some s = cc in
      let rest : map sort_of us ≡ map (λ x. Some x) ss = cc in
      and_true (is_value s m.sizes (meaning v)) (are_values ss m.sizes (meanings vs)) (sym (ap (λ o. is_value (sort_or_bool o) m.sizes (meaning v)) here) ∙ are.0.valid) (values_valid us vs ss are.1 rest)

-- one that leaves the range among them
pub one_leaves : (m : Model) (us : List Term) (i : ℕ) (u : Term) → slice_get us i ≡ Some u → fits m u no_variables ≡ false → list_all (λ x. fits m x no_variables) us ≡ false
one_leaves m [] i u at h = absurd cc
one_leaves m (x ∷ us) zero u at h =
    let is : x ≡ u = cc in
    ap (λ b. b && list_all (λ y. fits m y no_variables) us) (ap (λ y. fits m y no_variables) is ∙ h)
one_leaves m (x ∷ us) (suc i) u at h = ap (λ b. fits m x no_variables && b) (one_leaves m us i u at h) ∙ never (fits m x no_variables)
  where
    never : (b : Bool) → (b && false) ≡ false
    never true = refl
    never false = refl

pub one_breaks : (p : Term → Bool) (us : List Term) (i : ℕ) (u : Term) → slice_get us i ≡ Some u → p u ≡ true → list_any p us ≡ true
one_breaks p [] i u at h = absurd cc
one_breaks p (x ∷ us) zero u at h =
    let is : x ≡ u = cc in
    left_true (p x) (list_any p us) (ap p is ∙ h)
one_breaks p (x ∷ us) (suc i) u at h = right_true (p x) (list_any p us) (one_breaks p us i u at h)

-- ---- a row

result_sort : (f : Symbol) (ts : Terms) → IsWellSorted (apply (symbol f) ts) → sort_of (apply (symbol f) ts) ≡ Some f.result
result_sort f ts is =
    let to = the_sort (sort_of (apply (symbol f) ts)) (both_true _ (is_regular (apply (symbol f) ts)) is).0 in
    let parts = applied (symbol f) ts to.0 to.1 in
    let taken = rank-takes (symbol f) parts.sorts to.0 parts.rank in
    to.1 ∙ ap Some taken.1

module _ (t : Formulas) (m : ModelLists) (one : LiveSymbol) (over : IsLiveOver t one) (found : Use) (is : IsUse t one.term found) (ops : Operands)
    (there : ops (symbol_at t one.symbol) ≡ trees_at t found.operands.items) (r : NewRow) (function : r.function ≡ found.function)
    (keys : AreValuesIn (model_at t m) (trees_at t found.operands.items) r.keys.items)
    (result : meaning r.value ≡ val (model_at t m) (constant (symbol_at t one.symbol)) no_variables) where
  abbrev v : Symbol
  v = symbol_at t one.symbol

  abbrev f : Symbol
  f = symbol_at t found.function

  pub row_made : row_for (model_at t m) ops v (tree t one.term) ≡ row_at t r ∷ []
  row_made =
      ap (row_for (model_at t m) ops v) is.applied
      ∙ (λ i. (
        symbol_at t (sym function i),
        record {
          keys = (ap (map (λ u. val (model_at t m) u no_variables)) there ∙ sym (values_mean (model_at t m) (trees_at t found.operands.items) r.keys.items keys)) i;
          result = sym result i;
        },
      ) ∷ [])

  pub row_fits : IsWellSorted (tree t one.term) → IsValue v.result (model_at t m).sizes r.value → IsRowFor t m r
  row_fits sorted value =
      let whole : sort_of (tree t one.term) ≡ Some f.result = ap sort_of is.applied ∙ result_sort f (terms (operands (tree t one.term))) (subst IsWellSorted is.applied sorted) in
      let to : v.result ≡ f.result = over.2 ∙ ap sort_or_bool whole in
      record {
        function = subst (λ s. s.0 < length t.symbols) (sym function) is.function;
        some = subst (λ s. 0 < length (symbol_at t s).args) (sym function) is.some;
        keys = subst (λ s. AreValues (symbol_at t s).args (model_at t m).sizes r.keys.items) (sym function)
            (record {
              held = values_held (model_at t m) (trees_at t found.operands.items) r.keys.items keys;
              valid = values_valid (model_at t m) (trees_at t found.operands.items) r.keys.items f.args keys is.sorts;
            });
        value = subst (λ s. IsValue (symbol_at t s).result (model_at t m).sizes r.value) (sym function) (subst (λ s. IsValue s (model_at t m).sizes r.value) to value);
      }

-- ---- one application more

module _ (t : Formulas) (m : ModelLists) (ops : Operands) (gs : List Given) (one : LiveSymbol) (v : Tabling) (is : IsTabling t m ops gs v) where
  abbrev given : Given
  given = given_at t one

  abbrev us : List Term
  us = ops (symbol_at t one.symbol)

  abbrev before : List Asked
  before = asked_for_rows (Some ops) gs

  asked_more : asked_for_rows (Some ops) (gs ++ given ∷ []) ≡ before ++ asked_for one.assertion us
  asked_more = flat_map-append (λ (g : Given). asked_for g.number (ops g.symbol)) gs (given ∷ []) ∙ ap (λ qs. before ++ qs) (append-nil (asked_for one.assertion us))

  rows_more : rows_for (model_at t m) ops (gs ++ given ∷ []) ≡ rows_for (model_at t m) ops gs ++ row_for (model_at t m) ops (symbol_at t one.symbol) (tree t one.term)
  rows_more =
      flat_map-append (λ (g : Given). row_for (model_at t m) ops g.symbol g.term) gs (given ∷ [])
      ∙ ap (λ rs. rows_for (model_at t m) ops gs ++ rs) (append-nil (row_for (model_at t m) ops (symbol_at t one.symbol) (tree t one.term)))

  with_more : (o : Option Beyond) → IsLeastBeyond t (model_at t m) (before ++ asked_for one.assertion us) o → IsLeastBeyond t (model_at t m) (asked_for_rows (Some ops) (gs ++ given ∷ [])) o
  with_more o h = subst (λ qs. IsLeastBeyond t (model_at t m) qs o) (sym asked_more) h

  pub tabling_settled : is_settled v.beyond one.assertion ≡ true → IsTabling t m ops (gs ++ given ∷ []) v
  tabling_settled settled = record {
    beyond = with_more v.beyond (all_settled t (model_at t m) one.assertion us before v.beyond settled is.beyond);
    rows = λ none. contrary (is_settled v.beyond one.assertion) settled (ap (λ o. is_settled o one.assertion) none);
    each = is.each;
  }

  pub tabling_row : list_all (λ u. fits (model_at t m) u no_variables) us ≡ true → (r : NewRow) → row_for (model_at t m) ops (symbol_at t one.symbol) (tree t one.term) ≡ row_at t r ∷ [] → IsRowFor t m r
      → (w : Tabling) → w.beyond ≡ v.beyond → w.rows.items ≡ v.rows.items ++ r ∷ [] → IsTabling t m ops (gs ++ given ∷ []) w
  tabling_row fit r made fits w same pushed = record {
    beyond = subst (IsLeastBeyond t (model_at t m) (asked_for_rows (Some ops) (gs ++ given ∷ []))) (sym same) (with_more v.beyond (all_fit t (model_at t m) one.assertion us before v.beyond fit is.beyond));
    rows = λ none.
        ap (map (row_at t)) pushed
        ∙ map-append (row_at t) v.rows.items (r ∷ [])
        ∙ (λ i. is.rows (sym same ∙ none) i ++ sym made i)
        ∙ sym rows_more;
    each = subst (All (IsRowFor t m)) (sym pushed) (All-push (IsRowFor t m) v.rows.items r is.each fits);
  }

  pub tabling_beyond : is_settled v.beyond one.assertion ≡ false → (k : NodeId) → list_all (λ u. fits (model_at t m) u no_variables) us ≡ false → IsNode t k
      → list_any (λ u. breaks (model_at t m) (tree t k) u no_variables) us ≡ true → (w : Tabling) → w.beyond ≡ Some (record { assertion = one.assertion; node = k }) → w.rows ≡ v.rows
      → IsTabling t m ops (gs ++ given ∷ []) w
  tabling_beyond settled k some node there w least kept = record {
    beyond =
        subst (IsLeastBeyond t (model_at t m) (asked_for_rows (Some ops) (gs ++ given ∷ []))) (sym least)
        (with_more (Some (record { assertion = one.assertion; node = k })) (one_beyond t (model_at t m) one.assertion k us before v.beyond settled is.beyond some node there));
    rows = λ none. absurd (let no : Some (record { assertion = one.assertion; node = k }) ≡ None = sym least ∙ none in cc);
    each = subst (λ rs. All (IsRowFor t m) rs.items) (sym kept) is.each;
  }

-- ---- lists of nodes and of live symbols, with one more

pub asked-taken : (t : Formulas) (n : ℕ) (ks : List NodeId) (i : ℕ) (k : NodeId) → slice_get ks i ≡ Some k → (qs : List Asked)
    → qs ++ asked_for n (trees_at t (take (i + 1) ks)) ≡ (qs ++ asked_for n (trees_at t (take i ks))) ++ record { number = n; term = tree t k } ∷ []
asked-taken t n ks i k at qs =
    ap (λ xs. qs ++ asked_for n (trees_at t xs)) (taken_more ks i k at)
    ∙ ap (λ us. qs ++ asked_for n us) (map-append (tree_in t.trees) (take i ks) (k ∷ []))
    ∙ ap (λ rs. qs ++ rs) (map-append (λ (u : Term). record { number = n; term = u }) (trees_at t (take i ks)) (tree t k ∷ []))
    ∙ sym (append_assoc qs (asked_for n (trees_at t (take i ks))) (record { number = n; term = tree t k } ∷ []))

pub rows-taken : (t : Formulas) (ops : Operands) (ls : List LiveSymbol) (i : ℕ) (a : LiveSymbol) → slice_get ls i ≡ Some a → (qs : List Asked)
    → qs ++ asked_for_rows (Some ops) (map (given_at t) (take (i + 1) ls)) ≡ (qs ++ asked_for_rows (Some ops) (map (given_at t) (take i ls))) ++ asked_for a.assertion (ops (symbol_at t a.symbol))
rows-taken t ops ls i a at qs =
    ap (λ gs. qs ++ asked_for_rows (Some ops) gs) (given-more t ls i a at)
    ∙ ap (λ rs. qs ++ rs)
    (flat_map-append (λ (g : Given). asked_for g.number (ops g.symbol)) (map (given_at t) (take i ls)) (given_at t a ∷ [])
    ∙ ap (λ rs. asked_for_rows (Some ops) (map (given_at t) (take i ls)) ++ rs) (append-nil (asked_for a.assertion (ops (symbol_at t a.symbol)))))
    ∙ sym (append_assoc qs (asked_for_rows (Some ops) (map (given_at t) (take i ls))) (asked_for a.assertion (ops (symbol_at t a.symbol))))

narrow_terms : (n : ℕ) (us : List Term) → All IsNarrow (asked_for n us) → All IsNarrowTerm us
narrow_terms n [] all = All-nil IsNarrowTerm
narrow_terms n (u ∷ us) all =
    let q : Asked = record { number = n; term = u } in
    All-cons IsNarrowTerm u us (All-head IsNarrow q (asked_for n us) all) (narrow_terms n us (All-tail IsNarrow q (asked_for n us) all))

pub narrow_operands : (t : Formulas) (ops : Operands) (ls : List LiveSymbol) (i : ℕ) (a : LiveSymbol) → slice_get ls i ≡ Some a → widest_of (asked_for_rows (Some ops) (map (given_at t) ls)) ≡ None
    → All IsNarrowTerm (ops (symbol_at t a.symbol))
narrow_operands t ops ls i a at none =
    narrow_terms a.assertion (ops (symbol_at t a.symbol))
    (all_at (λ (g : Given). All IsNarrow (asked_for g.number (ops g.symbol))) (map (given_at t) ls) i (given_at t a) (map_at (given_at t) ls i a at)
    (all_apart IsNarrow (λ (g : Given). asked_for g.number (ops g.symbol)) (map (given_at t) ls) (all_narrow (asked_for_rows (Some ops) (map (given_at t) ls)) none)))

-- ---- single nodes

pub node_values : (t : Formulas) (m : Model) (ks : List NodeId) (i : ℕ) (k : NodeId) → slice_get ks i ≡ Some k → (vs ws : List Value) (v : Value) → ws ≡ vs ++ v ∷ []
    → AreValuesIn m (trees_at t (take i ks)) vs → IsValueOf m no_variables (tree t k) v → AreValuesIn m (trees_at t (take (i + 1) ks)) ws
node_values t m ks i k at vs ws v pushed are is =
    subst (AreValuesIn m (trees_at t (take (i + 1) ks))) (sym pushed)
    (subst (λ us. AreValuesIn m us (vs ++ v ∷ [])) (sym (ap (trees_at t) (taken_more ks i k at) ∙ map-append (tree_in t.trees) (take i ks) (k ∷ [])))
    (values_pushed m (trees_at t (take i ks)) vs (tree t k) v are is))

pub node_beyond : (t : Formulas) (m : Model) (ks : List NodeId) (i : ℕ) (k : NodeId) → slice_get ks i ≡ Some k → (e : ValueFault) → Values t m (tree t k) (Err e) → IsOneBeyond t m ks e
node_beyond t m ks i k at (BeyondRange n) is =
    let there : slice_get (trees_at t ks) i ≡ Some (tree t k) = map_at (tree_in t.trees) ks i k at in (
      one_leaves m (trees_at t ks) i (tree t k) there is.beyond,
      is.node,
      one_breaks (λ u. breaks m (tree t n) u no_variables) (trees_at t ks) i (tree t k) there is.breaks_there,
    )
node_beyond t m ks i k at NoMemory is = tt

pub narrow_node : (t : Formulas) (ks : List NodeId) (i : ℕ) (k : NodeId) → slice_get ks i ≡ Some k → All IsNarrowTerm (trees_at t ks) → IsNarrowTerm (tree t k)
narrow_node t ks i k at all = all_at IsNarrowTerm (trees_at t ks) i (tree t k) (map_at (tree_in t.trees) ks i k at) all

-- ---- rows by sizes alone

pub rows_fit : (t : Formulas) (m n : ModelLists) (rs : List NewRow) → n.sizes ≡ m.sizes → All (IsRowFor t m) rs → All (IsRowFor t n) rs
rows_fit t m n rs same all i d less =
    let is : IsRowFor t m (get_or rs i d) = all i d less in
    record {
      function = is.function;
      some = is.some;
      keys = subst (λ ss. AreValues (symbol_at t (get_or rs i d).function).args (sizes_by t.sorts ss) (get_or rs i d).keys.items) (sym same) is.keys;
      value = subst (λ ss. IsValue (symbol_at t (get_or rs i d).function).result (sizes_by t.sorts ss) (get_or rs i d).value) (sym same) is.value;
    }

pub rows-more : (t : Formulas) (items left : List NewRow) (r : NewRow) → items ≡ left ++ r ∷ [] → (m n : Model) → n ≡ with_rows_for (row_at t r ∷ []) m
    → with_rows_for (map (row_at t) (reverse left)) n ≡ with_rows_for (map (row_at t) (reverse items)) m
rows-more t items left r is m n added =
    ap (with_rows_for (map (row_at t) (reverse left))) added
    ∙ ap (λ xs. with_rows_for (map (row_at t) xs) m) (sym (ap reverse is ∙ reverse-append left (r ∷ [])))

mapped_some : {A B : Type 0} (f : A → B) (o : Option A) → is_some (option_map f o) ≡ is_some o
mapped_some f (Some x) = refl
mapped_some f None = refl

absent : {A : Type 0} (o : Option A) → is_some o ≡ false → o ≡ None
absent (Some x) h = absurd cc
absent None h = refl

-- a function that isn't there gets no row
pub row-absent : (m : Model) (f : Symbol) (ks : List plain.Value) (v : plain.Value) {A : Type 0} (o : Option A) (g : A → Graph) → option_map g o ≡ m.graphs f → is_some o ≡ false
    → m ≡ with_row_for f ks v m
row-absent m f ks v o g is none = λ i. record { sizes = m.sizes; graphs = λ h. at h (symbol_eq h f) refl i; div_by_zero = m.div_by_zero; mod_by_zero = m.mod_by_zero }
  where
    gone : m.graphs f ≡ None
    gone = absent (m.graphs f) (ap is_some (sym is) ∙ mapped_some g o ∙ none)

    at : (h : Symbol) (b : Bool) → symbol_eq h f ≡ b → m.graphs h ≡ cond (symbol_eq h f) (option_map (row_added f.args m.sizes ks v) (m.graphs f)) (m.graphs h)
    at h true same =
        ap m.graphs ((Decides-symbol_eq h f).0 same)
        ∙ gone
        ∙ sym (ap (option_map (row_added f.args m.sizes ks v)) gone)
        ∙ sym (ap (λ b. cond b (option_map (row_added f.args m.sizes ks v) (m.graphs f)) (m.graphs h)) same)
    at h false other = sym (ap (λ b. cond b (option_map (row_added f.args m.sizes ks v) (m.graphs f)) (m.graphs h)) other)

-- ---- the value of a constant

no_row : (args : List Sort) (sizes : Sizes) (rows : List Row) (otherwise : plain.Value) → rows_allowed args rows ≡ true → row_value (λ r. all_same args sizes r.keys []) rows otherwise ≡ otherwise
no_row args sizes [] otherwise allowed = refl
no_row [] sizes (r ∷ rows) otherwise allowed = absurd cc
no_row (s ∷ ss) sizes (r ∷ rows) otherwise allowed = ap (λ b. cond b r.result (row_value (λ q. all_same (s ∷ ss) sizes q.keys []) rows otherwise)) (none r.keys) ∙ no_row (s ∷ ss) sizes rows otherwise (allow rows)
  where
    none : (ks : List plain.Value) → all_same (s ∷ ss) sizes ks [] ≡ false
    none [] = refl
    none (k ∷ ks) = refl

    allow : (rs : List Row) → rows_allowed (s ∷ ss) rs ≡ true
    allow [] = refl
    allow (q ∷ rs) = refl

valued_by : (f : Symbol) (sizes : Sizes) (o : Option Graph) → IfSome o (λ g. IsTrue (is_graph f sizes g)) → graph_or_default f sizes o [] ≡ unwrap_or (option_map (λ g. g.otherwise) o) (default_value f.result)
valued_by f sizes None is = refl
valued_by f sizes (Some g) is =
    let rows : Bool = list_all (λ r. are_values f.args sizes r.keys && is_value f.result sizes r.result) g.rows in
    let first = both_true (is_value f.result sizes g.otherwise) (rows && (distinct_rows f.args sizes g.rows && rows_allowed f.args g.rows)) is in
    let second = both_true rows (distinct_rows f.args sizes g.rows && rows_allowed f.args g.rows) first.1 in
    no_row f.args sizes g.rows g.otherwise (both_true (distinct_rows f.args sizes g.rows) (rows_allowed f.args g.rows) second.1).1

pub constant_valued : (m : Model) → IsModel m → (f : Symbol) (v : plain.Value) → option_map (λ g. g.otherwise) (m.graphs f) ≡ Some v → val m (constant f) no_variables ≡ v
constant_valued m valid f v is = valued_by f m.sizes (m.graphs f) (valid.graphs f) ∙ ap (λ o. unwrap_or o (default_value f.result)) is
