-- The values of terms that were found so far, and the least assertion with one beyond the range, with one term more.
use Rattle.std.proofs.Common.{◌≡◌, ◌∙◌, sym, ap, refl, subst, ℕ, ◌<◌, ◌≤◌, ◌==◌, min, Bool, true, false, not, ◌&&◌, List, [], ◌∷◌, ◌++◌, map, nat_le, Option, Some, None, All, IsTrue, arith}
use Rattle.std.proofs.lemmas.Bool.{leb-true, leb-false, eq-eqb}
use Rattle.std.proofs.lemmas.List.{map-append}
use Rattle.std.proofs.lemmas.List.Elements.{All-push}
use Rattle.std.proofs.lemmas.List.Folds.{list_any-append}
use Rattle.smt_terms.specs.declared.ids.NodeId.{NodeId}
use Rattle.smt_terms.specs.Models.{Model}
use Rattle.smt_terms.specs.Term.{Term}
use Rattle.smt_terms.specs.Val.{no_variables, val, fits}
use Rattle.smt_terms.specs.Values.{is_value}
use Rattle.smt_terms.proofs.Tests.{left_true, right_true, and_true, contrary}
use Rattle.smt_values.specs.Meaning.{meaning}
use Rattle.smt_values.specs.declared.value.Value.{Value}
use Rattle.term_table.specs.Formulas.{Formulas, tree, symbol_at}
use Rattle.models.specs.ModelView.{ModelLists, model_at}
use Rattle.evaluation.specs.Evaluated.{breaks, IsValueOf, IsBeyond}
use Rattle.passes.specs.declared.carrying.Beyond.{Beyond}
use Rattle.passes.specs.declared.searching.LiveSymbol.{LiveSymbol}
use Rattle.passes.specs.declared.carrying.Valuation.{Valuation}
use Rattle.pass_laws.specs.Carry.{Asked}
use Rattle.passes.specs.LiveSymbols.{Given, given_at, asked_in, beyond_of, breaks_among, valued_at, is_settled, IsLiveOver, IsLeastBeyond, IsValueFor, IsValuation}
use Rattle.passes.proofs.LeastAsked.{picked-passed, picked-other}

-- ---- the least assertion beyond the range, with one term more

module _ (t : Formulas) (m : Model) (qs : List Asked) (q : Asked) where
  abbrev pub leaves : Asked → Bool
  leaves a = not (fits m a.term no_variables)

  breaks_still : (i : ℕ) (u : Term) → breaks_among m qs i u ≡ true → breaks_among m (qs ++ q ∷ []) i u ≡ true
  breaks_still i u h =
      list_any-append (λ (a : Asked). (a.number == i) && breaks m u a.term no_variables) qs (q ∷ [])
      ∙ left_true (breaks_among m qs i u) (breaks_among m (q ∷ []) i u) h

  breaks_here : (u : Term) → breaks m u q.term no_variables ≡ true → breaks_among m (qs ++ q ∷ []) q.number u ≡ true
  breaks_here u h =
      list_any-append (λ (a : Asked). (a.number == q.number) && breaks m u a.term no_variables) qs (q ∷ [])
      ∙ right_true (breaks_among m qs q.number u) (breaks_among m (q ∷ []) q.number u)
      (left_true ((q.number == q.number) && breaks m u q.term no_variables) false (and_true (q.number == q.number) (breaks m u q.term no_variables) (eq-eqb q.number q.number refl) h))

  -- one that fits changes nothing
  pub beyond_fits : (o : Option Beyond) → fits m q.term no_variables ≡ true → IsLeastBeyond t m qs o → IsLeastBeyond t m (qs ++ q ∷ []) o
  beyond_fits None fit is = picked-other leaves qs q None (ap not fit) is
  beyond_fits (Some b) fit is = (picked-other leaves qs q (Some b.assertion) (ap not fit) is.0, is.1, breaks_still b.assertion (tree t b.node) is.2)

  pub settled_stays : (b : Beyond) → nat_le b.assertion q.number ≡ true → beyond_of m qs ≡ Some b.assertion → (f : Bool) → fits m q.term no_variables ≡ f → beyond_of m (qs ++ q ∷ []) ≡ Some b.assertion
  settled_stays b settled is true fit = picked-other leaves qs q (Some b.assertion) (ap not fit) is
  settled_stays b settled is false fit =
      let le : b.assertion ≤ q.number = leb-true b.assertion q.number settled in
      picked-passed leaves qs q (Some b.assertion) (ap not fit) is ∙ ap Some (let least : min b.assertion q.number ≡ b.assertion = omega arith in least)

  -- neither does one that needn't be valued
  pub beyond_settled : (o : Option Beyond) → is_settled o q.number ≡ true → IsLeastBeyond t m qs o → IsLeastBeyond t m (qs ++ q ∷ []) o
  beyond_settled None settled is = absurd cc
  beyond_settled (Some b) settled is =
      (settled_stays b settled is.0 (fits m q.term no_variables) refl, is.1, breaks_still b.assertion (tree t b.node) is.2)

  pub beyond_least : (o : Option Beyond) → is_settled o q.number ≡ false → IsLeastBeyond t m qs o → fits m q.term no_variables ≡ false → beyond_of m (qs ++ q ∷ []) ≡ Some q.number
  beyond_least None settled is fit = picked-passed leaves qs q None (ap not fit) is
  beyond_least (Some b) settled is fit =
      let more : q.number < b.assertion = leb-false b.assertion q.number settled in
      picked-passed leaves qs q (Some b.assertion) (ap not fit) is.0 ∙ ap Some (let least : min b.assertion q.number ≡ q.number = omega arith in least)

  -- one that leaves the range in an assertion of a lesser number
  beyond_found : (o : Option Beyond) (k : NodeId) → is_settled o q.number ≡ false → IsLeastBeyond t m qs o → IsBeyond t m q.term k → IsLeastBeyond t m (qs ++ q ∷ []) (Some (record { assertion = q.number; node = k }))
  beyond_found o k settled is found = (beyond_least o settled is found.beyond, found.node, breaks_here (tree t k) found.breaks_there)

-- ---- the values, with one more

asked-more : (gs : List Given) (g : Given) → asked_in (gs ++ g ∷ []) ≡ asked_in gs ++ record { number = g.number; term = g.term } ∷ []
asked-more gs g = map-append (λ (h : Given). let q : Asked = record { number = h.number; term = h.term } in q) gs (g ∷ [])

module _ (t : Formulas) (m : ModelLists) (gs : List Given) (one : LiveSymbol) (over : IsLiveOver t one) (v : Valuation) (is : IsValuation t m gs v) where
  abbrev given : Given
  given = given_at t one

  abbrev asked : Asked
  asked = record { number = one.assertion; term = tree t one.term }

  with_more : (o : Option Beyond) → IsLeastBeyond t (model_at t m) (asked_in gs ++ asked ∷ []) o → IsLeastBeyond t (model_at t m) (asked_in (gs ++ given ∷ [])) o
  with_more o h = subst (λ qs. IsLeastBeyond t (model_at t m) qs o) (sym (asked-more gs given)) h

  pub valuation_settled : is_settled v.beyond one.assertion ≡ true → IsValuation t m (gs ++ given ∷ []) v
  valuation_settled settled = record {
    beyond = with_more v.beyond (beyond_settled t (model_at t m) (asked_in gs) asked v.beyond settled is.beyond);
    values = λ none. contrary (is_settled v.beyond one.assertion) settled (ap (λ o. is_settled o one.assertion) none);
    each = is.each;
  }

  pub valuation_value : (value : Value) → IsValueOf (model_at t m) no_variables (tree t one.term) value → (w : Valuation) → w.beyond ≡ v.beyond → w.values.items ≡ v.values.items ++ (one.symbol, value) ∷ []
      → IsValuation t m (gs ++ given ∷ []) w
  valuation_value value found w same pushed = record {
    beyond = subst (IsLeastBeyond t (model_at t m) (asked_in (gs ++ given ∷ []))) (sym same) (with_more v.beyond (beyond_fits t (model_at t m) (asked_in gs) asked v.beyond found.within is.beyond));
    values = λ none.
        ap (map (valued_at t)) pushed
        ∙ map-append (valued_at t) v.values.items ((one.symbol, value) ∷ [])
        ∙ (λ i. is.values (sym same ∙ none) i ++ (symbol_at t one.symbol, found.value i) ∷ [])
        ∙ sym (map-append (λ (g : Given). (g.symbol, val (model_at t m) g.term no_variables)) gs (given ∷ []));
    each =
        subst (All (IsValueFor t m)) (sym pushed)
        (All-push (IsValueFor t m) v.values.items (one.symbol, value) is.each
        (over.0, record { held = found.held; valid = subst (λ s. IsTrue (is_value s (model_at t m).sizes (meaning value))) (sym over.2) found.valid }));
  }

  pub valuation_beyond : is_settled v.beyond one.assertion ≡ false → (k : NodeId) → IsBeyond t (model_at t m) (tree t one.term) k → (w : Valuation) → w.beyond ≡ Some (record { assertion = one.assertion; node = k }) → w.values ≡ v.values
      → IsValuation t m (gs ++ given ∷ []) w
  valuation_beyond settled k found w least kept = record {
    beyond = subst (IsLeastBeyond t (model_at t m) (asked_in (gs ++ given ∷ []))) (sym least) (with_more (Some (record { assertion = one.assertion; node = k })) (beyond_found t (model_at t m) (asked_in gs) asked v.beyond k settled is.beyond found));
    values = λ none. absurd (let no : Some (record { assertion = one.assertion; node = k }) ≡ None = sym least ∙ none in cc);
    each = subst (λ vs. All (IsValueFor t m) vs.items) (sym kept) is.each;
  }
