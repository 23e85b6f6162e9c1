-- The values of a view in a model: the terms at its holes are values of its cells, and over them it has the value of its term.
use Rattle.std.proofs.Common.{◌≡◌, ℕ, zero, suc, ◌+◌, arith, true, ◌&&◌, ◌||◌, inl, inr, List, [], ◌∷◌, map, Option, Some, None, refl, ap, sym, ◌∙◌, subst}
use Rattle.std.specs.Prelude.{slice_get, option_map, unwrap_or, is_some, IfSome, IsTrue}
use Rattle.std.specs.List.{AllByRecursion}
use Rattle.std.proofs.lemmas.Option.{cond_some, same_Some, slice_get-map, get_or_from_slice_get}
use Rattle.smt_terms.specs.declared.op.Op.{Op}
use Rattle.smt_terms.specs.declared.op.Op.TheVariants.{Truth, Whole, Bits}
use Rattle.smt_terms.specs.Sorts.{Sort, bool}
use Rattle.smt_terms.specs.Term.{op, Term, apply, Terms, none, ◌⨾◌, list}
use Rattle.smt_terms.specs.Constants.{literal_value}
use Rattle.smt_terms.specs.Rank.{sorts_of, IsWellSorted}
use Rattle.smt_terms.specs.Values.{Value, is_value}
use Rattle.smt_terms.specs.Operators.{Background, op_value}
use Rattle.smt_terms.specs.Models.{Model, background, IsModel}
use Rattle.smt_terms.specs.Val.{Env, val, vals}
use Rattle.smt_terms.specs.Laws.{IsEnv}
use Rattle.smt_terms.proofs.Sorted.{applied, sorted}
use Rattle.smt_terms.proofs.Valid.{val_valid}
use Rattle.rule_book.specs.View.{TermCell, Place, is_theory, is_literal, is_short, shown_operand, shown_below, operands_if, places_below, all_below, places, holes_of, number_in, cell_of, view_over}
use Rattle.rule_book.specs.Soundness.{cells_under, value_over, view_value}
use Rattle.rule_book.specs.RuleLaws.{no_term, values_at, HasViewValue}
use Rattle.rule_book.proofs.Holes.{sort_of_term, IsNumbered, AreNumbered, places_numbered}
use Rattle.rule_book.proofs.ViewCells.{level, level_at, cells, level_sorts, under_root, under_operand}
use Rattle.rule_book.proofs.SortedPlaces.{all-append, all-left, all-right, all-at, at-append, has_sort, all_sorted, places_sorted, sort-some}

-- ---- the value of an operator over its operands

pub sorts-list : (ts : Terms) (ss : List Sort) → sorts_of ts ≡ Some ss → map sort_of_term (list ts) ≡ ss
sorts-list none ss has = cc
sorts-list (t ⨾ ts) ss has =
    let parts = sorted t ts ss has in
    (λ i. unwrap_or (parts.first i) bool ∷ sorts-list ts parts.sorts parts.others i) ∙ sym parts.all

vals-list : (m : Model) (e : Env) (ts : Terms) → vals m ts e ≡ map (λ t. val m t e) (list ts)
vals-list m e none = refl
vals-list m e (t ⨾ ts) = ap (λ vs. val m t e ∷ vs) (vals-list m e ts)

val_over : (m : Model) (e : Env) (o : Op) (ts : Terms) → IsWellSorted (apply (op o) ts) → val m (apply (op o) ts) e ≡ op_value (background m) o (map sort_of_term (list ts)) (map (λ t. val m t e) (list ts))
val_over m e o ts fine =
    let has = has_sort (apply (op o) ts) fine in
    let parts = applied (op o) ts has.0 has.1 in
    ap (λ (r : Option (List Sort)). op_value (background m) o (unwrap_or r []) (vals m ts e)) parts.operands
    ∙ (λ i. op_value (background m) o (sym (sorts-list ts parts.sorts parts.operands) i) (vals-list m e ts i))

-- a constant's value is the same over any operands
literal_alone : (b : Background) (o : Op) (ss us : List Sort) (vs ws : List Value) → is_literal o ≡ true → op_value b o ss vs ≡ op_value b o us ws
unfolding literal_value op_value
literal_alone b (Truth c) ss us vs ws h = refl
literal_alone b (Whole n) ss us vs ws h = refl
literal_alone b (Bits w n) ss us vs ws h = refl
literal_alone b _ ss us vs ws h = absurd cc

-- ---- which operators are shown

pub shown_over : (t : Term) (o : Op) → shown_operand t ≡ Some o → (ts : Terms) × (t ≡ apply (op o) ts)
shown_over (apply (op p) ts) o shown =
    let told = cond_some (is_literal p || (is_theory p && is_short (list ts))) p o shown in
    (ts, ap (λ q. apply (op q) ts) told.1)
shown_over _ o shown = absurd cc

-- below an operand constants alone are shown
abbrev ShowsConstants : Place → Type 0
ShowsConstants p = (o : Op) → p.shown ≡ Some o → (p.term ≡ apply (op o) none) × (is_literal o ≡ true)

shown_constant : (t : Term) (o : Op) → shown_below t ≡ Some o → (t ≡ apply (op o) none) × (is_literal o ≡ true)
shown_constant (apply (op p) none) o shown =
    let told = cond_some (is_literal p) p o shown in
    (ap (λ q. apply (op q) none) told.1, ap is_literal (sym told.1) ∙ told.0)
shown_constant _ o shown = absurd cc

level_shows : (up : ℕ) (ts : List Term) → AllByRecursion ShowsConstants (level up shown_below ts)
level_shows up [] = tt
level_shows up (t ∷ ts) = (shown_constant t, level_shows up ts)

below_shows : (k : ℕ) (ts : List Term) → AllByRecursion ShowsConstants (all_below k ts)
below_shows k [] = tt
below_shows k (t ∷ ts) = all-append ShowsConstants (places_below k t) (all_below (suc k) ts) (level_shows (suc k) (operands_if (is_some (shown_operand t)) t)) (below_shows (suc k) ts)

-- ---- the values at the holes

below_numbered : (hs : List Term) (k j n : ℕ) (ts : List Term) (t : Term) → n ≡ k + j → slice_get ts j ≡ Some t → AreNumbered hs (all_below k ts) → AreNumbered hs (places_below n t)
below_numbered hs k j n [] t is at all = absurd cc
below_numbered hs k zero n (u ∷ us) t is at all =
    let number : k ≡ n = omega arith in
    subst (λ w. AreNumbered hs (places_below n w)) (same_Some u t at)
    (subst (λ i. AreNumbered hs (places_below i u)) number (all-left (λ p. IsNumbered hs p.term) (places_below k u) (all_below (suc k) us) all))
below_numbered hs k (suc j) n (u ∷ us) t is at all = below_numbered hs (suc k) j n us t (omega arith) at (all-right (λ p. IsNumbered hs p.term) (places_below k u) (all_below (suc k) us) all)

module _ (m : Model) (e : Env) (hs : List Term) where
  abbrev at_holes : ℕ → Value
  at_holes = values_at m e hs

  numbered_value : (t : Term) → IsNumbered hs t → at_holes (number_in hs t) ≡ val m t e
  numbered_value t at = ap (λ u. val m u e) (get_or_from_slice_get hs (number_in hs t) t no_term at)

  level_values : (up : ℕ) (show : Term → Option Op) (ts : List Term) → AreNumbered hs (level up show ts) → map (λ c. at_holes c.hole) (cells hs (level up show ts)) ≡ map (λ t. val m t e) ts
  level_values up show [] all = refl
  level_values up show (t ∷ ts) all = λ i. numbered_value t all.0 i ∷ level_values up show ts all.1 i

  -- an operator over cells that stand for the operands of its term has the value of the term
  level_value : (o : Op) (us : Terms) (up : ℕ) (show : Term → Option Op) (cs : List TermCell) → IsWellSorted (apply (op o) us) → AreNumbered hs (level up show (list us)) → cs ≡ cells hs (level up show (list us)) → op_value (background m) o (map (λ c. c.sort) cs) (map (λ c. at_holes c.hole) cs) ≡ val m (apply (op o) us) e
  level_value o us up show cs fine all is =
      ap (λ ds. op_value (background m) o (map (λ c. c.sort) ds) (map (λ c. at_holes c.hole) ds)) is
      ∙ (λ i. op_value (background m) o (level_sorts hs up show (list us) i) (level_values up show (list us) all i))
      ∙ sym (val_over m e o us fine)

module _ (m : Model) (e : Env) (model : IsModel m) (env : IsEnv m.sizes e) (o : Op) (ts : Terms) (fine : IsWellSorted (apply (op o) ts)) where
  abbrev all_places : List Place
  all_places = places (list ts)

  abbrev holes : List Term
  holes = holes_of all_places

  abbrev roots : List Place
  roots = level 0 shown_operand (list ts)

  numbers : AreNumbered holes all_places
  numbers = places_numbered all_places

  fine_operands : AllByRecursion IsWellSorted (list ts)
  fine_operands = all_sorted (apply (op o) ts) fine

  root_value : view_value (background m) (values_at m e holes) (view_over o (list ts)) ≡ val m (apply (op o) ts) e
  root_value =
      level_value m e holes o ts 0 shown_operand (cells_under 0 (cells holes all_places)) fine
      (all-left (λ p. IsNumbered holes p.term) roots (all_below 0 (list ts)) numbers)
      (under_root holes (list ts))

  hole_valid : (p : Place) → IsNumbered holes p.term → IsWellSorted p.term → IsTrue (is_value (sort_of_term p.term) m.sizes (values_at m e holes (number_in holes p.term)))
  hole_valid p at good =
      ap (is_value (sort_of_term p.term) m.sizes) (numbered_value m e holes p.term at)
      ∙ val_valid p.term (sort_of_term p.term) m e model env (sort-some p.term good)

  -- what a shown cell's operator is over the cells below it
  abbrev value_below : ℕ → Op → Value
  value_below k q = value_over (background m) (values_at m e holes) (cells holes all_places) (suc k) q

  operand_value : (k : ℕ) (t : Term) (q : Op) → slice_get (list ts) k ≡ Some t → shown_operand t ≡ Some q → val m t e ≡ value_below k q
  operand_value k t q at shown =
      let over = shown_over t q shown in
      let us = over.0 in
      let good : IsWellSorted (apply (op q) us) = subst IsWellSorted over.1 (all-at IsWellSorted (list ts) k t fine_operands at) in
      let operands_are : operands_if (is_some (shown_operand t)) t ≡ list us = (λ i. operands_if (is_some (shown i)) (over.1 i)) in
      let given : AreNumbered holes (places_below k t) = below_numbered holes 0 k k (list ts) t (omega arith) at (all-right (λ p. IsNumbered holes p.term) roots (all_below 0 (list ts)) numbers) in
      ap (λ u. val m u e) over.1
      ∙ sym (level_value m e holes q us (suc k) shown_below (cells_under (suc k) (cells holes all_places)) good
      (subst (λ ws. AreNumbered holes (level (suc k) shown_below ws)) operands_are given)
      (under_operand holes (list ts) k t at ∙ ap (λ ws. cells holes (level (suc k) shown_below ws)) operands_are))

  place_value : (k : ℕ) (p : Place) (q : Op) → slice_get all_places k ≡ Some p → p.shown ≡ Some q → val m p.term e ≡ value_below k q
  place_value k p q at shown = elim (at-append ShowsConstants roots (all_below 0 (list ts)) k p (below_shows 0 (list ts)) at) [
    | inl root ↦
        let found = level_at 0 shown_operand (list ts) k p root in
        ap (λ u. val m u e) (ap (λ r. r.term) found.2) ∙ operand_value k found.0 q found.1 (ap (λ r. r.shown) (sym found.2) ∙ shown)
    | inr below ↦
        let constant = below q shown in
        ap (λ u. val m u e) constant.0
        ∙ literal_alone (background m) q [] (map (λ c. c.sort) (cells_under (suc k) (cells holes all_places))) [] (map (λ c. values_at m e holes c.hole) (cells_under (suc k) (cells holes all_places))) constant.1
  ]

  place_valid : (k : ℕ) → IfSome (slice_get (cells holes all_places) k) (λ c. IsTrue (is_value c.sort m.sizes (values_at m e holes c.hole)))
  place_valid k = subst (λ r. IfSome r (λ c. IsTrue (is_value c.sort m.sizes (values_at m e holes c.hole)))) (sym (slice_get-map (cell_of holes) all_places k)) (go (slice_get all_places k) refl)
    where
      go : (r : Option Place) → slice_get all_places k ≡ r → IfSome (option_map (cell_of holes) r) (λ c. IsTrue (is_value c.sort m.sizes (values_at m e holes c.hole)))
      go None at = tt
      go (Some p) at = hole_valid p (all-at (λ q. IsNumbered holes q.term) all_places k p numbers at) (all-at (λ q. IsWellSorted q.term) all_places k p (places_sorted (list ts) fine_operands) at)

  place_shown : (k : ℕ) → IfSome (slice_get (cells holes all_places) k) (λ c. IfSome c.shown (λ q. values_at m e holes c.hole ≡ value_below k q))
  place_shown k = subst (λ r. IfSome r (λ c. IfSome c.shown (λ q. values_at m e holes c.hole ≡ value_below k q))) (sym (slice_get-map (cell_of holes) all_places k)) (go (slice_get all_places k) refl)
    where
      over : (p : Place) → slice_get all_places k ≡ Some p → (r : Option Op) → p.shown ≡ r → IfSome r (λ q. values_at m e holes (number_in holes p.term) ≡ value_below k q)
      over p at None shown = tt
      over p at (Some q) shown = numbered_value m e holes p.term (all-at (λ r. IsNumbered holes r.term) all_places k p numbers at) ∙ place_value k p q at shown

      go : (r : Option Place) → slice_get all_places k ≡ r → IfSome (option_map (cell_of holes) r) (λ c. IfSome c.shown (λ q. values_at m e holes c.hole ≡ value_below k q))
      go None at = tt
      go (Some p) at = over p at p.shown refl

  pub has_view_value : HasViewValue (apply (op o) ts) (view_over o (list ts)) m e
  has_view_value = record { holes = record { valid = place_valid; shown = place_shown }; value = root_value }
