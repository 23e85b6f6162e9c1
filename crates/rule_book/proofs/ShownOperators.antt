-- Which operators of nodes are shown, and which nodes have a view.
use Rattle.std.proofs.Common.{◌≡◌, suc, ◌<◌, ◌≤◌, Bool, true, false, ◌&&◌, ◌||◌, if◌then◌else◌, List, [], ◌∷◌, map, length, Option, Some, None, Ok, is_some, refl, ap, sym, ◌∙◌, subst, inl, inr, arith}
use Rattle.std.specs.Prelude.{unwrap_or}
use Rattle.std.specs.Bool.{then_some}
use Rattle.std.proofs.lemmas.Bool.{leb-true, le-leb, lt-leb}
use Rattle.smt_terms.specs.declared.ids.SortId.{SortId}
use Rattle.smt_terms.specs.declared.op.Op.{Op}
use Rattle.smt_terms.specs.declared.op.Op.TheVariants.{Truth, Whole, Bits, Sym, Forall, Exists, ConstArray}
use Rattle.smt_terms.specs.Constants.{literal_value}
use Rattle.smt_terms.specs.Rank.{shape, rank, sort_of, IsWellSorted}
use Rattle.smt_terms.specs.Sorts.{Sort, bool}
use Rattle.smt_terms.specs.Term.{op, symbol, const_array, Term, apply, quantified, Terms, list, terms, over}
use Rattle.smt_terms.proofs.Ranked.{rank-takes}
use Rattle.smt_terms.proofs.Sorted.{applied, length-sorts_of}
use Rattle.smt_terms.proofs.StoredTerms.{fine_term}
use Rattle.smt_terms.proofs.Tests.{either_true, left_true, right_true, both_true, both_false, true_or_false}
use Rattle.smt_values.specs.SortIds.{sort_at}
use Rattle.term_table.specs.Formulas.{Formulas, operands, Kind, theory, applied as applied_kind, filled, binder, kind, kind_term, term_over}
use Rattle.term_table.proofs.Operators.{kind-theory}
use Rattle.rule_book.specs.declared.views.Cell.{Cell}
use Rattle.rule_book.specs.Seen.{cell_seen, view_seen}
use Rattle.rule_book.specs.View.{TermView, is_theory, is_literal, is_short, shown_operand, shown_below, operands_of, places, holes_of, cell_of, view_over, view_of, view_holes}

list-terms : (us : List Term) → list (terms us) ≡ us
list-terms [] = refl
list-terms (u ∷ us) = ap (λ ts. u ∷ ts) (list-terms us)

-- ---- constants have no operands

no-sorts : (q : Op) (ss : List Sort) (s : Sort) → is_literal q ≡ true → rank (op q) ss ≡ Ok s → ss ≡ []
unfolding shape literal_value
no-sorts (Truth b) ss s h ranked = (rank-takes (op (Truth b)) ss s ranked).0
no-sorts (Whole n) ss s h ranked = (rank-takes (op (Whole n)) ss s ranked).0
no-sorts (Bits w n) ss s h ranked = (rank-takes (op (Bits w n)) ss s ranked).0
no-sorts _ ss s h ranked = absurd cc

no-operands : (q : Op) (ts : Terms) → is_literal q ≡ true → IsWellSorted (apply (op q) ts) → length (list ts) ≡ 0
no-operands q ts h fine =
    let f = fine_term (apply (op q) ts) fine in
    let parts = applied (op q) ts f.sort f.has in
    sym (length-sorts_of ts parts.sorts parts.operands) ∙ ap length (no-sorts q parts.sorts f.sort h parts.rank)

-- ---- the kinds of operators

theory-kind : (p : Op) → (is_literal p || is_theory p) ≡ true → kind p ≡ theory p
unfolding kind is_theory literal_value
theory-kind (Sym f) h = absurd cc
theory-kind Forall h = absurd cc
theory-kind Exists h = absurd cc
theory-kind (ConstArray s) h = absurd cc
theory-kind _ h = refl

other-kind : (p : Op) → ((q : Op) → kind p ≡ theory q → ⊥) → (is_literal p || is_theory p) ≡ false
unfolding kind is_theory literal_value
other-kind (Sym f) other = refl
other-kind Forall other = refl
other-kind Exists other = refl
other-kind (ConstArray s) other = refl
other-kind p other = absurd (other p refl)

-- ---- what is shown has at most four operands

pub shown-short : (u : Term) → IsWellSorted u → is_some (shown_operand u) ≡ true → length (operands u) ≤ 4
shown-short (apply (op o) ts) fine shown = elim (either_true (is_literal o) (is_theory o && is_short (list ts)) (tests (is_literal o || (is_theory o && is_short (list ts))) shown)) [
  | inl alone ↦ let number = no-operands o ts alone fine in omega arith
  | inr short ↦ leb-true (length (list ts)) 4 (both_true (is_theory o) (is_short (list ts)) short).1
]
  where
    tests : (b : Bool) → is_some (if b then Some o else None) ≡ true → b ≡ true
    tests true h = refl
    tests false h = absurd cc
shown-short (apply (symbol f) ts) fine shown = absurd cc
shown-short (apply (const_array s) ts) fine shown = absurd cc
shown-short (quantified q xs u) fine shown = absurd cc

-- ---- what is shown of operands

abbrev if_shown : Bool → Bool → Bool → Op → Option Op
if_shown alone of short p = if alone || (of && short) then Some p else None

abbrev view_at : Op → List Term → Option TermView
view_at p [] = None
view_at p (u ∷ us) = if is_theory p && is_short (u ∷ us) then Some (view_over p (u ∷ us)) else None

chosen : (b : Bool) (p : Op) → then_some b p ≡ (if b then Some p else None)
chosen true p = refl
chosen false p = refl

module _ (t : Formulas) (p : Op) (u : Term) (term : u ≡ term_over t p (operands u)) where
  of-kind : (k : Kind) → kind p ≡ k → u ≡ kind_term t.symbols t.sorts k (operands u)
  of-kind k e = term ∙ ap (λ l. kind_term t.symbols t.sorts l (operands u)) e

  of-theory : (is_literal p || is_theory p) ≡ true → u ≡ over (op p) (operands u)
  of-theory h = of-kind (theory p) (theory-kind p h)

  theory-operands : (is_literal p || is_theory p) ≡ true → operands_of u ≡ operands u
  theory-operands h = ap operands_of (of-theory h) ∙ list-terms (operands u)

  operand-shown : shown_operand u ≡ if_shown (is_literal p) (is_theory p) (is_short (operands u)) p
  operand-shown = by (kind p) refl
    where
      none_shown : ((q : Op) → kind p ≡ theory q → ⊥) → None ≡ if_shown (is_literal p) (is_theory p) (is_short (operands u)) p
      none_shown other =
          let parts = both_false (is_literal p) (is_theory p) (other-kind p other) in
          sym (λ i. if_shown (parts.0 i) (parts.1 i) (is_short (operands u)) p)

      by : (k : Kind) → kind p ≡ k → shown_operand u ≡ if_shown (is_literal p) (is_theory p) (is_short (operands u)) p
      by (theory q) e =
          ap shown_operand (of-kind (theory q) e)
          ∙ ap (λ us. if_shown (is_literal q) (is_theory q) (is_short us) q) (list-terms (operands u))
          ∙ ap (λ o. if_shown (is_literal o) (is_theory o) (is_short (operands u)) o) (sym (kind-theory p q e))
      by (applied_kind f) e = ap shown_operand (of-kind (applied_kind f) e) ∙ none_shown (λ q is. let clash : applied_kind f ≡ theory q = sym e ∙ is in absurd cc)
      by (filled s) e = ap shown_operand (of-kind (filled s) e) ∙ none_shown (λ q is. let clash : filled s ≡ theory q = sym e ∙ is in absurd cc)
      by (binder b) e = ap shown_operand (of-kind (binder b) e) ∙ none_shown (λ q is. let clash : binder b ≡ theory q = sym e ∙ is in absurd cc)

  pub operand-told : (b : Bool) → b ≡ (is_literal p || (is_theory p && is_short (operands u))) → then_some b p ≡ shown_operand u
  operand-told b is = chosen b p ∙ ap (λ c. if c then Some p else None) is ∙ sym operand-shown

  module _ (fine : IsWellSorted u) where
    alone : is_literal p ≡ true → length (operands u) ≡ 0
    alone h =
        ap length (sym (list-terms (operands u)))
        ∙ no-operands p (terms (operands u)) h (subst IsWellSorted (of-theory (left_true (is_literal p) (is_theory p) h)) fine)

    pub below-told : (b : Bool) → b ≡ is_literal p → then_some b p ≡ shown_below u
    below-told b is = chosen b p ∙ ap (λ c. if c then Some p else None) is ∙ sym (by (kind p) refl)
      where
        none_shown : ((q : Op) → kind p ≡ theory q → ⊥) → None ≡ (if is_literal p then Some p else None)
        none_shown other = sym (ap (λ c. if c then Some p else None) (both_false (is_literal p) (is_theory p) (other-kind p other)).0)

        over-operands : (us : List Term) → (is_literal p ≡ true → length us ≡ 0) → shown_below (over (op p) us) ≡ (if is_literal p then Some p else None)
        over-operands [] none_left = refl
        over-operands (v ∷ vs) none_left = elim (true_or_false (is_literal p)) [
          | inl h ↦ let number : suc (length vs) ≡ 0 = none_left h in absurd (omega arith)
          | inr h ↦ sym (ap (λ c. if c then Some p else None) h)
        ]

        by : (k : Kind) → kind p ≡ k → shown_below u ≡ (if is_literal p then Some p else None)
        by (theory q) e =
            ap shown_below (of-kind (theory q) e)
            ∙ ap (λ o. shown_below (over (op o) (operands u))) (sym (kind-theory p q e))
            ∙ over-operands (operands u) alone
        by (applied_kind f) e = ap shown_below (of-kind (applied_kind f) e) ∙ none_shown (λ q is. let clash : applied_kind f ≡ theory q = sym e ∙ is in absurd cc)
        by (filled s) e = ap shown_below (of-kind (filled s) e) ∙ none_shown (λ q is. let clash : filled s ≡ theory q = sym e ∙ is in absurd cc)
        by (binder b) e = ap shown_below (of-kind (binder b) e) ∙ none_shown (λ q is. let clash : binder b ≡ theory q = sym e ∙ is in absurd cc)

  -- ---- views

  view-at : view_of u ≡ view_at p (operands u)
  view-at = by (kind p) refl
    where
      none_viewed : ((q : Op) → kind p ≡ theory q → ⊥) → (us : List Term) → None ≡ view_at p us
      none_viewed other [] = refl
      none_viewed other (v ∷ vs) = sym (ap (λ c. if c && is_short (v ∷ vs) then Some (view_over p (v ∷ vs)) else None) (both_false (is_literal p) (is_theory p) (other-kind p other)).1)

      over-operands : (us : List Term) → view_of (over (op p) us) ≡ view_at p us
      over-operands [] = refl
      over-operands (v ∷ vs) = ap (λ ws. if is_theory p && is_short (v ∷ ws) then Some (view_over p (v ∷ ws)) else None) (list-terms vs)

      by : (k : Kind) → kind p ≡ k → view_of u ≡ view_at p (operands u)
      by (theory q) e =
          ap view_of (of-kind (theory q) e)
          ∙ ap (λ o. view_of (over (op o) (operands u))) (sym (kind-theory p q e))
          ∙ over-operands (operands u)
      by (applied_kind f) e = ap view_of (of-kind (applied_kind f) e) ∙ none_viewed (λ q is. let clash : applied_kind f ≡ theory q = sym e ∙ is in absurd cc) (operands u)
      by (filled s) e = ap view_of (of-kind (filled s) e) ∙ none_viewed (λ q is. let clash : filled s ≡ theory q = sym e ∙ is in absurd cc) (operands u)
      by (binder b) e = ap view_of (of-kind (binder b) e) ∙ none_viewed (λ q is. let clash : binder b ≡ theory q = sym e ∙ is in absurd cc) (operands u)

  pub no-view-other : is_theory p ≡ false → view_of u ≡ None
  no-view-other h = view-at ∙ by (operands u)
    where
      by : (us : List Term) → view_at p us ≡ None
      by [] = refl
      by (v ∷ vs) = ap (λ c. if c && is_short (v ∷ vs) then Some (view_over p (v ∷ vs)) else None) h

  pub no-view-alone : length (operands u) ≡ 0 → view_of u ≡ None
  no-view-alone h = view-at ∙ by (operands u) h
    where
      by : (us : List Term) → length us ≡ 0 → view_at p us ≡ None
      by [] h = refl
      by (v ∷ vs) h = let number : suc (length vs) ≡ 0 = h in absurd (omega arith)

  pub no-view-long : 4 < length (operands u) → view_of u ≡ None
  no-view-long lt = view-at ∙ by (operands u) lt
    where
      by : (us : List Term) → 4 < length us → view_at p us ≡ None
      by [] lt = refl
      by (v ∷ vs) lt =
          let long : is_short (v ∷ vs) ≡ false = lt-leb (length (v ∷ vs)) 4 lt in
          ap (λ c. if is_theory p && c then Some (view_over p (v ∷ vs)) else None) long ∙ either (is_theory p)
        where
          either : (b : Bool) → (if b && false then Some (view_over p (v ∷ vs)) else None) ≡ None
          either true = refl
          either false = refl

  has-view : is_theory p ≡ true → 0 < length (operands u) → length (operands u) ≤ 4 → view_of u ≡ Some (view_over p (operands u))
  has-view h lt le = view-at ∙ by (operands u) lt le
    where
      by : (us : List Term) → 0 < length us → length us ≤ 4 → view_at p us ≡ Some (view_over p us)
      by [] lt le = absurd (omega arith)
      by (v ∷ vs) lt le =
          let short : is_short (v ∷ vs) ≡ true = le-leb (length (v ∷ vs)) 4 le in
          λ i. if h i && short i then Some (view_over p (v ∷ vs)) else None

  pub view-holes : is_theory p ≡ true → view_holes u ≡ holes_of (places (operands u))
  view-holes h = ap (λ us. holes_of (places us)) (theory-operands (right_true (is_literal p) (is_theory p) h))

  root-sort : is_theory p ≡ true → (s : Sort) → sort_of u ≡ Some s → unwrap_or (sort_of (over (op p) (operands u))) bool ≡ s
  root-sort h s has = ap (λ v. unwrap_or (sort_of v) bool) (sym (of-theory (right_true (is_literal p) (is_theory p) h))) ∙ ap (λ o. unwrap_or o bool) has

  -- of a node, by its cells
  pub viewed : is_theory p ≡ true → 0 < length (operands u) → length (operands u) ≤ 4 → (s : SortId) → sort_of u ≡ Some (sort_at t.sorts s) → (cells : List Cell) → map (cell_seen t.sorts) cells ≡ map (cell_of (holes_of (places (operands u)))) (places (operands u)) → view_of u ≡ Some (view_seen t.sorts (record { root = p; sort = s; cells = cells }))
  viewed h lt le s has cells are = has-view h lt le ∙ (λ i. Some (record { root = p; sort = root-sort h (sort_at t.sorts s) has i; cells = sym are i }))
