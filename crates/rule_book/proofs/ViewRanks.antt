-- What the cells of a well-sorted term's view say of sorts: the root and each shown operand have the rank of the cells below them.
use Rattle.std.proofs.Common.{◌≡◌, ◌∙◌, ℕ, zero, suc, true, ◌&&◌, ◌==◌, List, [], ◌∷◌, ◌++◌, map, slice_get, Option, Some, is_some, Ok, refl, ap, sym, subst}
use Rattle.std.specs.Prelude.{option_map, unwrap_or}
use Rattle.std.specs.List.{AllByRecursion}
use Rattle.std.proofs.lemmas.List.{map-append}
use Rattle.std.proofs.lemmas.Option.{same_Some, slice_get-map}
use Rattle.smt_terms.specs.declared.op.Op.{Op}
use Rattle.smt_terms.specs.Sorts.{Sort, bool}
use Rattle.smt_terms.specs.Term.{op, Term, apply, Terms, none, ◌⨾◌, list}
use Rattle.smt_terms.specs.Rank.{rank, sort_of, sorts_of, is_regular, IsWellSorted}
use Rattle.smt_terms.proofs.Sorted.{applied, sorted}
use Rattle.smt_terms.proofs.Tests.{both_true}
use Rattle.rule_book.specs.View.{TermCell, TermView, Place, is_theory, is_short, shown_operand, shown_below, operands_if, places_below, all_below, places, holes_of, number_in, cell_of, view_over, view_of}
use Rattle.rule_book.specs.Soundness.{Answers, IsSound, hole_sort, cells_under}
use Rattle.rule_book.specs.EightRules.{operands, operands_of_cell}
use Rattle.rule_book.proofs.Holes.{sort_of_term, IsNumbered, places_numbered, sorts_of_holes}
use Rattle.rule_book.proofs.ViewCells.{level, cells, level_sorts, under_root, under_operand}
use Rattle.rule_book.proofs.SortedPlaces.{all-at, all-filter, some_is, terms-list}
use Rattle.rule_book.proofs.ViewValues.{sorts-list, shown_over}
use Rattle.rule_book.proofs.RuleSteps.{if_some}
use Rattle.rule_book.proofs.Answering.{IsRanked, IsRight}

-- ---- elements of lists

module _ {A B : Type 0} (f : A → B) (P : A → Type 0) (Q : B → Type 0) (given : (a : A) → P a → Q (f a)) where
  all-map : (xs : List A) → AllByRecursion P xs → AllByRecursion Q (map f xs)
  all-map [] all = tt
  all-map (x ∷ xs) all = (given x all.0, all-map xs all.1)

at_left : {A : Type 0} (xs ys : List A) (k : ℕ) (a : A) → slice_get xs k ≡ Some a → slice_get (xs ++ ys) k ≡ Some a
at_left [] ys k a at = absurd cc
at_left (x ∷ xs) ys zero a at = at
at_left (x ∷ xs) ys (suc k) a at = at_left xs ys k a at

-- ---- sorts of terms

sort_at : (ts : Terms) (ss : List Sort) (k : ℕ) (t : Term) → sorts_of ts ≡ Some ss → slice_get (list ts) k ≡ Some t → is_some (sort_of t) ≡ true
sort_at none ss k t h at = absurd cc
sort_at (u ⨾ us) ss zero t h at = ap (λ w. is_some (sort_of w)) (sym (same_Some u t at)) ∙ ap is_some (sorted u us ss h).first
sort_at (u ⨾ us) ss (suc k) t h at =
    let parts = sorted u us ss h in
    sort_at us parts.sorts k t parts.others at

module _ (o : Op) (ts : Terms) (has : is_some (sort_of (apply (op o) ts)) ≡ true) where
  rank_over : rank (op o) (map sort_of_term (list ts)) ≡ Ok (sort_of_term (apply (op o) ts))
  rank_over =
      let is = some_is (sort_of (apply (op o) ts)) has in
      let parts = applied (op o) ts is.0 is.1 in
      ap (rank (op o)) (sorts-list ts parts.sorts parts.operands) ∙ parts.rank ∙ ap (λ r. Ok (unwrap_or r bool)) (sym is.1)

  operand_sorted : (k : ℕ) (t : Term) → slice_get (list ts) k ≡ Some t → is_some (sort_of t) ≡ true
  operand_sorted k t at =
      let is = some_is (sort_of (apply (op o) ts)) has in
      let parts = applied (op o) ts is.0 is.1 in
      sort_at ts parts.sorts k t parts.operands at

-- ---- the cells of a level

level_cell : (hs : List Term) (up : ℕ) (show : Term → Option Op) (ts : List Term) (k : ℕ) (c : TermCell) → slice_get (cells hs (level up show ts)) k ≡ Some c → (t : Term) × (slice_get ts k ≡ Some t) × (c ≡ cell_of hs (record { up = up; shown = show t; term = t }))
level_cell hs up show [] k c at = absurd cc
level_cell hs up show (t ∷ ts) zero c at = (t, refl, sym (same_Some (cell_of hs (record { up = up; shown = show t; term = t })) c at))
level_cell hs up show (t ∷ ts) (suc k) c at = level_cell hs up show ts k c at

-- ---- the view

module _ (o : Op) (ts : Terms) (has : is_some (sort_of (apply (op o) ts)) ≡ true) where
  abbrev all_places : List Place
  all_places = places (list ts)

  abbrev holes : List Term
  holes = holes_of all_places

  abbrev roots : List Place
  roots = level 0 shown_operand (list ts)

  abbrev view : TermView
  view = view_over o (list ts)

  operand_cells : operands view ≡ cells holes roots
  operand_cells = under_root holes (list ts)

  view_sort : view.sort ≡ sort_of_term (apply (op o) ts)
  view_sort = ap (λ us. sort_of_term (apply (op o) us)) (terms-list ts)

  root_rank : rank (op o) (map (λ c. c.sort) (operands view)) ≡ Ok view.sort
  root_rank =
      ap (λ cs. rank (op o) (map (λ c. c.sort) cs)) operand_cells
      ∙ ap (rank (op o)) (level_sorts holes 0 shown_operand (list ts))
      ∙ rank_over o ts has
      ∙ ap (λ s. Ok s) (sym view_sort)

  at_root : (k : ℕ) (c : TermCell) → slice_get (operands view) k ≡ Some c → slice_get (cells holes roots) k ≡ Some c
  at_root k c at = ap (λ cs. slice_get cs k) (sym operand_cells) ∙ at

  below_rank : (k : ℕ) (c : TermCell) (p : Op) → slice_get (operands view) k ≡ Some c → c.shown ≡ Some p → rank (op p) (map (λ d. d.sort) (operands_of_cell k view)) ≡ Ok c.sort
  below_rank k c p at shown =
      let found = level_cell holes 0 shown_operand (list ts) k c (at_root k c at) in
      let t = found.0 in
      let is_shown : shown_operand t ≡ Some p = ap (λ d. d.shown) (sym found.2) ∙ shown in
      let over = shown_over t p is_shown in
      let us = over.0 in
      let below : operands_of_cell k view ≡ cells holes (places_below k t) = under_operand holes (list ts) k t found.1 in
      let operands_are : operands_if (is_some (shown_operand t)) t ≡ list us = (λ i. operands_if (is_some (is_shown i)) (over.1 i)) in
      let sorted_one : is_some (sort_of (apply (op p) us)) ≡ true = ap (λ w. is_some (sort_of w)) (sym over.1) ∙ operand_sorted o ts has k t found.1 in
      ap (λ cs. rank (op p) (map (λ d. d.sort) cs)) below
      ∙ ap (rank (op p)) (level_sorts holes (suc k) shown_below (operands_if (is_some (shown_operand t)) t))
      ∙ ap (λ ws. rank (op p) (map sort_of_term ws)) operands_are
      ∙ rank_over p us sorted_one
      ∙ ap (λ w. Ok (sort_of_term w)) (sym over.1)
      ∙ ap (λ d. Ok d.sort) (sym found.2)

  place_sort : (p : Place) → IsNumbered holes p.term → hole_sort view.cells (number_in holes p.term) ≡ Some (sort_of_term p.term)
  place_sort p numbered =
      sorts_of_holes all_places (number_in holes p.term)
      ∙ slice_get-map sort_of_term holes (number_in holes p.term)
      ∙ ap (option_map sort_of_term) numbered

  cell_sorts : AllByRecursion (λ c. hole_sort view.cells c.hole ≡ Some c.sort) view.cells
  cell_sorts = all-map (cell_of holes) (λ p. IsNumbered holes p.term) (λ c. hole_sort view.cells c.hole ≡ Some c.sort) place_sort all_places (places_numbered all_places)

  view_ranked : IsRanked view
  view_ranked = record {
    root = root_rank;
    below = below_rank;
    holes = λ up k c at. all-at (λ d. hole_sort view.cells d.hole ≡ Some d.sort) (cells_under up view.cells) k c (all-filter (λ d. hole_sort view.cells d.hole ≡ Some d.sort) (λ d. d.up == up) view.cells cell_sorts) at;
    first = λ k c at.
        ap (λ cs. slice_get cs k) (map-append (cell_of holes) roots (all_below 0 (list ts)))
        ∙ at_left (cells holes roots) (cells holes (all_below 0 (list ts))) k c (at_root k c at);
  }

pub ranked : (t : Term) (v : TermView) → IsWellSorted t → view_of t ≡ Some v → IsRanked v
ranked (apply (op o) (t ⨾ ts)) v sorted seen =
    let told = if_some (is_theory o && is_short (t ∷ list ts)) (Some (view_over o (t ∷ list ts))) v seen in
    let has = (both_true (is_some (sort_of (apply (op o) (t ⨾ ts)))) (is_regular (apply (op o) (t ⨾ ts))) sorted).0 in
    subst IsRanked (same_Some (view_over o (t ∷ list ts)) v told.1) (view_ranked o (t ⨾ ts) has)
ranked _ v sorted seen = absurd cc

pub sound : (rule : Answers) → IsRight rule → IsSound rule
sound rule right = λ t v p sorted seen answer. right v p (ranked t v sorted seen) answer
