-- The cells of a view by what stands below what: those of the root's operands, and those of the operands of one operand.
use Rattle.std.proofs.Common.{◌≡◌, ◌≢◌, ◌∙◌, ℕ, zero, suc, ◌+◌, cond, ◌==◌, List, [], ◌∷◌, ◌++◌, map, slice_get, Option, Some, is_some, refl, ap, sym, append-nil, arith}
use Rattle.std.proofs.lemmas.Bool.{false_from_ne_true}
use Rattle.std.proofs.lemmas.Bool.Decides.{Decides-eqb}
use Rattle.std.proofs.lemmas.List.{map-append}
use Rattle.std.proofs.lemmas.List.Elements.{filter-append}
use Rattle.std.proofs.lemmas.Option.{same_Some}
use Rattle.smt_terms.specs.declared.op.Op.{Op}
use Rattle.smt_terms.specs.Term.{Term}
use Rattle.rule_book.specs.View.{TermCell, Place, shown_operand, shown_below, operands_if, places_below, all_below, places, cell_of}
use Rattle.rule_book.specs.Soundness.{cells_under}
use Rattle.rule_book.proofs.Holes.{sort_of_term}

-- the places of terms that stand at one level
abbrev pub level : ℕ → (Term → Option Op) → List Term → List Place
level up show ts = map (λ t. record { up = up; shown = show t; term = t }) ts

pub level_at : (up : ℕ) (show : Term → Option Op) (ts : List Term) (k : ℕ) (p : Place) → slice_get (level up show ts) k ≡ Some p → (t : Term) × (slice_get ts k ≡ Some t) × (p ≡ record { up = up; shown = show t; term = t })
level_at up show [] k p at = absurd cc
level_at up show (t ∷ ts) zero p at = (t, refl, sym (same_Some (record { up = up; shown = show t; term = t }) p at))
level_at up show (t ∷ ts) (suc k) p at = level_at up show ts k p at

module _ (hs : List Term) where
  abbrev pub cells : List Place → List TermCell
  cells ps = map (cell_of hs) ps

  abbrev pub under : ℕ → List Place → List TermCell
  under up ps = cells_under up (cells ps)

  pub under-append : (up : ℕ) (ps qs : List Place) → under up (ps ++ qs) ≡ under up ps ++ under up qs
  under-append up ps qs = ap (cells_under up) (map-append (cell_of hs) ps qs) ∙ filter-append (λ c. c.up == up) (cells ps) (cells qs)

  pub same_level : (up : ℕ) (show : Term → Option Op) (ts : List Term) → under up (level up show ts) ≡ cells (level up show ts)
  same_level up show [] = refl
  same_level up show (t ∷ ts) =
      let here : TermCell = cell_of hs (record { up = up; shown = show t; term = t }) in
      (λ i. cond ((Decides-eqb up up).1 refl i) (here ∷ same_level up show ts i) (same_level up show ts i))

  pub other_level : (up other : ℕ) (show : Term → Option Op) (ts : List Term) → up ≢ other → under other (level up show ts) ≡ []
  other_level up other show [] apart = refl
  other_level up other show (t ∷ ts) apart =
      let here : TermCell = cell_of hs (record { up = up; shown = show t; term = t }) in
      (λ i. cond (false_from_ne_true (up == other) (λ e. apart ((Decides-eqb up other).0 e)) i) (here ∷ other_level up other show ts apart i) (other_level up other show ts apart i))

  pub level_sorts : (up : ℕ) (show : Term → Option Op) (ts : List Term) → map (λ c. c.sort) (cells (level up show ts)) ≡ map sort_of_term ts
  level_sorts up show [] = refl
  level_sorts up show (t ∷ ts) = ap (λ ss. sort_of_term t ∷ ss) (level_sorts up show ts)

  -- none below later operands are the root's, or an earlier operand's
  not_below : (k other : ℕ) (ts : List Term) → ((j : ℕ) → suc (k + j) ≢ other) → under other (all_below k ts) ≡ []
  not_below k other [] apart = refl
  not_below k other (t ∷ ts) apart =
      let here = other_level (suc k) other shown_below (operands_if (is_some (shown_operand t)) t) (λ e. apart 0 (omega (arith, e))) in
      let later = not_below (suc k) other ts (λ j e. apart (suc j) (omega (arith, e))) in
      under-append other (places_below k t) (all_below (suc k) ts) ∙ (λ i. here i ++ later i)

  below_at : (k j n : ℕ) (ts : List Term) (t : Term) → n ≡ k + j → slice_get ts j ≡ Some t → under (suc n) (all_below k ts) ≡ cells (places_below n t)
  below_at k j n [] t is at = absurd cc
  below_at k zero n (u ∷ us) t is at =
      let number : k ≡ n = omega arith in
      let here = same_level (suc n) shown_below (operands_if (is_some (shown_operand u)) u) in
      let later = not_below (suc k) (suc n) us (λ j e. omega (arith, e)) in
      under-append (suc n) (places_below k u) (all_below (suc k) us)
      ∙ ap (λ m. under (suc n) (places_below m u) ++ under (suc n) (all_below (suc k) us)) number
      ∙ (λ i. here i ++ later i)
      ∙ append-nil (cells (places_below n u))
      ∙ ap (λ w. cells (places_below n w)) (same_Some u t at)
  below_at k (suc j) n (u ∷ us) t is at =
      let here = other_level (suc k) (suc n) shown_below (operands_if (is_some (shown_operand u)) u) (λ e. omega (arith, e)) in
      under-append (suc n) (places_below k u) (all_below (suc k) us) ∙ (λ i. here i ++ below_at (suc k) j n us t (omega arith) at i)

  pub under_root : (ts : List Term) → under 0 (places ts) ≡ cells (level 0 shown_operand ts)
  under_root ts =
      under-append 0 (level 0 shown_operand ts) (all_below 0 ts)
      ∙ (λ i. same_level 0 shown_operand ts i ++ not_below 0 0 ts (λ j e. omega (arith, e)) i)
      ∙ append-nil (cells (level 0 shown_operand ts))

  pub under_operand : (ts : List Term) (k : ℕ) (t : Term) → slice_get ts k ≡ Some t → under (suc k) (places ts) ≡ cells (places_below k t)
  under_operand ts k t at =
      under-append (suc k) (level 0 shown_operand ts) (all_below 0 ts)
      ∙ (λ i. other_level 0 (suc k) shown_operand ts (λ e. omega (arith, e)) i ++ below_at 0 k k ts t (omega arith) at i)
