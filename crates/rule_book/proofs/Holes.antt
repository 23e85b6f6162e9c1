-- The numbers of holes: each term of the cells has one number, at which it stands among the holes, and no hole stands twice.
use Rattle.std.proofs.Common.{◌≡◌, ℕ, zero, suc, Bool, true, false, cond, not, ◌==◌, ◌||◌, inl, inr, List, [], ◌∷◌, map, Option, Some, None, refl, ap, sym, ◌∙◌}
use Rattle.std.specs.Prelude.{filter, slice_get, option_map, unwrap_or, ⊤}
use Rattle.std.specs.List.{list_any, AllByRecursion}
use Rattle.std.proofs.lemmas.Bool.{false_from_ne_true}
use Rattle.std.proofs.lemmas.Bool.Decides.{Decides-eqb}
use Rattle.std.proofs.lemmas.Map.Keys.{any_passes_from_place}
use Rattle.std.proofs.lemmas.Map.Views.{any-filter_same}
use Rattle.std.proofs.lemmas.Option.{none-some, same_Some, slice_get-map}
use Rattle.smt_terms.specs.Sorts.{Sort, bool}
use Rattle.smt_terms.specs.Term.{Term}
use Rattle.smt_terms.specs.Equal.{term_eq}
use Rattle.smt_terms.specs.Rank.{sort_of}
use Rattle.smt_terms.proofs.Tests.{either_true, left_true, right_true, both_false, or_false, contrary}
use Rattle.smt_terms.proofs.Equal.{Decides-term_eq}
use Rattle.rule_book.specs.View.{Place, holes_of, number_in, cell_of}
use Rattle.rule_book.specs.Soundness.{hole_sort}
use Rattle.rule_book.specs.RuleLaws.{sorts_of_terms}

-- ---- terms among the holes

abbrev is_hole : List Term → Term → Bool
is_hole hs t = list_any (λ u. term_eq u t) hs

abbrev is_placed : List Place → Term → Bool
is_placed ps t = list_any (λ p. term_eq p.term t) ps

term_same : (t u : Term) → term_eq t u ≡ true → t ≡ u
term_same t u h = (Decides-term_eq t u).0 h

term_itself : (t : Term) → term_eq t t ≡ true
term_itself t = (Decides-term_eq t t).1 refl

-- the holes are the terms of the places
holes-places : (ps : List Place) (t : Term) → is_hole (holes_of ps) t ≡ is_placed ps t
holes-places [] t = refl
holes-places (p ∷ ps) t = go (holes-places ps t) (term_eq p.term t) refl
  where
    others : term_eq p.term t ≡ false → (u : Term) → term_eq u t ≡ true → not (term_eq p.term u) ≡ true
    others e u same = ap (λ w. not (term_eq p.term w)) (term_same u t same) ∙ ap not e

    go : is_hole (holes_of ps) t ≡ is_placed ps t → (b : Bool) → term_eq p.term t ≡ b → (b || is_hole (filter (λ u. not (term_eq p.term u)) (holes_of ps)) t) ≡ (b || is_placed ps t)
    go below true e = refl
    go below false e = any-filter_same (λ u. term_eq u t) (λ u. not (term_eq p.term u)) true (others e) (holes_of ps) ∙ below

-- ---- a term's number leads back to it

abbrev pub IsNumbered : List Term → Term → Type 0
IsNumbered hs t = slice_get hs (number_in hs t) ≡ Some t

abbrev pub AreNumbered : List Term → List Place → Type 0
AreNumbered hs ps = AllByRecursion (λ p. IsNumbered hs p.term) ps

numbered : (hs : List Term) (t : Term) → is_hole hs t ≡ true → IsNumbered hs t
numbered [] t among = absurd cc
numbered (u ∷ us) t among = go (numbered us t) (term_eq u t) refl
  where
    behind : term_eq u t ≡ false → is_hole us t ≡ true
    behind apart = elim (either_true (term_eq u t) (is_hole us t) among) [ inl same ↦ contrary (term_eq u t) same apart | inr later ↦ later ]

    go : (is_hole us t ≡ true → IsNumbered us t) → (b : Bool) → term_eq u t ≡ b → slice_get (u ∷ us) (cond b 0 (suc (number_in us t))) ≡ Some t
    go below true e = ap (λ w. Some w) (term_same u t e)
    go below false e = below (behind e)

all_numbered : (hs : List Term) (ps : List Place) → ((t : Term) → is_placed ps t ≡ true → is_hole hs t ≡ true) → AreNumbered hs ps
all_numbered hs [] among = tt
all_numbered hs (p ∷ ps) among = (
  numbered hs p.term (among p.term (left_true (term_eq p.term p.term) (is_placed ps p.term) (term_itself p.term))),
  all_numbered hs ps (λ t e. among t (right_true (term_eq p.term t) (is_placed ps t) e)),
)

pub places_numbered : (ps : List Place) → AreNumbered (holes_of ps) ps
places_numbered ps = all_numbered (holes_of ps) ps (λ t e. holes-places ps t ∙ e)

-- ---- no hole stands twice

abbrev AreDifferent : List Term → Type 0
AreDifferent [] = ⊤
AreDifferent (t ∷ ts) = (is_hole ts t ≡ false) × AreDifferent ts

filter_without : (test keep : Term → Bool) (ts : List Term) → list_any test ts ≡ false → list_any test (filter keep ts) ≡ false
filter_without test keep [] e = refl
filter_without test keep (t ∷ ts) e =
    let parts = both_false (test t) (list_any test ts) e in
    go parts.0 (filter_without test keep ts parts.1) (keep t)
  where
    go : test t ≡ false → list_any test (filter keep ts) ≡ false → (b : Bool) → list_any test (cond b (t ∷ filter keep ts) (filter keep ts)) ≡ false
    go here below true = or_false (test t) (list_any test (filter keep ts)) here below
    go here below false = below

different-filter : (keep : Term → Bool) (ts : List Term) → AreDifferent ts → AreDifferent (filter keep ts)
different-filter keep [] d = tt
different-filter keep (t ∷ ts) d = go (different-filter keep ts d.1) (keep t)
  where
    go : AreDifferent (filter keep ts) → (b : Bool) → AreDifferent (cond b (t ∷ filter keep ts) (filter keep ts))
    go below true = (filter_without (λ u. term_eq u t) keep ts d.0, below)
    go below false = below

holes_different : (ps : List Place) → AreDifferent (holes_of ps)
holes_different [] = tt
holes_different (p ∷ ps) = (
  any-filter_same (λ u. term_eq u p.term) (λ u. not (term_eq p.term u)) false itself (holes_of ps),
  different-filter (λ u. not (term_eq p.term u)) (holes_of ps) (holes_different ps),
)
  where
    itself : (u : Term) → term_eq u p.term ≡ true → not (term_eq p.term u) ≡ false
    itself u same = ap (λ w. not (term_eq p.term w)) (term_same u p.term same) ∙ ap not (term_itself p.term)

-- the term of a number has that number
number_at : (hs : List Term) (i : ℕ) (t : Term) → AreDifferent hs → slice_get hs i ≡ Some t → number_in hs t ≡ i
number_at [] i t d e = absurd cc
number_at (u ∷ us) zero t d e =
    let same : u ≡ t = same_Some u t e in
    ap (λ b. cond b 0 (suc (number_in us t))) (ap (term_eq u) (sym same) ∙ term_itself u)
number_at (u ∷ us) (suc i) t d e = ap (λ b. cond b 0 (suc (number_in us t))) apart ∙ ap suc (number_at us i t d.1 e)
  where
    apart : term_eq u t ≡ false
    apart = false_from_ne_true (term_eq u t) (λ same. contrary (is_hole us u) (any_passes_from_place (λ w. term_eq w u) us i t e (ap (term_eq t) (term_same u t same) ∙ term_itself t)) d.0)

-- ---- sorts of holes

abbrev pub sort_of_term : Term → Sort
sort_of_term t = unwrap_or (sort_of t) bool

found : (hs : List Term) (ps : List Place) (i : ℕ) (t : Term) → slice_get hs i ≡ Some t → number_in hs t ≡ i → AreNumbered hs ps → is_placed ps t ≡ true → hole_sort (map (cell_of hs) ps) i ≡ Some (sort_of_term t)
found hs [] i t here number all placed = absurd cc
found hs (p ∷ ps) i t here number all placed = go (found hs ps i t here number all.1) (number_in hs p.term == i) refl
  where
    go : (is_placed ps t ≡ true → hole_sort (map (cell_of hs) ps) i ≡ Some (sort_of_term t)) → (b : Bool) → (number_in hs p.term == i) ≡ b → cond b (Some (sort_of_term p.term)) (hole_sort (map (cell_of hs) ps) i) ≡ Some (sort_of_term t)
    go below true e = ap (λ u. Some (sort_of_term u)) (same_Some p.term t (sym all.0 ∙ ap (slice_get hs) ((Decides-eqb (number_in hs p.term) i).0 e) ∙ here))
    go below false e = elim (either_true (term_eq p.term t) (is_placed ps t) placed) [
      | inl same ↦ contrary (number_in hs p.term == i) ((Decides-eqb (number_in hs p.term) i).1 (ap (number_in hs) (term_same p.term t same) ∙ number)) e
      | inr later ↦ below later
    ]

not_found : (hs : List Term) (ps : List Place) (i : ℕ) → slice_get hs i ≡ None → AreNumbered hs ps → hole_sort (map (cell_of hs) ps) i ≡ None
not_found hs [] i past all = refl
not_found hs (p ∷ ps) i past all = go (not_found hs ps i past all.1) (number_in hs p.term == i) refl
  where
    go : hole_sort (map (cell_of hs) ps) i ≡ None → (b : Bool) → (number_in hs p.term == i) ≡ b → cond b (Some (sort_of_term p.term)) (hole_sort (map (cell_of hs) ps) i) ≡ None
    go below true e = absurd (none-some p.term (sym past ∙ sym (ap (slice_get hs) ((Decides-eqb (number_in hs p.term) i).0 e)) ∙ all.0))
    go below false e = below

pub sorts_of_holes : (ps : List Place) (i : ℕ) → hole_sort (map (cell_of (holes_of ps)) ps) i ≡ slice_get (sorts_of_terms (holes_of ps)) i
sorts_of_holes ps i = go (slice_get (holes_of ps) i) refl ∙ sym (slice_get-map sort_of_term (holes_of ps) i)
  where
    go : (o : Option Term) → slice_get (holes_of ps) i ≡ o → hole_sort (map (cell_of (holes_of ps)) ps) i ≡ option_map sort_of_term (slice_get (holes_of ps) i)
    go None e = not_found (holes_of ps) ps i e (places_numbered ps) ∙ ap (option_map sort_of_term) (sym e)
    go (Some t) e =
        found (holes_of ps) ps i t e (number_at (holes_of ps) i t (holes_different ps) e) (places_numbered ps)
        (sym (holes-places ps t) ∙ any_passes_from_place (λ u. term_eq u t) (holes_of ps) i t e (term_itself t))
        ∙ ap (option_map sort_of_term) (sym e)
