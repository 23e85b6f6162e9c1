-- An assertion that takes the place of one that may stand may stand there, too.
use Rattle.std.proofs.Common.{◌≡◌, ◌∙◌, sym, ap, refl, ℕ, Bool, true, ◌&&◌, inl, inr, List, [], ◌∷◌, subst}
use Rattle.std.specs.List.{list_all}
use Rattle.smt_terms.specs.Equal.{symbol_eq}
use Rattle.smt_terms.specs.Free.{is_among, free}
use Rattle.smt_terms.specs.Rank.{is_well_sorted, IsWellSorted}
use Rattle.smt_terms.specs.Shapes.{is_clear}
use Rattle.smt_terms.specs.Sorts.{bool, Symbol}
use Rattle.smt_terms.specs.Term.{Term}
use Rattle.smt_terms.proofs.Equal.{Decides-symbol_eq}
use Rattle.smt_terms.proofs.Tests.{both_true, and_true, either_true, left_true, right_true}
use Rattle.script_read.specs.Commands.{State, assert, sorts_of_state, symbols_of_state}
use Rattle.script_read.specs.Printable.{sort_is_live, all_within, is_usable, symbols_are_live, is_printable_term, may_stand}
use Rattle.script_terms.specs.Read.{is_of_sort, has_sort}
use Rattle.script_read.proofs.LiveSorts.{drawn_usable}
use Rattle.pass_laws.proofs.Assertions.{Kept}
use Rattle.pass_laws.proofs.Outlines.{DeclareTheSame}

-- what a test says of symbols it says of each
pub of_each : (test : Symbol → Bool) (fs : List Symbol) (g : Symbol) → list_all test fs ≡ true → is_among fs g ≡ true → test g ≡ true
of_each test [] g all among = absurd cc
of_each test (f ∷ fs) g all among =
    let parts = both_true (test f) (list_all test fs) all in
    elim (either_true (symbol_eq f g) (is_among fs g) among) [
      | inl here ↦ subst (λ h. test h ≡ true) ((Decides-symbol_eq f g).0 here) parts.0
      | inr there ↦ of_each test fs g parts.1 there
    ]

pub of_all : (test : Symbol → Bool) (gs : List Symbol) → ((g : Symbol) → is_among gs g ≡ true → test g ≡ true) → list_all test gs ≡ true
of_all test [] each = refl
of_all test (g ∷ gs) each =
    and_true (test g) (list_all test gs) (each g (left_true (symbol_eq g g) (is_among gs g) ((Decides-symbol_eq g g).1 refl)))
    (of_all test gs (λ h among. each h (right_true (symbol_eq g h) (is_among gs h) among)))

-- the parts of an assertion that may stand
pub record Stands (s : State Term) (t : Term) : Type 0 where
  pub formula : has_sort bool t ≡ true
  pub sorted : IsWellSorted t
  pub clear : is_clear t ≡ true
  pub symbols : symbols_are_live s t ≡ true
  pub within : all_within (sort_is_live (sorts_of_state s)) is_usable t ≡ true

pub stands : (begun : Bool) (s : State Term) (i : ℕ) (t : Term) → may_stand begun s (assert i t) ≡ true → Stands s t
stands begun s i t h =
    let a = both_true (has_sort bool t) (is_printable_term s t) h in
    let b = both_true (is_well_sorted t) (is_clear t && (symbols_are_live s t && all_within (sort_is_live (sorts_of_state s)) is_usable t)) a.1 in
    let c = both_true (is_clear t) (symbols_are_live s t && all_within (sort_is_live (sorts_of_state s)) is_usable t) b.1 in
    let d = both_true (symbols_are_live s t) (all_within (sort_is_live (sorts_of_state s)) is_usable t) c.1 in
    record { formula = a.0; sorted = b.0; clear = c.0; symbols = d.0; within = d.1 }

pub may : (begun : Bool) (s : State Term) (i : ℕ) (t : Term) → Stands s t → may_stand begun s (assert i t) ≡ true
may begun s i t h =
    and_true (has_sort bool t) (is_printable_term s t) h.formula
    (and_true (is_well_sorted t) (is_clear t && (symbols_are_live s t && all_within (sort_is_live (sorts_of_state s)) is_usable t)) h.sorted
    (and_true (is_clear t) (symbols_are_live s t && all_within (sort_is_live (sorts_of_state s)) is_usable t) h.clear
    (and_true (symbols_are_live s t) (all_within (sort_is_live (sorts_of_state s)) is_usable t) h.symbols h.within)))

pub stands_still : (begun : Bool) (s r : State Term) → DeclareTheSame s r → (i : ℕ) (t u : Term) → Kept t u → Stands s t → may_stand begun r (assert i u) ≡ true
stands_still begun s r same i t u kept h = may begun r i u (record {
  formula = ap (is_of_sort bool) kept.keeps.sort ∙ h.formula;
  sorted = kept.keeps.sorted;
  clear = kept.clear h.clear;
  symbols = of_all (λ f. is_among (symbols_of_state r) f) (free u) (λ g among. of_each (λ f. is_among (symbols_of_state r) f) (free t) g (ap (λ fs. list_all (λ f. is_among fs f) (free t)) (sym same.symbols) ∙ h.symbols) (kept.symbols g among));
  within = kept.within (sort_is_live (sorts_of_state r)) is_usable drawn_usable (ap (λ ns. all_within (sort_is_live ns) is_usable t) (sym same.sorts) ∙ h.within);
})
