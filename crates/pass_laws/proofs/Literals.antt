-- The literals of a script's points are those of its checks, whatever is asserted; and literals that may be printed are
-- formulas.
use Rattle.std.proofs.Common.{◌≡◌, ◌∙◌, sym, ap, refl, ℕ, zero, suc, eqb, true, false, not, ◌&&◌, List, [], ◌∷◌, map, length, Option, Some, None, subst, arith}
use Rattle.std.specs.Prelude.{is_some}
use Rattle.std.proofs.lemmas.Bool.{ne_eqb}
use Rattle.smt_terms.specs.declared.op.Op.TheVariants.{Not}
use Rattle.smt_terms.specs.Free.{is_among as is_among_symbols}
use Rattle.smt_terms.specs.Rank.{rank, with_sort, sort_over, sort_of, is_regular, is_minus, is_minus_of, IsWellSorted}
use Rattle.smt_terms.specs.Shapes.{is_bool}
use Rattle.smt_terms.specs.Sorts.{Name, Sort, bool, Symbol}
use Rattle.smt_terms.specs.Term.{op, symbol, const_array, Term, apply, quantified, none, ◌⨾◌, constant}
use Rattle.smt_terms.proofs.Equal.{Decides-sort_eq}
use Rattle.smt_terms.proofs.Keeping.{not_minus}
use Rattle.smt_terms.proofs.Tests.{both_true, and_true}
use Rattle.script_read.specs.Commands.{Command, check, check_assuming, State, start, after, Point, with_point, points_from, points, nth_point, at_point, symbols_of_state, literals}
use Rattle.script_read.specs.Printable.{is_live_constant, is_live_literal}
use Rattle.script_terms.specs.Read.{is_of_sort, has_sort}

-- ---- literals by commands

-- of a check, before those of the later points
abbrev pub literals_before : Command Term → List (List Term) → List (List Term)
literals_before check later = [] ∷ later
literals_before (check_assuming ls) later = ls ∷ later
literals_before _ later = later

abbrev pub literals_in : List (Command Term) → List (List Term)
literals_in [] = [] ∷ []
literals_in (c ∷ cs) = literals_before c (literals_in cs)

nth_literals : List (List Term) → ℕ → List Term
nth_literals [] k = []
nth_literals (ls ∷ more) zero = []
nth_literals (ls ∷ more) (suc zero) = ls
nth_literals (ls ∷ more) (suc (suc k)) = nth_literals more (suc k)

point_literals : (c : Command Term) (s : State Term) (ps : List (Point Term)) → map (λ p. p.literals) (with_point c s ps) ≡ literals_before c (map (λ p. p.literals) ps)
point_literals check s ps = refl
point_literals (check_assuming ls) s ps = refl
point_literals _ s ps = refl

points_literals : (s : State Term) (cs : List (Command Term)) → map (λ p. p.literals) (points_from s cs) ≡ literals_in cs
points_literals s [] = refl
points_literals s (c ∷ cs) = point_literals c s (points_from (after c s) cs) ∙ ap (literals_before c) (points_literals (after c s) cs)

literals_at : (ps : List (Point Term)) (k : ℕ) → at_point (λ p. p.literals) (nth_point ps k) ≡ nth_literals (map (λ p. p.literals) ps) k
unfolding nth_literals
literals_at [] k = refl
literals_at (p ∷ ps) zero = refl
literals_at (p ∷ ps) (suc zero) = refl
literals_at (p ∷ ps) (suc (suc k)) = literals_at ps (suc k)

literals_are : (cs : List (Command Term)) (k : ℕ) → literals cs k ≡ nth_literals (literals_in cs) k
literals_are cs k = literals_at (points cs) k ∙ ap (λ ls. nth_literals ls k) (points_literals start cs)

pub same_literals : (cs ds : List (Command Term)) → literals_in ds ≡ literals_in cs → (k : ℕ) → literals ds k ≡ literals cs k
same_literals cs ds h k = literals_are ds k ∙ ap (λ ls. nth_literals ls k) h ∙ sym (literals_are cs k)

-- ---- formulas

pub record IsFormula (t : Term) : Type 0 where
  pub sort : sort_of t ≡ Some bool
  pub regular : is_regular t ≡ true

pub formula_sorted : (t : Term) → IsFormula t → IsWellSorted t
formula_sorted t fine = and_true (is_some (sort_of t)) (is_regular t) (ap is_some fine.sort) fine.regular

pub sort_is_bool : (o : Option Sort) → is_of_sort bool o ≡ true → o ≡ Some bool
sort_is_bool None e = absurd cc
sort_is_bool (Some s) e = ap Some ((Decides-sort_eq s bool).0 e)

pub sorted_formula : (t : Term) → has_sort bool t ≡ true → IsWellSorted t → IsFormula t
sorted_formula t formula sorted = record { sort = sort_is_bool (sort_of t) formula; regular = (both_true (is_some (sort_of t)) (is_regular t) sorted).1 }

bool_sort : (s : Sort) → is_bool s ≡ true → s ≡ bool
bool_sort bool h = refl
bool_sort _ h = absurd cc

pub no_arguments : (ss : List Sort) → eqb (length ss) 0 ≡ true → ss ≡ []
no_arguments [] h = refl
no_arguments (s ∷ ss) h = let more : eqb (suc (length ss)) 0 ≡ false = ne_eqb (suc (length ss)) 0 (λ none. omega (arith, none)) in absurd cc

flag : Name → Symbol
flag n = record { name = n; args = []; result = bool }

flag_fine : (n : Name) → IsFormula (constant (flag n))
unfolding rank is_minus_of flag
flag_fine n = record { sort = refl; regular = refl }

constant_fine : (s : State Term) (t : Term) → is_live_constant s t ≡ true → IsFormula t
unfolding flag
constant_fine s (apply (symbol f) none) h =
    let parts = both_true (is_bool f.result) (eqb (length f.args) 0 && is_among_symbols (symbols_of_state s) f) h in
    let rest = both_true (eqb (length f.args) 0) (is_among_symbols (symbols_of_state s) f) parts.1 in
    let same : flag f.name ≡ f = λ i. record { name = f.name; args = sym (no_arguments f.args rest.0) i; result = sym (bool_sort f.result parts.0) i } in
    subst (λ g. IsFormula (constant g)) same (flag_fine f.name)
constant_fine s (apply (symbol f) (u ⨾ us)) h = absurd cc
constant_fine s (apply (op o) us) h = absurd cc
constant_fine s (apply (const_array a) us) h = absurd cc
constant_fine s (quantified q xs u) h = absurd cc

not_fine : (t : Term) → IsFormula t → IsFormula (apply (op Not) (t ⨾ none))
unfolding rank is_minus
not_fine t fine = record {
  sort = ap (λ o. sort_over (op Not) (with_sort o (Some []))) fine.sort;
  regular = and_true (not (is_minus_of (op Not) (t ⨾ none))) (is_regular t && true) (ap not (not_minus Not (t ⨾ none) refl)) (and_true (is_regular t) true fine.regular refl);
}

pub literal_fine : (s : State Term) (t : Term) → is_live_literal s t ≡ true → IsFormula t
literal_fine s (apply (op Not) (u ⨾ none)) h = not_fine u (constant_fine s u h)
literal_fine s u h = constant_fine s u h
