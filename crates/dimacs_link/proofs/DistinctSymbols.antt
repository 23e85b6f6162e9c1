-- The symbols that are declared at a check of commands that can be printed are different.
use Rattle.std.proofs.Common.{◌≡◌, ◌∙◌, sym, ap, refl, subst, ℕ, zero, suc, Bool, true, false, cond, not, ◌&&◌, ◌||◌, List, [], ◌∷◌, ◌++◌, filter, drop, replicate, append_assoc, append-nil, Option, Some, None}
use Rattle.std.specs.Prelude.{IfSome, bytes_eq}
use Rattle.std.specs.List.{list_all}
use Rattle.smt_lex.specs.Names.{is_among as is_among_names}
use Rattle.smt_terms.specs.Equal.{symbol_eq}
use Rattle.smt_terms.specs.Free.{is_among, names_of}
use Rattle.smt_terms.specs.Rank.{is_sort}
use Rattle.smt_terms.specs.Sorts.{Symbol}
use Rattle.smt_terms.specs.Term.{Term}
use Rattle.smt_terms.proofs.Among.{is_among-append}
use Rattle.smt_terms.proofs.Equal.{name_itself, Decides-symbol_eq}
use Rattle.smt_terms.proofs.Tests.{both_true, and_true, both_false, or_false, not_true, contrary}
use Rattle.script_read.specs.Commands.{Command, passed, declare_sort, declare, assert, check, check_assuming, push, pop, reset, reset_assertions, globals, exit, Level, State, empty_level, start, throughout, on_latest, with_sort, with_symbol, with_assertion, with_declarations, folded, levels_popped, levels_emptied, after, sorts_of_state, symbols_of_state, Point, with_point, points_from, points, nth_point, at_point, signature}
use Rattle.script_read.specs.Printable.{is_usable, sort_is_live, is_new_symbol, may_stand, fixes, may_be_followed, printable_from, printable}
use Rattle.dimacs_link.specs.Constants.{are_distinct}
use Rattle.dimacs_link.proofs.Numbering.{symmetric}

-- ---- lists

not_named : (fs : List Symbol) (f : Symbol) → is_among_names (names_of fs) f.name ≡ false → is_among fs f ≡ false
not_named [] f none = refl
not_named (g ∷ fs) f none =
    let parts = both_false (bytes_eq f.name g.name) (is_among_names (names_of fs) f.name) none in
    or_false (symbol_eq g f) (is_among fs f) (by (symbol_eq g f) refl parts.0) (not_named fs f parts.1)
  where
    by : (b : Bool) → symbol_eq g f ≡ b → bytes_eq f.name g.name ≡ false → b ≡ false
    by true same other = contrary (bytes_eq f.name g.name) (ap (λ (h : Symbol). bytes_eq f.name h.name) ((Decides-symbol_eq g f).0 same) ∙ name_itself f.name) other
    by false same other = refl

one_more_distinct : (fs : List Symbol) (f : Symbol) → are_distinct fs ≡ true → is_among fs f ≡ false → are_distinct (fs ++ f ∷ []) ≡ true
one_more_distinct [] f all none = refl
one_more_distinct (g ∷ fs) f all none =
    let parts = both_true (not (is_among fs g)) (are_distinct fs) all in
    let other = both_false (symbol_eq g f) (is_among fs f) none in
    and_true (not (is_among (fs ++ f ∷ []) g)) (are_distinct (fs ++ f ∷ []))
    (ap not (is_among-append fs (f ∷ []) g ∙ or_false (is_among fs g) (symbol_eq f g || false) (not_true (is_among fs g) parts.0) (or_false (symbol_eq f g) false (symmetric f g ∙ other.0) refl)))
    (one_more_distinct fs f parts.1 other.1)

left_distinct : (fs gs : List Symbol) → are_distinct (fs ++ gs) ≡ true → are_distinct fs ≡ true
left_distinct [] gs all = refl
left_distinct (f ∷ fs) gs all =
    let parts = both_true (not (is_among (fs ++ gs) f)) (are_distinct (fs ++ gs)) all in
    let other = both_false (is_among fs f) (is_among gs f) (sym (is_among-append fs gs f) ∙ not_true (is_among (fs ++ gs) f) parts.0) in
    and_true (not (is_among fs f)) (are_distinct fs) (ap not other.0) (left_distinct fs gs parts.1)

missing_kept : (p : Symbol → Bool) (fs : List Symbol) (f : Symbol) → is_among fs f ≡ false → is_among (filter p fs) f ≡ false
missing_kept p [] f none = refl
missing_kept p (g ∷ fs) f none = let parts = both_false (symbol_eq g f) (is_among fs f) none in go (p g) parts.0 (missing_kept p fs f parts.1)
  where
    go : (b : Bool) → symbol_eq g f ≡ false → is_among (filter p fs) f ≡ false → is_among (cond b (g ∷ filter p fs) (filter p fs)) f ≡ false
    go true here below = or_false (symbol_eq g f) (is_among (filter p fs) f) here below
    go false here below = below

pub kept_distinct : (p : Symbol → Bool) (fs : List Symbol) → are_distinct fs ≡ true → are_distinct (filter p fs) ≡ true
kept_distinct p [] all = refl
kept_distinct p (f ∷ fs) all =
    let parts = both_true (not (is_among fs f)) (are_distinct fs) all in
    go (p f) (missing_kept p fs f (not_true (is_among fs f) parts.0)) (kept_distinct p fs parts.1)
  where
    go : (b : Bool) → is_among (filter p fs) f ≡ false → are_distinct (filter p fs) ≡ true → are_distinct (cond b (f ∷ filter p fs) (filter p fs)) ≡ true
    go true none below = and_true (not (is_among (filter p fs) f)) (are_distinct (filter p fs)) (ap not none) below
    go false none below = below

-- ---- levels

abbrev all_symbols : List (Level Term) → List Symbol
all_symbols ls = throughout (λ l. l.symbols) ls

abbrev AreDistinct : List Symbol → Type 0
AreDistinct fs = are_distinct fs ≡ true

kept_symbols : (change : Level Term → Level Term) → ((l : Level Term) → (change l).symbols ≡ l.symbols) → (ls : List (Level Term)) → all_symbols (on_latest change ls) ≡ all_symbols ls
kept_symbols change same [] = same empty_level
kept_symbols change same (l ∷ ls) = ap (λ fs. all_symbols ls ++ fs) (same l)

declared_symbols : (f : Symbol) (ls : List (Level Term)) → all_symbols (on_latest (with_symbol f) ls) ≡ all_symbols ls ++ f ∷ []
declared_symbols f [] = refl
declared_symbols f (l ∷ ls) = sym (append_assoc (all_symbols ls) l.symbols (f ∷ []))

pushed_symbols : (n : ℕ) (ls : List (Level Term)) → all_symbols (replicate n empty_level ++ ls) ≡ all_symbols ls
pushed_symbols zero ls = refl
pushed_symbols (suc n) ls = append-nil (all_symbols (replicate n empty_level ++ ls)) ∙ pushed_symbols n ls

folded_symbols : (n : ℕ) (ls : List (Level Term)) → all_symbols (folded n ls) ≡ all_symbols ls
folded_symbols zero ls = refl
folded_symbols (suc n) [] = refl
folded_symbols (suc n) (l ∷ []) = refl
folded_symbols (suc n) (k ∷ l ∷ ls) = folded_symbols n (with_declarations k l ∷ ls) ∙ sym (append_assoc (all_symbols ls) l.symbols k.symbols)

dropped_distinct : (n : ℕ) (ls : List (Level Term)) → AreDistinct (all_symbols ls) → AreDistinct (all_symbols (drop n ls))
dropped_distinct zero ls all = all
dropped_distinct (suc n) [] all = all
dropped_distinct (suc n) (l ∷ ls) all = dropped_distinct n ls (left_distinct (all_symbols ls) l.symbols all)

popped_distinct : (global : Bool) (n : ℕ) (ls : List (Level Term)) → AreDistinct (all_symbols ls) → AreDistinct (all_symbols (levels_popped global n ls))
popped_distinct true n ls all = subst AreDistinct (sym (folded_symbols n ls)) all
popped_distinct false n ls all = dropped_distinct n ls all

emptied_distinct : (global : Bool) (ls : List (Level Term)) → AreDistinct (all_symbols ls) → AreDistinct (all_symbols (levels_emptied global ls))
emptied_distinct true ls all = all
emptied_distinct false ls all = refl

-- ---- states

new_distinct : (s : State Term) (f : Symbol) → is_new_symbol s f ≡ true → AreDistinct (symbols_of_state s) → AreDistinct (symbols_of_state s ++ f ∷ [])
new_distinct s f new all =
    let a = both_true (is_usable f.name) (not (is_among_names (names_of (symbols_of_state s)) f.name) && list_all (λ to. is_sort to && sort_is_live (sorts_of_state s) to) (f.result ∷ f.args)) new in
    let b = both_true (not (is_among_names (names_of (symbols_of_state s)) f.name)) (list_all (λ to. is_sort to && sort_is_live (sorts_of_state s) to) (f.result ∷ f.args)) a.1 in
    one_more_distinct (symbols_of_state s) f all (not_named (symbols_of_state s) f (not_true (is_among_names (names_of (symbols_of_state s)) f.name) b.0))

after_distinct : (begun : Bool) (c : Command Term) (s : State Term) → may_stand begun s c ≡ true → AreDistinct (symbols_of_state s) → AreDistinct (symbols_of_state (after c s))
after_distinct begun (declare_sort n) s h all = subst AreDistinct (sym (kept_symbols (with_sort n) (λ l. refl) s.levels)) all
after_distinct begun (declare f) s h all = subst AreDistinct (sym (declared_symbols f s.levels)) (new_distinct s f h all)
after_distinct begun (assert i t) s h all = subst AreDistinct (sym (kept_symbols (with_assertion t) (λ l. refl) s.levels)) all
after_distinct begun (push n) s h all = subst AreDistinct (sym (pushed_symbols n s.levels)) all
after_distinct begun (pop n) s h all = popped_distinct s.global n s.levels all
after_distinct begun reset_assertions s h all = emptied_distinct s.global s.levels all
after_distinct begun reset s h all = refl
after_distinct begun (globals b) s h all = all
after_distinct begun (passed text) s h all = all
after_distinct begun check s h all = all
after_distinct begun (check_assuming ls) s h all = all
after_distinct begun exit s h all = all

-- ---- points

abbrev IsPointDistinct : Point Term → Type 0
IsPointDistinct p = AreDistinct (symbols_of_state p.state)

abbrev PointsDistinct : List (Point Term) → Type 0
PointsDistinct [] = Unit {0}
PointsDistinct (p ∷ ps) = IsPointDistinct p × PointsDistinct ps

with_point_distinct : (c : Command Term) (s : State Term) (ps : List (Point Term)) → AreDistinct (symbols_of_state s) → PointsDistinct ps → PointsDistinct (with_point c s ps)
with_point_distinct check s ps all below = (all, below)
with_point_distinct (check_assuming ls) s ps all below = (all, below)
with_point_distinct _ s ps all below = below

points_distinct : (cs : List (Command Term)) (begun : Bool) (s : State Term) → printable_from begun s cs ≡ true → AreDistinct (symbols_of_state s) → PointsDistinct (points_from s cs)
points_distinct [] begun s h all = (all, tt)
points_distinct (c ∷ cs) begun s h all =
    let here = both_true (may_stand begun s c) (may_be_followed c cs && printable_from (fixes begun c) (after c s) cs) h in
    let there = both_true (may_be_followed c cs) (printable_from (fixes begun c) (after c s) cs) here.1 in
    with_point_distinct c s (points_from (after c s) cs) all (points_distinct cs (fixes begun c) (after c s) there.1 (after_distinct begun c s here.0 all))

nth_distinct : (ps : List (Point Term)) (k : ℕ) → PointsDistinct ps → IfSome (nth_point ps k) IsPointDistinct
nth_distinct [] k all = tt
nth_distinct (p ∷ ps) zero all = tt
nth_distinct (p ∷ ps) (suc zero) all = all.0
nth_distinct (p ∷ ps) (suc (suc k)) all = nth_distinct ps (suc k) all.1

symbols_at_point : (o : Option (Point Term)) → IfSome o IsPointDistinct → AreDistinct (at_point (λ p. symbols_of_state p.state) o)
symbols_at_point None all = refl
symbols_at_point (Some p) all = all

pub signature_distinct : (cs : List (Command Term)) (k : ℕ) → printable cs ≡ true → are_distinct (signature cs k).symbols ≡ true
signature_distinct cs k h = symbols_at_point (nth_point (points cs) k) (nth_distinct (points cs) k (points_distinct cs false start h refl))
