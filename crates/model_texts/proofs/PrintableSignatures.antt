-- The signature at a point of a printable script is one over which models can be written, and texts of models read.
use Rattle.std.proofs.Common.{◌≡◌, ℕ, zero, suc, inl, inr, Bool, true, false, not, ◌&&◌, List, [], ◌∷◌, ◌++◌, drop, replicate, refl, ap, sym, ◌∙◌, subst, append_assoc, append-nil}
use Rattle.std.specs.Prelude.{IsTrue}
use Rattle.std.specs.List.{list_all}
use Rattle.std.proofs.lemmas.List.{map-append}
use Rattle.smt_lex.specs.Names.{is_among, is_internal, is_theory_name, is_reserved_for_declaring, is_reserved_for_sorts}
use Rattle.smt_terms.specs.Equal.{name_eq}
use Rattle.smt_terms.specs.Free.{names_of}
use Rattle.smt_terms.specs.Rank.{is_sort}
use Rattle.smt_terms.specs.Sorts.{Name, Sort, bool, int, bit_vector, array, free_sort, Symbol}
use Rattle.smt_terms.specs.Term.{Term}
use Rattle.smt_terms.proofs.Equal.{name_same}
use Rattle.smt_terms.proofs.Tests.{true_or_false, both_true, and_true, either_true, left_true, right_true, both_false, or_false, not_true, contrary}
use Rattle.script_read.specs.Commands.{Command, passed, declare_sort, declare, assert, check, check_assuming, push, pop, reset, reset_assertions, globals, exit, Level, State, empty_level, start, throughout, on_latest, with_sort, with_symbol, with_assertion, with_declarations, folded, levels_popped, levels_emptied, after, Point, with_point, points_from, points, nth_point, at_point, sorts_of_state, symbols_of_state, signature}
use Rattle.script_read.specs.Printable.{is_writable, is_usable, sort_is_live, is_new_symbol, may_stand, may_be_followed, fixes, printable_from, printable}
use Rattle.model_texts.specs.Entries.{division_table, modulus_table}
use Rattle.model_texts.specs.Laws.{has_writable_names, is_writable_sort, is_writable_symbol, is_writable_signature, SignaturesAreWritable, SignaturesAreProper}
use Rattle.model_texts.specs.Proper.{is_table_name, are_distinct, rank_is_live}
use Rattle.model_texts.proofs.DistinctNames.{distinct_with}

-- ---- sorts over writable names

live_writable : (ns : List Name) (n : Name) → list_all is_writable ns ≡ true → is_among ns n ≡ true → is_writable n ≡ true
live_writable [] n plain there = absurd cc
live_writable (m ∷ ns) n plain there =
    let parts = both_true (is_writable m) (list_all is_writable ns) plain in
    elim (either_true (name_eq n m) (is_among ns n) there) [
      | inl same ↦ ap is_writable (name_same n m same) ∙ parts.0
      | inr behind ↦ live_writable ns n parts.1 behind
    ]

sort_writable : (ns : List Name) (s : Sort) → list_all is_writable ns ≡ true → sort_is_live ns s ≡ true → has_writable_names s ≡ true
sort_writable ns bool plain live = refl
sort_writable ns int plain live = refl
sort_writable ns (bit_vector w) plain live = refl
sort_writable ns (array i e) plain live =
    let parts = both_true (sort_is_live ns i) (sort_is_live ns e) live in
    and_true (has_writable_names i) (has_writable_names e) (sort_writable ns i plain parts.0) (sort_writable ns e plain parts.1)
sort_writable ns (free_sort n) plain live = live_writable ns n plain live

sorts_writable : (ns : List Name) (ss : List Sort) → list_all is_writable ns ≡ true → list_all (λ to. is_sort to && sort_is_live ns to) ss ≡ true → list_all is_writable_sort ss ≡ true
sorts_writable ns [] plain live = refl
sorts_writable ns (s ∷ ss) plain live =
    let a = both_true (is_sort s && sort_is_live ns s) (list_all (λ to. is_sort to && sort_is_live ns to) ss) live in
    let b = both_true (is_sort s) (sort_is_live ns s) a.0 in
    and_true (is_writable_sort s) (list_all is_writable_sort ss) (and_true (is_sort s) (has_writable_names s) b.0 (sort_writable ns s plain b.1)) (sorts_writable ns ss plain a.1)

-- ---- a symbol that is declared

-- a name that isn't one of the solvers' is none of the two tables'
not_a_table : (n : Name) → is_internal n ≡ false → is_table_name n ≡ false
not_a_table n outer = or_false (name_eq n division_table) (name_eq n modulus_table) (other division_table refl) (other modulus_table refl)
  where
    other : (m : Name) → is_internal m ≡ true → name_eq n m ≡ false
    other m inner = elim (true_or_false (name_eq n m)) [
      | inl same ↦ contrary (is_internal n) (ap is_internal (name_same n m same) ∙ inner) outer
      | inr apart ↦ apart
    ]

outer_name : (n : Name) → is_reserved_for_declaring n ≡ false → is_internal n ≡ false
unfolding is_reserved_for_declaring
outer_name n free = (both_false (is_internal n) (is_theory_name n) free).0

-- what a new symbol is
record IsNew (sorts : List Name) (symbols : List Symbol) (f : Symbol) : Type 0 where
  name : is_writable f.name ≡ true
  outer : is_internal f.name ≡ false
  apart : is_among (names_of symbols) f.name ≡ false
  live : list_all (λ to. is_sort to && sort_is_live sorts to) (f.result ∷ f.args) ≡ true

is_new : (s : State Term) (f : Symbol) → is_new_symbol s f ≡ true → IsNew (sorts_of_state s) (symbols_of_state s) f
is_new s f new =
    let apart = not (is_among (names_of (symbols_of_state s)) f.name) in
    let live = list_all (λ to. is_sort to && sort_is_live (sorts_of_state s) to) (f.result ∷ f.args) in
    let a = both_true (is_usable f.name) (apart && live) new in
    let b = both_true (is_writable f.name) (not (is_reserved_for_declaring f.name)) a.0 in
    let c = both_true apart live a.1 in
    record {
      name = b.0;
      outer = outer_name f.name (not_true (is_reserved_for_declaring f.name) b.1);
      apart = not_true (is_among (names_of (symbols_of_state s)) f.name) c.0;
      live = c.1;
    }

new_writable : (sorts : List Name) (symbols : List Symbol) (f : Symbol) → IsNew sorts symbols f → list_all is_writable sorts ≡ true → is_writable_symbol f ≡ true
new_writable sorts symbols f new plain =
    let rest = list_all is_writable_sort (f.result ∷ f.args) in
    and_true (is_writable f.name) (not (is_table_name f.name) && rest) new.name
    (and_true (not (is_table_name f.name)) rest (ap not (not_a_table f.name new.outer)) (sorts_writable sorts (f.result ∷ f.args) plain new.live))

-- ---- one more sort, one more symbol

-- models can be written over these, and the symbols speak of these sorts alone
abbrev IsFine : List Name → List Symbol → Type 0
IsFine sorts symbols = IsTrue (is_writable_signature (record { sorts = sorts; symbols = symbols })) × IsTrue (list_all (rank_is_live sorts) symbols)

-- a sort stays live as more are declared
among_more : (ns : List Name) (n m : Name) → is_among ns m ≡ true → is_among (ns ++ n ∷ []) m ≡ true
among_more [] n m there = absurd cc
among_more (k ∷ ns) n m there =
    elim (either_true (name_eq m k) (is_among ns m) there) [
      | inl same ↦ left_true (name_eq m k) (is_among (ns ++ n ∷ []) m) same
      | inr behind ↦ right_true (name_eq m k) (is_among (ns ++ n ∷ []) m) (among_more ns n m behind)
    ]

sort_live : (ns : List Name) (n : Name) (s : Sort) → sort_is_live ns s ≡ true → sort_is_live (ns ++ n ∷ []) s ≡ true
sort_live ns n bool live = refl
sort_live ns n int live = refl
sort_live ns n (bit_vector w) live = refl
sort_live ns n (array i e) live =
    let parts = both_true (sort_is_live ns i) (sort_is_live ns e) live in
    and_true (sort_is_live (ns ++ n ∷ []) i) (sort_is_live (ns ++ n ∷ []) e) (sort_live ns n i parts.0) (sort_live ns n e parts.1)
sort_live ns n (free_sort m) live = among_more ns n m live

rank_live : (ns : List Name) (n : Name) (ss : List Sort) → list_all (sort_is_live ns) ss ≡ true → list_all (sort_is_live (ns ++ n ∷ [])) ss ≡ true
rank_live ns n [] live = refl
rank_live ns n (s ∷ ss) live =
    let parts = both_true (sort_is_live ns s) (list_all (sort_is_live ns) ss) live in
    and_true (sort_is_live (ns ++ n ∷ []) s) (list_all (sort_is_live (ns ++ n ∷ [])) ss) (sort_live ns n s parts.0) (rank_live ns n ss parts.1)

ranks_live : (ns : List Name) (n : Name) (fs : List Symbol) → list_all (rank_is_live ns) fs ≡ true → list_all (rank_is_live (ns ++ n ∷ [])) fs ≡ true
ranks_live ns n [] live = refl
ranks_live ns n (f ∷ fs) live =
    let parts = both_true (rank_is_live ns f) (list_all (rank_is_live ns) fs) live in
    and_true (rank_is_live (ns ++ n ∷ []) f) (list_all (rank_is_live (ns ++ n ∷ [])) fs) (rank_live ns n (f.result ∷ f.args) parts.0) (ranks_live ns n fs parts.1)

sorts_live : (ns : List Name) (ss : List Sort) → list_all (λ to. is_sort to && sort_is_live ns to) ss ≡ true → list_all (sort_is_live ns) ss ≡ true
sorts_live ns [] live = refl
sorts_live ns (s ∷ ss) live =
    let a = both_true (is_sort s && sort_is_live ns s) (list_all (λ to. is_sort to && sort_is_live ns to) ss) live in
    and_true (sort_is_live ns s) (list_all (sort_is_live ns) ss) (both_true (is_sort s) (sort_is_live ns s) a.0).1 (sorts_live ns ss a.1)

all_with : {A : Type 0} (test : A → Bool) (xs : List A) (x : A) → list_all test xs ≡ true → test x ≡ true → list_all test (xs ++ x ∷ []) ≡ true
all_with test [] x before here = and_true (test x) true here refl
all_with test (y ∷ xs) x before here =
    let parts = both_true (test y) (list_all test xs) before in
    and_true (test y) (list_all test (xs ++ x ∷ [])) parts.0 (all_with test xs x parts.1 here)

module _ (sorts : List Name) (symbols : List Symbol) (fine : IsFine sorts symbols) where
  plain : list_all is_writable sorts ≡ true
  plain = (both_true (list_all is_writable sorts) (list_all is_writable_symbol symbols && are_distinct (names_of symbols)) fine.0).0

  others : (list_all is_writable_symbol symbols && are_distinct (names_of symbols)) ≡ true
  others = (both_true (list_all is_writable sorts) (list_all is_writable_symbol symbols && are_distinct (names_of symbols)) fine.0).1

  sort_more : (n : Name) → is_writable n ≡ true → IsFine (sorts ++ n ∷ []) symbols
  sort_more n writable = (
    and_true (list_all is_writable (sorts ++ n ∷ [])) (list_all is_writable_symbol symbols && are_distinct (names_of symbols)) (all_with is_writable sorts n plain writable) others,
    ranks_live sorts n symbols fine.1,
  )

  symbol_more : (f : Symbol) → IsNew sorts symbols f → IsFine sorts (symbols ++ f ∷ [])
  symbol_more f new =
      let parts = both_true (list_all is_writable_symbol symbols) (are_distinct (names_of symbols)) others in
      let distinct : are_distinct (names_of (symbols ++ f ∷ [])) ≡ true =
      ap are_distinct (map-append (λ (g : Symbol). g.name) symbols (f ∷ [])) ∙ distinct_with (names_of symbols) f.name parts.1 new.apart in (
        and_true (list_all is_writable sorts) (list_all is_writable_symbol (symbols ++ f ∷ []) && are_distinct (names_of (symbols ++ f ∷ []))) plain
            (and_true (list_all is_writable_symbol (symbols ++ f ∷ [])) (are_distinct (names_of (symbols ++ f ∷ []))) (all_with is_writable_symbol symbols f parts.0 (new_writable sorts symbols f new plain)) distinct),
        all_with (rank_is_live sorts) symbols f fine.1 (sorts_live sorts (f.result ∷ f.args) new.live),
      )

-- ---- levels

abbrev sorts_of : List (Level Term) → List Name
sorts_of ls = throughout (λ (l : Level Term). l.sorts) ls

abbrev symbols_of : List (Level Term) → List Symbol
symbols_of ls = throughout (λ (l : Level Term). l.symbols) ls

-- whichever of the latest levels are closed
abbrev AreFine : List (Level Term) → Type 0
AreFine [] = Unit {0}
AreFine (l ∷ ls) = IsFine (sorts_of (l ∷ ls)) (symbols_of (l ∷ ls)) × AreFine ls

now_fine : (ls : List (Level Term)) → AreFine ls → IsFine (sorts_of ls) (symbols_of ls)
now_fine [] fine = (refl, refl)
now_fine (l ∷ ls) fine = fine.0

fine_as : (ms ns : List Name) (fs gs : List Symbol) → ms ≡ ns → fs ≡ gs → IsFine ms fs → IsFine ns gs
fine_as ms ns fs gs sorts symbols fine = subst (IsFine ns) symbols (subst (λ ns. IsFine ns fs) sorts fine)

sort_fine : (n : Name) (ls : List (Level Term)) → is_writable n ≡ true → AreFine ls → AreFine (on_latest (with_sort n) ls)
sort_fine n [] writable fine = (sort_more [] [] (refl, refl) n writable, tt)
sort_fine n (l ∷ ls) writable fine =
    let more = sort_more (sorts_of (l ∷ ls)) (symbols_of (l ∷ ls)) fine.0 n writable in
    (fine_as (sorts_of (l ∷ ls) ++ n ∷ []) (sorts_of ls ++ (l.sorts ++ n ∷ [])) (symbols_of (l ∷ ls)) (symbols_of (l ∷ ls)) (append_assoc (sorts_of ls) l.sorts (n ∷ [])) refl more, fine.1)

symbol_fine : (f : Symbol) (ls : List (Level Term)) → IsNew (sorts_of ls) (symbols_of ls) f → AreFine ls → AreFine (on_latest (with_symbol f) ls)
symbol_fine f [] new fine = (symbol_more [] [] (refl, refl) f new, tt)
symbol_fine f (l ∷ ls) new fine =
    let more = symbol_more (sorts_of (l ∷ ls)) (symbols_of (l ∷ ls)) fine.0 f new in
    (fine_as (sorts_of (l ∷ ls)) (sorts_of (l ∷ ls)) (symbols_of (l ∷ ls) ++ f ∷ []) (symbols_of ls ++ (l.symbols ++ f ∷ [])) refl (append_assoc (symbols_of ls) l.symbols (f ∷ [])) more, fine.1)

assertion_fine : (t : Term) (ls : List (Level Term)) → AreFine ls → AreFine (on_latest (with_assertion t) ls)
assertion_fine t [] fine = ((refl, refl), tt)
assertion_fine t (l ∷ ls) fine = fine

pushed_fine : (n : ℕ) (ls : List (Level Term)) → AreFine ls → AreFine (replicate n empty_level ++ ls)
pushed_fine zero ls fine = fine
pushed_fine (suc n) ls fine =
    let behind = pushed_fine n ls fine in
    let more = replicate n empty_level ++ ls in
    (fine_as (sorts_of more) (sorts_of more ++ []) (symbols_of more) (symbols_of more ++ []) (sym (append-nil (sorts_of more))) (sym (append-nil (symbols_of more))) (now_fine more behind), behind)

dropped_fine : (n : ℕ) (ls : List (Level Term)) → AreFine ls → AreFine (drop n ls)
dropped_fine zero ls fine = fine
dropped_fine (suc n) [] fine = tt
dropped_fine (suc n) (l ∷ ls) fine = dropped_fine n ls fine.1

folded_fine : (n : ℕ) (ls : List (Level Term)) → AreFine ls → AreFine (folded n ls)
folded_fine zero ls fine = fine
folded_fine (suc n) [] fine = tt
folded_fine (suc n) (l ∷ []) fine = fine
folded_fine (suc n) (above ∷ l ∷ ls) fine =
    folded_fine n (with_declarations above l ∷ ls) (
      fine_as (sorts_of (above ∷ l ∷ ls)) (sorts_of ls ++ (l.sorts ++ above.sorts)) (symbols_of (above ∷ l ∷ ls)) (symbols_of ls ++ (l.symbols ++ above.symbols))
          (append_assoc (sorts_of ls) l.sorts above.sorts) (append_assoc (symbols_of ls) l.symbols above.symbols) fine.0,
      fine.1.1,
    )

popped_fine : (global : Bool) (n : ℕ) (ls : List (Level Term)) → AreFine ls → AreFine (levels_popped global n ls)
popped_fine true n ls fine = folded_fine n ls fine
popped_fine false n ls fine = dropped_fine n ls fine

emptied_fine : (global : Bool) (ls : List (Level Term)) → AreFine ls → AreFine (levels_emptied global ls)
emptied_fine true ls fine = (now_fine ls fine, tt)
emptied_fine false ls fine = ((refl, refl), tt)

-- ---- commands

after_fine : (c : Command Term) (begun : Bool) (s : State Term) → may_stand begun s c ≡ true → AreFine s.levels → AreFine (after c s).levels
after_fine (declare_sort n) begun s may fine =
    sort_fine n s.levels (both_true (is_writable n) (not (is_reserved_for_sorts n) && not (is_among (sorts_of_state s) n)) may).0 fine
after_fine (declare f) begun s may fine = symbol_fine f s.levels (is_new s f may) fine
after_fine (assert i t) begun s may fine = assertion_fine t s.levels fine
after_fine (push n) begun s may fine = pushed_fine n s.levels fine
after_fine (pop n) begun s may fine = popped_fine s.global n s.levels fine
after_fine reset_assertions begun s may fine = emptied_fine s.global s.levels fine
after_fine reset begun s may fine = ((refl, refl), tt)
after_fine (globals b) begun s may fine = fine
after_fine (passed text) begun s may fine = fine
after_fine check begun s may fine = fine
after_fine (check_assuming ls) begun s may fine = fine
after_fine exit begun s may fine = fine

abbrev PointsFine : List (Point Term) → Type 0
PointsFine [] = Unit {0}
PointsFine (p ∷ ps) = AreFine p.state.levels × PointsFine ps

point_fine : (c : Command Term) (s : State Term) (ps : List (Point Term)) → AreFine s.levels → PointsFine ps → PointsFine (with_point c s ps)
point_fine check s ps fine behind = (fine, behind)
point_fine (check_assuming ls) s ps fine behind = (fine, behind)
point_fine (declare_sort n) s ps fine behind = behind
point_fine (declare f) s ps fine behind = behind
point_fine (assert i t) s ps fine behind = behind
point_fine (push n) s ps fine behind = behind
point_fine (pop n) s ps fine behind = behind
point_fine reset_assertions s ps fine behind = behind
point_fine reset s ps fine behind = behind
point_fine (globals b) s ps fine behind = behind
point_fine (passed text) s ps fine behind = behind
point_fine exit s ps fine behind = behind

points_fine : (cs : List (Command Term)) (begun : Bool) (s : State Term) → printable_from begun s cs ≡ true → AreFine s.levels → PointsFine (points_from s cs)
points_fine [] begun s may fine = (fine, tt)
points_fine (c ∷ cs) begun s may fine =
    let a = both_true (may_stand begun s c) (may_be_followed c cs && printable_from (fixes begun c) (after c s) cs) may in
    let b = both_true (may_be_followed c cs) (printable_from (fixes begun c) (after c s) cs) a.1 in
    point_fine c s (points_from (after c s) cs) fine (points_fine cs (fixes begun c) (after c s) b.1 (after_fine c begun s a.0 fine))

point_at : (ps : List (Point Term)) (k : ℕ) → PointsFine ps
    → IsFine (at_point (λ (p : Point Term). sorts_of_state p.state) (nth_point ps k)) (at_point (λ (p : Point Term). symbols_of_state p.state) (nth_point ps k))
point_at [] k fine = (refl, refl)
point_at (p ∷ ps) zero fine = (refl, refl)
point_at (p ∷ ps) (suc zero) fine = now_fine p.state.levels fine.0
point_at (p ∷ ps) (suc (suc k)) fine = point_at ps (suc k) fine.1

signature_fine : (cs : List (Command Term)) (k : ℕ) → printable cs ≡ true → IsFine (signature cs k).sorts (signature cs k).symbols
signature_fine cs k may = point_at (points cs) k (points_fine cs false start may ((refl, refl), tt))

pub signatures_are_writable : SignaturesAreWritable
signatures_are_writable cs k may = (signature_fine cs k may).0

no_table_name : (fs : List Symbol) → list_all is_writable_symbol fs ≡ true → list_all (λ (f : Symbol). not (is_table_name f.name)) fs ≡ true
no_table_name [] writable = refl
no_table_name (f ∷ fs) writable =
    let a = both_true (is_writable_symbol f) (list_all is_writable_symbol fs) writable in
    let b = both_true (is_writable f.name) (not (is_table_name f.name) && list_all is_writable_sort (f.result ∷ f.args)) a.0 in
    and_true (not (is_table_name f.name)) (list_all (λ (g : Symbol). not (is_table_name g.name)) fs)
    (both_true (not (is_table_name f.name)) (list_all is_writable_sort (f.result ∷ f.args)) b.1).0 (no_table_name fs a.1)

pub signatures_are_proper : SignaturesAreProper
signatures_are_proper cs k may =
    let fine = signature_fine cs k may in
    let sig = signature cs k in
    let a = both_true (list_all is_writable sig.sorts) (list_all is_writable_symbol sig.symbols && are_distinct (names_of sig.symbols)) fine.0 in
    let b = both_true (list_all is_writable_symbol sig.symbols) (are_distinct (names_of sig.symbols)) a.1 in
    record { names = b.1; tables = no_table_name sig.symbols b.0; ranks = fine.1 }
