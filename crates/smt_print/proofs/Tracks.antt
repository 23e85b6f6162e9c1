-- Live bindings that show a state, through the commands.
use Rattle.std.proofs.Common.{◌≡◌, ℕ, ◌≤◌, Bool, true, false, not, None, List, [], ◌∷◌, ◌++◌, length, replicate, refl, ap, sym, subst, ◌∙◌, arith}
use Rattle.std.specs.Prelude.{◌&&◌, nat_le, count_by}
use Rattle.std.specs.List.{list_all}
use Rattle.std.proofs.lemmas.Bool.{leb-true}
use Rattle.std.proofs.lemmas.List.{length-map}
use Rattle.smt_lex.specs.Names.{Name, is_among, is_reserved_for_declaring, is_reserved_for_sorts, is_internal, is_theory_sort}
use Rattle.smt_terms.specs.Free.{names_of}
use Rattle.smt_terms.specs.Rank.{is_sort}
use Rattle.smt_terms.specs.Sorts.{free_sort, Symbol}
use Rattle.smt_terms.specs.Term.{Term}
use Rattle.smt_terms.proofs.Tests.{both_true, not_true, both_false}
use Rattle.script_read.specs.Commands.{Command, passed, declare_sort, declare, assert, check, check_assuming, push, pop, reset, reset_assertions, globals, exit, Level, State, empty_level, levels_popped, levels_emptied, throughout, on_latest, with_sort, with_symbol, with_assertion, after, sorts_of_state, symbols_of_state, Signature}
use Rattle.script_read.specs.Printable.{is_usable, is_writable, sort_is_live, is_new_sort, is_new_symbol, may_stand, open_levels}
use Rattle.script_terms.specs.Reading.{ReadBinding, sort_known, function_known, level_known, is_level_known, entry_of, live_sorts}
use Rattle.script_terms.specs.Scope.{opened, popped, emptied}
use Rattle.script_read.specs.Script.{most_levels}
use Rattle.smt_print.proofs.Levels.{bare_level, bare_levels, levels_of, levels_some, levels_length, bare_sort, bare_symbol, bare_pushed, bare_popped, bare_emptied, bare_sorts, bare_symbols, levels_opened, levels_of_popped, levels_of_emptied, known_sorts, known_symbols, sorts_known, symbols_known}
use Rattle.smt_print.proofs.LiveNames.{AreDeclared, shown, shown_usual, new_symbol, new_sort, declared_opened, declared_popped, declared_emptied}
use Rattle.smt_print.proofs.Printables.{signature_of, IsUsual, usable_parts}

pub record Tracks (st : State Term) (bs : List ReadBinding) : Type 0 where
  pub levels : bare_levels st.levels ≡ levels_of bs
  pub declared : AreDeclared bs

abbrev signature_from : List Name → List Symbol → Signature
signature_from ns fs = record { sorts = ns; symbols = fs }

pub same_signature : (st : State Term) (bs : List ReadBinding) → Tracks st bs → signature_of st ≡ shown bs
same_signature st bs tracks =
    let ns : sorts_of_state st ≡ sorts_known bs = sym (bare_sorts st.levels) ∙ ap (throughout (λ l. l.sorts)) tracks.levels ∙ known_sorts bs in
    let fs : symbols_of_state st ≡ symbols_known bs = sym (bare_symbols st.levels) ∙ ap (throughout (λ l. l.symbols)) tracks.levels ∙ known_symbols bs in
    ap (λ xs. signature_from xs (symbols_of_state st)) ns ∙ ap (signature_from (sorts_known bs)) fs

pub usual_state : (st : State Term) (bs : List ReadBinding) → Tracks st bs → IsUsual (signature_of st)
usual_state st bs tracks = subst IsUsual (sym (same_signature st bs tracks)) (shown_usual bs tracks.declared)

-- ---- declarations

not_theory_sort : (n : Name) → is_reserved_for_sorts n ≡ false → is_theory_sort n ≡ false
unfolding is_reserved_for_sorts
not_theory_sort n free = (both_false (is_internal n) (is_theory_sort n) free).1

-- the name of a sort that may be declared
pub record IsNewSort (bs : List ReadBinding) (n : Name) : Type 0 where
  pub free : is_reserved_for_sorts n ≡ false
  pub unused : live_sorts bs n ≡ None
  pub tracks : (st : State Term) → Tracks st bs → Tracks (after (declare_sort n) st) (sort_known n (free_sort n) ∷ bs)

pub sort_new : (st : State Term) (bs : List ReadBinding) (n : Name) → Tracks st bs → is_new_sort st n ≡ true → IsNewSort bs n
sort_new st bs n tracks new =
    let a = both_true (is_writable n) (not (is_reserved_for_sorts n) && not (is_among (sorts_of_state st) n)) new in
    let b = both_true (not (is_reserved_for_sorts n)) (not (is_among (sorts_of_state st) n)) a.1 in
    let free : is_reserved_for_sorts n ≡ false = not_true (is_reserved_for_sorts n) b.0 in
    let other : is_among (sorts_known bs) n ≡ false = subst (λ g. is_among g.sorts n ≡ false) (same_signature st bs tracks) (not_true (is_among (sorts_of_state st) n) b.1) in
    let unused : live_sorts bs n ≡ None = new_sort bs n tracks.declared other in
    record {
      free = free;
      unused = unused;
      tracks = λ st tracks. record { levels = bare_sort n st.levels ∙ ap (on_latest (with_sort n)) tracks.levels; declared = (refl, not_theory_sort n free, a.0, unused, tracks.declared) };
    }

pub record IsNewSymbol (bs : List ReadBinding) (f : Symbol) : Type 0 where
  pub free : is_reserved_for_declaring f.name ≡ false
  pub unused : entry_of bs f.name ≡ None
  pub sorts : list_all (λ to. is_sort to && sort_is_live (sorts_known bs) to) (f.result ∷ f.args) ≡ true
  pub tracks : (st : State Term) → Tracks st bs → Tracks (after (declare f) st) (function_known f ∷ bs)

pub symbol_new : (st : State Term) (bs : List ReadBinding) (f : Symbol) → Tracks st bs → is_new_symbol st f ≡ true → IsNewSymbol bs f
symbol_new st bs f tracks new =
    let sorts = list_all (λ to. is_sort to && sort_is_live (sorts_of_state st) to) (f.result ∷ f.args) in
    let a = both_true (is_usable f.name) (not (is_among (names_of (symbols_of_state st)) f.name) && sorts) new in
    let b = both_true (not (is_among (names_of (symbols_of_state st)) f.name)) sorts a.1 in
    let same = same_signature st bs tracks in
    let other : is_among (names_of (symbols_known bs)) f.name ≡ false = subst (λ g. is_among (names_of g.symbols) f.name ≡ false) same (not_true (is_among (names_of (symbols_of_state st)) f.name) b.0) in
    let unused : entry_of bs f.name ≡ None = new_symbol bs f.name tracks.declared other in
    record {
      free = (usable_parts f.name a.0).1;
      unused = unused;
      sorts = subst (λ g. list_all (λ to. is_sort to && sort_is_live g.sorts to) (f.result ∷ f.args) ≡ true) same b.1;
      tracks = λ st tracks. record { levels = bare_symbol f st.levels ∙ ap (on_latest (with_symbol f)) tracks.levels; declared = (a.0, unused, tracks.declared) };
    }

-- ---- assertions and levels

with_assertion_bare : (t : Term) (ls : List (Level Term)) (bs : List ReadBinding) → bare_levels ls ≡ levels_of bs → bare_levels (on_latest (with_assertion t) ls) ≡ levels_of bs
with_assertion_bare t [] bs h = absurd (let some = levels_some bs in omega (arith, some, ap length h))
with_assertion_bare t (l ∷ ls) bs h = h

pub tracks_assert : (i : ℕ) (t : Term) (st : State Term) (bs : List ReadBinding) → Tracks st bs → Tracks (after (assert i t) st) bs
tracks_assert i t st bs tracks = record { levels = with_assertion_bare t st.levels bs tracks.levels; declared = tracks.declared }

pub tracks_push : (n : ℕ) (st : State Term) (bs : List ReadBinding) → Tracks st bs → Tracks (after (push n) st) (opened level_known n bs)
tracks_push n st bs tracks =
    record { levels = bare_pushed n st.levels ∙ ap (λ ls. replicate n empty_level ++ ls) tracks.levels ∙ sym (levels_opened n bs); declared = declared_opened n bs tracks.declared }

pub open_same : (st : State Term) (bs : List ReadBinding) → Tracks st bs → count_by is_level_known bs ≡ open_levels st
open_same st bs tracks =
    let a : length (bare_levels st.levels) ≡ length st.levels = length-map st.levels bare_level in
    let b : length (bare_levels st.levels) ≡ length (levels_of bs) = ap length tracks.levels in
    let c = levels_length bs in
    omega (arith, a, b, c)

pub tracks_pop : (n : ℕ) (st : State Term) (bs : List ReadBinding) → n ≤ open_levels st → Tracks st bs → Tracks (after (pop n) st) (popped is_level_known st.global n bs)
tracks_pop n st bs few tracks =
    let same = open_same st bs tracks in
    record {
      levels = bare_popped st.global n st.levels ∙ ap (levels_popped st.global n) tracks.levels ∙ sym (levels_of_popped st.global n bs (omega (arith, same, few)));
      declared = declared_popped st.global n bs tracks.declared;
    }

pub tracks_reset : (st : State Term) → Tracks (after reset st) []
tracks_reset st = record { levels = refl; declared = tt }

pub tracks_emptied : (st : State Term) (bs : List ReadBinding) → Tracks st bs → Tracks (after reset_assertions st) (emptied is_level_known st.global bs)
tracks_emptied st bs tracks = record {
  levels = bare_emptied st.global st.levels ∙ ap (levels_emptied st.global) tracks.levels ∙ sym (levels_of_emptied st.global bs);
  declared = declared_emptied st.global bs tracks.declared;
}

pub tracks_globals : (b : Bool) (st : State Term) (bs : List ReadBinding) → Tracks st bs → Tracks (after (globals b) st) bs
tracks_globals b st bs tracks = record { levels = tracks.levels; declared = tracks.declared }

-- ---- any command

-- the bindings behind a command
abbrev pub bound_after : Command Term → Bool → List ReadBinding → List ReadBinding
bound_after (declare_sort n) global bs = sort_known n (free_sort n) ∷ bs
bound_after (declare f) global bs = function_known f ∷ bs
bound_after (push n) global bs = opened level_known n bs
bound_after (pop n) global bs = popped is_level_known global n bs
bound_after reset global bs = []
bound_after reset_assertions global bs = emptied is_level_known global bs
bound_after (passed text) global bs = bs
bound_after (assert i t) global bs = bs
bound_after check global bs = bs
bound_after (check_assuming ls) global bs = bs
bound_after (globals b) global bs = bs
bound_after exit global bs = bs

pub tracks_after : (begun : Bool) (c : Command Term) (st : State Term) (bs : List ReadBinding) → Tracks st bs → may_stand begun st c ≡ true → Tracks (after c st) (bound_after c st.global bs)
tracks_after begun (declare_sort n) st bs tracks may = (sort_new st bs n tracks may).tracks st tracks
tracks_after begun (declare f) st bs tracks may = (symbol_new st bs f tracks may).tracks st tracks
tracks_after begun (push n) st bs tracks may = tracks_push n st bs tracks
tracks_after begun (pop n) st bs tracks may = tracks_pop n st bs (leb-true n (open_levels st) (both_true (nat_le n most_levels) (nat_le n (open_levels st)) may).1) tracks
tracks_after begun reset st bs tracks may = tracks_reset st
tracks_after begun reset_assertions st bs tracks may = tracks_emptied st bs tracks
tracks_after begun (passed text) st bs tracks may = tracks
tracks_after begun (assert i t) st bs tracks may = tracks_assert i t st bs tracks
tracks_after begun check st bs tracks may = tracks
tracks_after begun (check_assuming ls) st bs tracks may = tracks
tracks_after begun (globals b) st bs tracks may = tracks_globals b st bs tracks
tracks_after begun exit st bs tracks may = tracks
