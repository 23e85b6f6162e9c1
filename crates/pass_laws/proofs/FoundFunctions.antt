-- The functions with arguments that are met, going back through commands, are those that are declared behind them.
use Rattle.std.proofs.Common.{◌≡◌, ◌∙◌, sym, ap, refl, subst, ℕ, zero, suc, ◌+◌, ◌-◌, ◌==◌, Bool, true, false, not, cond, ◌&&◌, ◌||◌, if◌then◌else◌, ◌⊎◌, inl, inr, List, [], ◌∷◌, ◌++◌, map, filter, flat_map, drop, append-nil, arith}
use Rattle.std.proofs.lemmas.List.{drop-drop}
use Rattle.std.proofs.lemmas.List.Elements.{filter-append}
use Rattle.smt_terms.specs.Sorts.{Sort, Symbol}
use Rattle.script_read.specs.Commands.{Command, passed, declare_sort, declare, assert, check, check_assuming, push, pop, reset, reset_assertions, globals, exit, Level, State, start, throughout, with_symbol, with_assertion, with_declarations, levels_popped, levels_emptied, symbols_of_state}
use Rattle.pass_laws.specs.Carry.{are_some, has_arguments}
use Rattle.pass_laws.specs.LiveGroups.{Drawn, drawn_of, told_function, all_told, Met, met_in}
use Rattle.pass_laws.specs.Passed.{Replacement}
use Rattle.pass_laws.proofs.FoundGroups.{begun_by, open_behind, AllMay, Found, found_in, none_closed, after_by, behind_by, IsPart, all_is_found}
use Rattle.pass_laws.proofs.LevelsBelow.{below_none, throughout_folded}
use Rattle.pass_laws.proofs.LiveBehindGroups.{IsOld, IsGroupGiven, GroupsMay, asserts_itself}

-- ---- what is noted of commands: functions with arguments, and assertions

abbrev Noted : Type 0
Noted = Symbol ⊎ Replacement

abbrev note_symbol : List Sort → Symbol → Command Noted
note_symbol [] f = declare f
note_symbol (s ∷ ss) f = assert 0 (inl f)

abbrev note : Command Replacement → Command Noted
note (passed text) = passed text
note (declare_sort n) = declare_sort n
note (declare f) = note_symbol f.args f
note (assert i x) = assert i (inr x)
note check = check
note (check_assuming ls) = check_assuming []
note (push n) = push n
note (pop n) = pop n
note reset = reset
note reset_assertions = reset_assertions
note (globals b) = globals b
note exit = exit

abbrev add_noted : Noted → Level Replacement → Level Replacement
add_noted (inl f) l = with_symbol f l
add_noted (inr x) l = with_assertion x l

abbrev function_of : Noted → List Symbol
function_of (inl f) = f ∷ []
function_of (inr x) = []

abbrev IsNoFunction : Symbol → Type 0
IsNoFunction f = has_arguments f ≡ false

abbrev IsNoted : Noted → Type 0
IsNoted (inl f) = has_arguments f ≡ true
IsNoted (inr x) = Unit {0}

either_noted : (P : Command Noted → Type 0) (f : Symbol) → (has_arguments f ≡ false → P (declare f)) → (has_arguments f ≡ true → P (assert 0 (inl f))) → P (note_symbol f.args f)
either_noted P f plain function = by f.args refl
  where
    by : (ss : List Sort) → f.args ≡ ss → P (note_symbol ss f)
    by [] e = plain (ap are_some e)
    by (s ∷ ss) e = function (ap are_some e)

abbrev noted_state : Command Noted → State Replacement → State Replacement
noted_state c st = after_by Noted Replacement add_noted c st

abbrev state_behind : State Replacement → List (Command Replacement) → State Replacement
state_behind st rs = behind_by Replacement Replacement asserts_itself st rs

same_state : (c : Command Replacement) (st : State Replacement) → noted_state (note c) st ≡ after_by Replacement Replacement asserts_itself c st
same_state (declare f) st = either_noted (λ c. noted_state c st ≡ after_by Replacement Replacement asserts_itself (declare f) st) f (λ plain. refl) (λ function. refl)
same_state _ st = refl

same_behind : (rs : List (Command Replacement)) (st : State Replacement) → behind_by Noted Replacement add_noted st (map note rs) ≡ state_behind st rs
same_behind [] st = refl
same_behind (c ∷ rs) st =
    ap (λ u. behind_by Noted Replacement add_noted u (map note rs)) (same_state c st) ∙ same_behind rs (after_by Replacement Replacement asserts_itself c st)

module _ (new : List Symbol) where
  abbrev NotesMay : Bool → ℕ → List (Command Noted) → Type 0
  NotesMay begun d cs = AllMay Noted IsNoFunction IsNoted begun d cs

  notes_may : (rs : List (Command Replacement)) (begun : Bool) (d : ℕ) → AllMay Replacement (IsOld new) (IsGroupGiven new) begun d rs → NotesMay begun d (map note rs)
  notes_may [] begun d may = tt
  notes_may (declare f ∷ rs) begun d may =
      let rest : NotesMay true d (map note rs) = notes_may rs true d may.1 in
      either_noted (λ c. NotesMay begun d (c ∷ map note rs)) f (λ plain. (plain, rest)) (λ function. (function, rest))
  notes_may (pop n ∷ rs) begun d may = (may.0, notes_may rs true (d - n) may.1)
  notes_may (globals b ∷ rs) begun d may = (may.0, notes_may rs begun d may.1)
  notes_may (c ∷ rs) begun d may = (tt, notes_may rs (begun_by Replacement begun c) (open_behind Replacement d c) may.1)

-- ---- the functions of levels

abbrev functions_in : Level Replacement → List Symbol
functions_in l = filter has_arguments l.symbols

functions_throughout : (ls : List (Level Replacement)) → filter has_arguments (throughout (λ l. l.symbols) ls) ≡ throughout functions_in ls
functions_throughout [] = refl
functions_throughout (l ∷ ls) = filter-append has_arguments (throughout (λ k. k.symbols) ls) l.symbols ∙ ap (λ fs. fs ++ functions_in l) (functions_throughout ls)

merged_functions : (above l : Level Replacement) → functions_in (with_declarations above l) ≡ functions_in l ++ functions_in above
merged_functions above l = filter-append has_arguments l.symbols above.symbols

popped_functions : (b : Bool) (k n : ℕ) (ls : List (Level Replacement)) → (b ≡ true → k ≡ 0) → throughout functions_in (drop k (levels_popped b n ls)) ≡ throughout functions_in (drop (if b then k else k + n) ls)
popped_functions true k n ls none =
    ap (λ i. throughout functions_in (drop i (levels_popped true n ls))) (none refl) ∙ throughout_folded functions_in refl merged_functions n ls ∙ ap (λ i. throughout functions_in (drop i ls)) (sym (none refl))
popped_functions false k n ls none = let same : n + k ≡ k + n = omega arith in ap (throughout functions_in) (drop-drop k n ls) ∙ ap (λ i. throughout functions_in (drop i ls)) same

emptied_functions : (b : Bool) (k : ℕ) (ls : List (Level Replacement)) → (b ≡ true → k ≡ 0) → throughout functions_in (drop k (levels_emptied b ls)) ≡ (if b then throughout functions_in (drop k ls) else [])
emptied_functions true k ls none =
    ap (λ i. throughout functions_in (drop i (levels_emptied true ls))) (none refl) ∙ functions_throughout ls ∙ ap (λ i. throughout functions_in (drop i ls)) (sym (none refl))
emptied_functions false zero ls none = refl
emptied_functions false (suc k) ls none = below_none functions_in refl k

one_symbol : (f : Symbol) (l : Level Replacement) (b : Bool) → has_arguments f ≡ b → functions_in (with_symbol f l) ≡ functions_in l ++ cond b (f ∷ []) []
one_symbol f l b is = filter-append has_arguments l.symbols (f ∷ []) ∙ ap (λ c. functions_in l ++ cond c (f ∷ []) []) is

one_noted : (x : Noted) → IsNoted x → (l : Level Replacement) → functions_in (add_noted x l) ≡ functions_in l ++ function_of x
one_noted (inl f) is l = one_symbol f l true is
one_noted (inr x) is l = sym (append-nil (functions_in l))

functions_part : (global : Bool) → IsPart Noted Replacement add_noted IsNoFunction IsNoted global global functions_in function_of
functions_part global = record {
  empty = refl;
  sort_declared = λ n l. refl;
  symbol_declared = λ f plain l. one_symbol f l false plain ∙ append-nil (functions_in l);
  asserted = one_noted;
  popped = λ k n ls none few. popped_functions global k n ls none;
  emptied = emptied_functions global;
}

-- ---- what is met

record HasFunctions (global : Bool) (m : Met) (w : Found Noted) : Type 0 where
  gone : m.gone ≡ w.anew
  closed : global ≡ false → m.closed ≡ w.closed
  functions : m.functions ≡ flat_map function_of w.found

one_function : (global : Bool) (f : Symbol) (m : Met) (w : Found Noted) (b : Bool) → HasFunctions global m w
    → HasFunctions global (if b then record m { functions = f ∷ m.functions } else m) (record { anew = w.anew; closed = w.closed; found = if b then inl f ∷ w.found else w.found })
one_function global f m w true h = record { gone = h.gone; closed = h.closed; functions = ap (λ fs. f ∷ fs) h.functions }
one_function global f m w false h = record { gone = h.gone; closed = h.closed; functions = h.functions }

no_function : (x : Replacement) (b : Bool) (found : List Noted) → flat_map function_of found ≡ flat_map function_of (if b then inr x ∷ found else found)
no_function x true found = refl
no_function x false found = refl

one_group : (global : Bool) (d : Drawn) (m : Met) (w : Found Noted) (a b : Bool) → HasFunctions global m w
    → HasFunctions global (if a then record m { live = d ∷ m.live } else (if b then record m { idle = d ∷ m.idle } else m)) w
one_group global d m w true b h = record { gone = h.gone; closed = h.closed; functions = h.functions }
one_group global d m w false true h = record { gone = h.gone; closed = h.closed; functions = h.functions }
one_group global d m w false false h = h

same_test : (global : Bool) (m : Met) (w : Found Noted) → HasFunctions global m w → (global ≡ true → w.closed ≡ 0) → (not m.gone && (global || m.closed == 0)) ≡ (not w.anew && w.closed == 0)
same_test true m w h none = λ i. not (h.gone i) && (sym (none refl) i == 0)
same_test false m w h none = λ i. not (h.gone i) && (h.closed refl i == 0)

have_functions : (global : Bool) (rs : List (Command Replacement)) → HasFunctions global (met_in global (all_told rs)) (found_in Noted global (map note rs))
have_functions global [] = record { gone = refl; closed = λ no. refl; functions = refl }
have_functions global (declare f ∷ rs) = by f.args (have_functions global rs)
  where
    by : (ss : List Sort) → HasFunctions global (met_in global (all_told rs)) (found_in Noted global (map note rs))
        → HasFunctions global (met_in global (told_function ss f ++ all_told rs)) (found_in Noted global (note_symbol ss f ∷ map note rs))
    by [] h = h
    by (s ∷ ss) h =
        subst (λ b. HasFunctions global (if b then record (met_in global (all_told rs)) { functions = f ∷ (met_in global (all_told rs)).functions } else met_in global (all_told rs)) (found_in Noted global (note_symbol (s ∷ ss) f ∷ map note rs)))
        (sym (same_test global (met_in global (all_told rs)) (found_in Noted global (map note rs)) h (λ all. ap (λ b. (found_in Noted b (map note rs)).closed) all ∙ none_closed Noted (map note rs))))
        (one_function global f (met_in global (all_told rs)) (found_in Noted global (map note rs)) (not (found_in Noted global (map note rs)).anew && (found_in Noted global (map note rs)).closed == 0) h)
have_functions global (assert i x ∷ rs) =
    let m : Met = met_in global (all_told rs) in
    let w : Found Noted = found_in Noted global (map note rs) in
    let h : HasFunctions global m w = have_functions global rs in
    let g : HasFunctions global (met_in global (all_told (assert i x ∷ rs))) w = one_group global (drawn_of x) m w (not m.anew && m.closed == 0) (global && not m.gone) h in
    record { gone = g.gone; closed = g.closed; functions = g.functions ∙ no_function x (not w.anew && w.closed == 0) w.found }
have_functions global (push n ∷ rs) = let h = have_functions global rs in record { gone = h.gone; closed = λ no. ap (λ k. k - n) (h.closed no); functions = h.functions }
have_functions global (pop n ∷ rs) =
    let w : Found Noted = found_in Noted global (map note rs) in
    let h = have_functions global rs in
    record { gone = h.gone; closed = λ no. ap (λ k. k + n) (h.closed no) ∙ ap (λ b. if b then w.closed else w.closed + n) (sym no); functions = h.functions }
have_functions global (reset ∷ rs) = let h = have_functions global rs in record { gone = refl; closed = h.closed; functions = h.functions }
have_functions global (reset_assertions ∷ rs) = let h = have_functions global rs in record { gone = ap (λ b. b || not global) h.gone; closed = h.closed; functions = h.functions }
have_functions global (c ∷ rs) = have_functions global rs

-- those of commands that stand first
pub functions_found : (new : List Symbol) (rs : List (Command Replacement)) → GroupsMay new rs → (global : Bool) → (behind_by Replacement Replacement asserts_itself start rs).global ≡ global
    → filter has_arguments (symbols_of_state (behind_by Replacement Replacement asserts_itself start rs)) ≡ (met_in global (all_told rs)).functions
functions_found new rs may global last =
    let same : behind_by Noted Replacement add_noted start (map note rs) ≡ state_behind start rs = same_behind rs start in
    functions_throughout (state_behind start rs).levels ∙ ap (λ (st : State Replacement). throughout functions_in st.levels) (sym same)
    ∙ all_is_found Noted Replacement add_noted IsNoFunction IsNoted global global functions_in function_of (functions_part global) (map note rs) (notes_may new rs false 0 may)
    (ap (λ (st : State Replacement). st.global) same ∙ last)
    ∙ sym (have_functions global rs).functions
