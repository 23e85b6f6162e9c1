-- What is found in commands that may be printed is what is live behind them.
use Rattle.std.proofs.Common.{◌≡◌, ◌∙◌, sym, ap, refl, ℕ, ◌+◌, ◌-◌, ◌==◌, Bool, true, false, not, if◌then◌else◌, ◌&&◌, List, [], ◌∷◌, ◌++◌, append_assoc, true≢false, arith}
use Rattle.std.proofs.lemmas.List.{append-nil, drop-drop}
use Rattle.smt_terms.specs.Term.{Term}
use Rattle.smt_terms.specs.declared.ids.SortId.{SortId}
use Rattle.smt_terms.specs.declared.ids.SymId.{SymId}
use Rattle.smt_terms.proofs.Tests.{both_true, contrary, not_true}
use Rattle.smt_values.specs.SortIds.{sort_at}
use Rattle.term_table.specs.Formulas.{Formulas, symbol_at, tree}
use Rattle.script_read.specs.declared.scripts.Command.{Command}
use Rattle.script_read.specs.declared.scripts.Command.TheVariants.{Passed, DeclareSort, Declare, Assert, Check, CheckAssuming, Push, Pop, Reset, ResetAssertions, Globals, Exit}
use Rattle.script_read.specs.CommandLists.{free_name, command_of, commands_of}
use Rattle.script_read.specs.Commands.{Command as CommandOf, passed, declare_sort, declare, assert, check, check_assuming, push, pop, reset, reset_assertions, globals, exit, Level, State, empty_level, throughout, with_sort as level_sort, with_symbol as level_symbol, with_assertion, with_declarations, folded, after, levels_emptied, levels_popped}
use Rattle.script_read.specs.Printable.{may_stand, fixes, may_be_followed, printable_from}
use Rattle.models.specs.GoingBack.{global_behind, global_behind_all, begins_anew, Found, nothing_found, with_sort, with_symbol, with_closed, met, begun_anew, found_before, found_in}
use Rattle.models.proofs.FoundBack.{stays, begins as begins_here, goes_on, met_on}
use Rattle.models.proofs.LiveLevels.{below, below_bare, below_declared, below_kept, below_opened, throughout_folded}

-- the state behind commands
abbrev pub behind : {A : Type 0} → State A → List (CommandOf A) → State A
behind s [] = s
behind s (c ∷ cs) = behind (after c s) cs

-- no level is open and nothing is declared where the options aren't fixed
abbrev pub StandsBare : Bool → State Term → Type 0
StandsBare begun s = begun ≡ false → s.levels ≡ empty_level ∷ []

emptied_bare : (global : Bool) (ls : List (Level Term)) → ls ≡ empty_level ∷ [] → levels_emptied global ls ≡ empty_level ∷ []
emptied_bare true ls h = ap (levels_emptied true) h
emptied_bare false ls h = refl

bare_stays : (begun : Bool) (s : State Term) (c : CommandOf Term) → StandsBare begun s → StandsBare (fixes begun c) (after c s)
bare_stays begun s (passed text) bare h = bare h
bare_stays begun s (declare_sort n) bare h = absurd (true≢false h)
bare_stays begun s (declare f) bare h = absurd (true≢false h)
bare_stays begun s (assert i a) bare h = absurd (true≢false h)
bare_stays begun s check bare h = absurd (true≢false h)
bare_stays begun s (check_assuming ls) bare h = absurd (true≢false h)
bare_stays begun s (push n) bare h = absurd (true≢false h)
bare_stays begun s (pop n) bare h = absurd (true≢false h)
bare_stays begun s reset bare h = refl
bare_stays begun s reset_assertions bare h = emptied_bare s.global s.levels (bare h)
bare_stays begun s (globals b) bare h = bare h
bare_stays begun s exit bare h = bare h

-- ---- whether declarations are global

-- where no command begins anew, declarations are global behind them as before
anew_before : (g : Bool) (c : Command) (f : Found) → (found_before g c f).anew ≡ false → (f.anew ≡ false) × (begins_anew g c ≡ false)
anew_before g c f h = by f.anew refl (begins_anew g c) refl
  where
    by : (a : Bool) → f.anew ≡ a → (b : Bool) → begins_anew g c ≡ b → (f.anew ≡ false) × (begins_anew g c ≡ false)
    by true p b q = contrary (found_before g c f).anew (ap (λ x. (if x then f else (if begins_anew g c then begun_anew f else met g c f)).anew) p ∙ p) h
    by false p true q =
        contrary (found_before g c f).anew
        (ap (λ x. (if x then f else (if begins_anew g c then begun_anew f else met g c f)).anew) p ∙ ap (λ x. (if x then begun_anew f else met g c f).anew) q) h
    by false p false q = (p, q)

global_kept : (g b : Bool) (c : Command) → begins_anew g c ≡ false → global_behind b c ≡ b
global_kept g b (Passed text) h = refl
global_kept g b (DeclareSort s) h = refl
global_kept g b (Declare f) h = refl
global_kept g b (Assert id number) h = refl
global_kept g b Check h = refl
global_kept g b (CheckAssuming ids) h = refl
global_kept g b (Push n) h = refl
global_kept g b (Pop n) h = refl
global_kept g b Reset h = absurd (true≢false h)
global_kept g b ResetAssertions h = refl
global_kept g b (Globals x) h = absurd (true≢false h)
global_kept g b Exit h = refl

global_throughout : (g b : Bool) (cs : List Command) → (found_in g cs).anew ≡ false → global_behind_all b cs ≡ b
global_throughout g b [] h = refl
global_throughout g b (c ∷ cs) h =
    let parts = anew_before g c (found_in g cs) h in
    global_throughout g (global_behind b c) cs parts.0 ∙ global_kept g b c parts.1

global_after : (t : Formulas) (s : State Term) (c : Command) → (after (command_of t c) s).global ≡ global_behind s.global c
global_after t s (Passed text) = refl
global_after t s (DeclareSort n) = refl
global_after t s (Declare f) = refl
global_after t s (Assert id number) = refl
global_after t s Check = refl
global_after t s (CheckAssuming ids) = refl
global_after t s (Push n) = refl
global_after t s (Pop n) = refl
global_after t s Reset = refl
global_after t s ResetAssertions = refl
global_after t s (Globals x) = refl
global_after t s Exit = refl

-- no level counts as closed where declarations are global
none_closed_with : (c : Command) (f : Found) → f.closed ≡ 0 → (found_before true c f).closed ≡ 0
none_closed_with c f h = by c f.anew
  where
    declared_sort : (s : SortId) (b : Bool) → (if b then with_sort s f else f).closed ≡ 0
    declared_sort s true = h
    declared_sort s false = h

    declared_symbol : (s : SymId) (b : Bool) → (if b then with_symbol s f else f).closed ≡ 0
    declared_symbol s true = h
    declared_symbol s false = h

    by : (c : Command) (a : Bool) → (if a then f else (if begins_anew true c then begun_anew f else met true c f)).closed ≡ 0
    by c true = h
    by (Passed text) false = h
    by (DeclareSort s) false = declared_sort s (f.closed == 0)
    by (Declare s) false = declared_symbol s (f.closed == 0)
    by (Assert id number) false = h
    by Check false = h
    by (CheckAssuming ids) false = h
    by (Push n) false = let none : f.closed - n ≡ 0 = omega (arith, h) in none
    by (Pop n) false = h
    by Reset false = h
    by ResetAssertions false = h
    by (Globals b) false = h
    by Exit false = h

none_closed : (cs : List Command) → (found_in true cs).closed ≡ 0
none_closed [] = refl
none_closed (c ∷ cs) = none_closed_with c (found_in true cs) (none_closed cs)

-- ---- what levels declare, sorts or symbols, and what is found of that

pub record IsFound (t : Formulas) {B : Type 0} (part : Level Term → List B) (of : Found → List B) : Type 0 where
  pub new_sort : SortId → List B
  pub new_symbol : SymId → List B
  pub empty : part empty_level ≡ []
  pub merged : (above l : Level Term) → part (with_declarations above l) ≡ part l ++ part above
  pub asserted : (a : Term) (l : Level Term) → part (with_assertion a l) ≡ part l
  pub sort_declared : (s : SortId) (l : Level Term) → part (level_sort (free_name (sort_at t.sorts s)) l) ≡ part l ++ new_sort s
  pub symbol_declared : (f : SymId) (l : Level Term) → part (level_symbol (symbol_at t f) l) ≡ part l ++ new_symbol f
  pub collapsed : (ls : List (Level Term)) → throughout part (levels_emptied true ls) ≡ throughout part ls
  pub none : of nothing_found ≡ []
  pub with_sort : (s : SortId) (f : Found) → of (with_sort s f) ≡ new_sort s ++ of f
  pub with_symbol : (s : SymId) (f : Found) → of (with_symbol s f) ≡ new_symbol s ++ of f
  pub with_closed : (n : ℕ) (f : Found) → of (with_closed n f) ≡ of f
  pub begun_anew : (f : Found) → of (begun_anew f) ≡ of f

module _ (t : Formulas) {B : Type 0} (part : Level Term → List B) (of : Found → List B) (is : IsFound t part of) (g : Bool) where
  abbrev pub left : ℕ → List (Level Term) → List B
  left n ls = below part is.empty n ls

  declared_sort : (s : SortId) (f : Found) (ls : List (Level Term)) (b : Bool)
      → (left f.closed ls ++ (if b then is.new_sort s else [])) ++ of f ≡ left (if b then with_sort s f else f).closed ls ++ of (if b then with_sort s f else f)
  declared_sort s f ls true = append_assoc (left f.closed ls) (is.new_sort s) (of f) ∙ ap (λ bs. left f.closed ls ++ bs) (sym (is.with_sort s f))
  declared_sort s f ls false = ap (λ bs. bs ++ of f) (append-nil (left f.closed ls))

  declared_symbol : (s : SymId) (f : Found) (ls : List (Level Term)) (b : Bool)
      → (left f.closed ls ++ (if b then is.new_symbol s else [])) ++ of f ≡ left (if b then with_symbol s f else f).closed ls ++ of (if b then with_symbol s f else f)
  declared_symbol s f ls true = append_assoc (left f.closed ls) (is.new_symbol s) (of f) ∙ ap (λ bs. left f.closed ls ++ bs) (sym (is.with_symbol s f))
  declared_symbol s f ls false = ap (λ bs. bs ++ of f) (append-nil (left f.closed ls))

  closed_levels : (n : ℕ) (f : Found) (ls : List (Level Term)) (b : Bool) → (b ≡ true → f.closed ≡ 0)
      → left f.closed (levels_popped b n ls) ++ of f ≡ left (if b then f else with_closed (f.closed + n) f).closed ls ++ of (if b then f else with_closed (f.closed + n) f)
  closed_levels n f ls true none =
      ap (λ k. left k (folded n ls) ++ of f) (none refl) ∙ ap (λ bs. bs ++ of f) (throughout_folded part is.empty is.merged n ls) ∙ ap (λ k. left k ls ++ of f) (sym (none refl))
  closed_levels n f ls false none =
      let more : n + f.closed ≡ f.closed + n = omega arith in
      ap (λ ks. throughout part ks ++ of f) (drop-drop f.closed n ls) ∙ ap (λ k. left k ls ++ of f) more ∙ ap (λ bs. left (f.closed + n) ls ++ bs) (sym (is.with_closed (f.closed + n) f))

  merged_levels : (f : Found) (ls : List (Level Term)) (b : Bool) → not b ≡ false → (b ≡ true → f.closed ≡ 0) → left f.closed (levels_emptied b ls) ≡ left f.closed ls
  merged_levels f ls true h none = ap (λ k. left k (levels_emptied true ls)) (none refl) ∙ is.collapsed ls ∙ ap (λ k. left k ls) (sym (none refl))
  merged_levels f ls false h none = absurd (true≢false h)

  -- a command that doesn't begin anew
  goes : (c : Command) (s : State Term) (f : Found) → begins_anew g c ≡ false → (after (command_of t c) s).global ≡ g → (g ≡ true → f.closed ≡ 0)
      → left f.closed (after (command_of t c) s).levels ++ of f ≡ left (met g c f).closed s.levels ++ of (met g c f)
  goes (Passed text) s f h global none = refl
  goes (DeclareSort n) s f h global none =
      ap (λ bs. bs ++ of f) (below_declared part is.empty (level_sort (free_name (sort_at t.sorts n))) (is.new_sort n) (is.sort_declared n) f.closed s.levels) ∙ declared_sort n f s.levels (f.closed == 0)
  goes (Declare n) s f h global none =
      ap (λ bs. bs ++ of f) (below_declared part is.empty (level_symbol (symbol_at t n)) (is.new_symbol n) (is.symbol_declared n) f.closed s.levels) ∙ declared_symbol n f s.levels (f.closed == 0)
  goes (Assert id number) s f h global none =
      ap (λ bs. bs ++ of f) (below_kept part is.empty (with_assertion (tree t id)) (is.asserted (tree t id)) f.closed s.levels)
  goes Check s f h global none = refl
  goes (CheckAssuming ids) s f h global none = refl
  goes (Push n) s f h global none =
      ap (λ bs. bs ++ of f) (below_opened part is.empty n f.closed s.levels) ∙ ap (λ bs. left (f.closed - n) s.levels ++ bs) (sym (is.with_closed (f.closed - n) f))
  goes (Pop n) s f h global none = ap (λ b. left f.closed (levels_popped b n s.levels) ++ of f) global ∙ closed_levels n f s.levels g none
  goes Reset s f h global none = absurd (true≢false h)
  goes ResetAssertions s f h global none =
      ap (λ b. left f.closed (levels_emptied b s.levels) ++ of f) global ∙ ap (λ bs. bs ++ of f) (merged_levels f s.levels g h none)
  goes (Globals b) s f h global none = absurd (true≢false h)
  goes Exit s f h global none = refl

  emptied_levels : (n : ℕ) (ls : List (Level Term)) (b : Bool) → not b ≡ true → left n (levels_emptied b ls) ≡ []
  emptied_levels n ls true h = absurd (true≢false (sym h))
  emptied_levels n ls false h = below_bare part is.empty n

  -- a command that begins anew
  begins : (begun : Bool) (c : Command) (s : State Term) (n : ℕ) → StandsBare begun s → may_stand begun s (command_of t c) ≡ true → begins_anew g c ≡ true
      → (after (command_of t c) s).global ≡ g → left n (after (command_of t c) s).levels ≡ []
  begins begun (Passed text) s n bare stands h global = absurd (true≢false (sym h))
  begins begun (DeclareSort i) s n bare stands h global = absurd (true≢false (sym h))
  begins begun (Declare f) s n bare stands h global = absurd (true≢false (sym h))
  begins begun (Assert id number) s n bare stands h global = absurd (true≢false (sym h))
  begins begun Check s n bare stands h global = absurd (true≢false (sym h))
  begins begun (CheckAssuming ids) s n bare stands h global = absurd (true≢false (sym h))
  begins begun (Push i) s n bare stands h global = absurd (true≢false (sym h))
  begins begun (Pop i) s n bare stands h global = absurd (true≢false (sym h))
  begins begun Reset s n bare stands h global = below_bare part is.empty n
  begins begun ResetAssertions s n bare stands h global = ap (λ b. left n (levels_emptied b s.levels)) global ∙ emptied_levels n s.levels g h
  begins begun (Globals b) s n bare stands h global = ap (left n) (bare (not_true begun stands)) ∙ below_bare part is.empty n
  begins begun Exit s n bare stands h global = absurd (true≢false (sym h))

  -- what is live behind commands that stood before them, as far as it isn't found
  abbrev pub before : Found → List (Level Term) → List B
  before f ls = if f.anew then [] else left f.closed ls

  step : (begun : Bool) (c : Command) (s : State Term) (f : Found) → StandsBare begun s → may_stand begun s (command_of t c) ≡ true → (f.anew ≡ false → (after (command_of t c) s).global ≡ g)
      → (g ≡ true → f.closed ≡ 0) → before f (after (command_of t c) s).levels ++ of f ≡ before (found_before g c f) s.levels ++ of (found_before g c f)
  step begun c s f bare stands global none = by f.anew refl (begins_anew g c) refl
    where
      by : (a : Bool) → f.anew ≡ a → (b : Bool) → begins_anew g c ≡ b → before f (after (command_of t c) s).levels ++ of f ≡ before (found_before g c f) s.levels ++ of (found_before g c f)
      by true p b q =
          ap (λ x. (if x then [] else left f.closed (after (command_of t c) s).levels) ++ of f) p ∙ ap (λ x. (if x then [] else left f.closed s.levels) ++ of f) (sym p)
          ∙ ap (λ k. before k s.levels ++ of k) (sym (stays g c f p))
      by false p true q =
          ap (λ x. (if x then [] else left f.closed (after (command_of t c) s).levels) ++ of f) p ∙ ap (λ bs. bs ++ of f) (begins begun c s f.closed bare stands q (global p))
          ∙ sym (is.begun_anew f) ∙ ap (λ k. before k s.levels ++ of k) (sym (begins_here g c f p q))
      by false p false q =
          ap (λ x. (if x then [] else left f.closed (after (command_of t c) s).levels) ++ of f) p ∙ goes c s f q (global p) none
          ∙ ap (λ x. (if x then [] else left (met g c f).closed s.levels) ++ of (met g c f)) (sym (met_on g c f ∙ p)) ∙ ap (λ k. before k s.levels ++ of k) (sym (goes_on g c f p q))

  -- what is live behind commands is what was live before them, as far as it isn't closed, and what is found in them
  pub live_is_found : (cs : List Command) (begun : Bool) (s : State Term) → StandsBare begun s → printable_from begun s (commands_of t cs) ≡ true → global_behind_all s.global cs ≡ g
      → throughout part (behind s (commands_of t cs)).levels ≡ before (found_in g cs) s.levels ++ of (found_in g cs)
  live_is_found [] begun s bare h global = sym (append-nil (throughout part s.levels)) ∙ ap (λ bs. throughout part s.levels ++ bs) (sym is.none)
  live_is_found (c ∷ cs) begun s bare h global =
      let here = both_true (may_stand begun s (command_of t c)) (may_be_followed (command_of t c) (commands_of t cs) && printable_from (fixes begun (command_of t c)) (after (command_of t c) s) (commands_of t cs)) h in
      let there = both_true (may_be_followed (command_of t c) (commands_of t cs)) (printable_from (fixes begun (command_of t c)) (after (command_of t c) s) (commands_of t cs)) here.1 in
      let kept : global_behind_all (after (command_of t c) s).global cs ≡ g = ap (λ b. global_behind_all b cs) (global_after t s c) ∙ global in
      live_is_found cs (fixes begun (command_of t c)) (after (command_of t c) s) (bare_stays begun s (command_of t c) bare) there.1 kept
      ∙ step begun c s (found_in g cs) bare here.0 (λ going. sym (global_throughout g (after (command_of t c) s).global cs going) ∙ kept)
      (λ all. ap (λ b. (found_in b cs).closed) all ∙ none_closed cs)
