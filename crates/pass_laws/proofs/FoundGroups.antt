-- What is live behind commands, found from the last of them back: in general, for what levels hold and assertions add to it.
use Rattle.std.proofs.Common.{◌≡◌, ◌∙◌, sym, ap, subst, refl, ℕ, zero, suc, ◌+◌, ◌-◌, ◌==◌, ◌<◌, ◌≤◌, Bool, true, false, true≢false, not, cond, ◌&&◌, ◌||◌, if◌then◌else◌, List, [], ◌∷◌, ◌++◌, drop, length, replicate, flat_map, count_by, Some, append_assoc, append-nil, arith}
use Rattle.std.specs.Prelude.{option_map}
use Rattle.std.proofs.lemmas.Bool.{ne_eqb}
use Rattle.std.proofs.lemmas.List.{length-append, length-replicate, length-drop}
use Rattle.std.proofs.lemmas.List.Sums.{sum_by-cons}
use Rattle.smt_terms.specs.Sorts.{Name, Symbol}
use Rattle.smt_terms.proofs.Tests.{both_false}
use Rattle.script_read.specs.Commands.{Command, passed, declare_sort, declare, assert, check, check_assuming, push, pop, reset, reset_assertions, globals, exit, Level, State, empty_level, start, throughout, on_latest, with_sort, with_symbol, with_declarations, folded, levels_popped, levels_emptied, with_levels, is_check, Point, nth_point}
use Rattle.pass_laws.proofs.LevelsBelow.{below, below_bare, below_changed, below_kept, below_opened}

-- ---- lengths

pub latest_length : {A : Type 0} (change : Level A → Level A) (ls : List (Level A)) (d : ℕ) → length ls ≡ suc d → length (on_latest change ls) ≡ suc d
latest_length change [] d h = absurd cc
latest_length change (l ∷ ls) d h = h

folded_length : {A : Type 0} (n : ℕ) (ls : List (Level A)) (d : ℕ) → n ≤ d → length ls ≡ suc d → length (folded n ls) ≡ suc (d - n)
folded_length zero ls d few h = let same : suc d ≡ suc (d - 0) = omega arith in h ∙ same
folded_length (suc n) [] d few h = absurd cc
folded_length (suc n) (l ∷ []) d few h = absurd (omega (arith, few, h))
folded_length (suc n) (above ∷ l ∷ ls) d few h =
    let same : suc (d - 1 - n) ≡ suc (d - suc n) = omega arith in
    folded_length n (with_declarations above l ∷ ls) (d - 1) (omega (arith, few)) (omega (arith, few, h)) ∙ same

pub popped_length : {A : Type 0} (b : Bool) (n : ℕ) (ls : List (Level A)) (d : ℕ) → n ≤ d → length ls ≡ suc d → length (levels_popped b n ls) ≡ suc (d - n)
popped_length true n ls d few h = folded_length n ls d few h
popped_length false n ls d few h = let same : suc d - n ≡ suc (d - n) = omega (arith, few) in length-drop n ls ∙ ap (λ k. k - n) h ∙ same

pub emptied_length : {A : Type 0} (b : Bool) (ls : List (Level A)) → length (levels_emptied b ls) ≡ 1
emptied_length true ls = refl
emptied_length false ls = refl

pub pushed_length : {A : Type 0} (n : ℕ) (ls : List (Level A)) (d : ℕ) → length ls ≡ suc d → length (replicate n empty_level ++ ls) ≡ suc (d + n)
pushed_length n ls d h =
    let same : n + suc d ≡ suc (d + n) = omega arith in
    length-append (replicate n empty_level) ls ∙ ap (λ k. k + length ls) (length-replicate n empty_level) ∙ ap (λ k. n + k) h ∙ same

emptied_bare : {A : Type 0} (global : Bool) (ls : List (Level A)) → ls ≡ empty_level ∷ [] → levels_emptied global ls ≡ empty_level ∷ []
emptied_bare true ls h = ap (levels_emptied true) h
emptied_bare false ls h = refl

module _ (X : Type 0) where
  -- ---- what has to hold of commands, where Old says so of what they declare, and Given of what they assert

  -- whether the options are fixed behind the command, and how many levels are open behind it
  abbrev pub begun_by : Bool → Command X → Bool
  begun_by begun (passed text) = begun
  begun_by begun (globals b) = begun
  begun_by begun reset_assertions = begun
  begun_by begun exit = begun
  begun_by begun reset = false
  begun_by begun _ = true

  abbrev pub open_behind : ℕ → Command X → ℕ
  open_behind d (push n) = d + n
  open_behind d (pop n) = d - n
  open_behind d reset = 0
  open_behind d reset_assertions = 0
  open_behind d _ = d

  module _ (Old : Symbol → Type 0) (Given : X → Type 0) where
    abbrev pub May : Bool → ℕ → Command X → Type 0
    May begun d (declare f) = Old f
    May begun d (assert i x) = Given x
    May begun d (pop n) = n ≤ d
    May begun d (globals b) = begun ≡ false
    May begun d _ = Unit {0}

    abbrev pub AllMay : Bool → ℕ → List (Command X) → Type 0
    AllMay begun d [] = Unit {0}
    AllMay begun d (c ∷ cs) = May begun d c × AllMay (begun_by begun c) (open_behind d c) cs

  -- ---- the commands before check k, counted from 1

  abbrev pub up_to : ℕ → List (Command X) → List (Command X)
  up_to k [] = []
  up_to k (c ∷ cs) = if is_check c then (if k == 1 then [] else c ∷ up_to (k - 1) cs) else c ∷ up_to k cs

  pub may_up_to : (Old : Symbol → Type 0) (Given : X → Type 0) (cs : List (Command X)) (k : ℕ) (begun : Bool) (d : ℕ) → AllMay Old Given begun d cs → AllMay Old Given begun d (up_to k cs)
  may_up_to Old Given [] k begun d may = tt
  may_up_to Old Given (c ∷ cs) k begun d may = by (is_check c) (k == 1) (λ j. may_up_to Old Given cs j (begun_by begun c) (open_behind d c) may.1)
    where
      by : (a b : Bool) → ((j : ℕ) → AllMay Old Given (begun_by begun c) (open_behind d c) (up_to j cs)) → AllMay Old Given begun d (if a then (if b then [] else c ∷ up_to (k - 1) cs) else c ∷ up_to k cs)
      by true true rest = tt
      by true false rest = (may.0, rest (k - 1))
      by false b rest = (may.0, rest k)

  -- ---- what is found

  pub record Found : Type 0 where
    -- nothing that was there before these commands is there behind them
    pub anew : Bool
    -- so many levels that were open before them are closed behind them
    pub closed : ℕ
    pub found : List X

  -- one command more, which stands before the others; keeps says that nothing goes with a level
  abbrev pub found_before : Bool → Command X → Found → Found
  found_before keeps (assert i x) w = record { anew = w.anew; closed = w.closed; found = if not w.anew && w.closed == 0 then x ∷ w.found else w.found }
  found_before keeps (push n) w = record { anew = w.anew; closed = w.closed - n; found = w.found }
  found_before keeps (pop n) w = record { anew = w.anew; closed = if keeps then w.closed else w.closed + n; found = w.found }
  found_before keeps reset w = record { anew = true; closed = w.closed; found = w.found }
  found_before keeps reset_assertions w = record { anew = w.anew || not keeps; closed = w.closed; found = w.found }
  found_before keeps _ w = w

  abbrev pub found_in : Bool → List (Command X) → Found
  found_in keeps [] = record { anew = false; closed = 0; found = [] }
  found_in keeps (c ∷ cs) = found_before keeps c (found_in keeps cs)

  none_before : (c : Command X) (w : Found) → w.closed ≡ 0 → (found_before true c w).closed ≡ 0
  none_before (push n) w h = let less : w.closed - n ≡ 0 = omega (arith, h) in less
  none_before _ w h = h

  pub none_closed : (cs : List (Command X)) → (found_in true cs).closed ≡ 0
  none_closed [] = refl
  none_closed (c ∷ cs) = none_before c (found_in true cs) (none_closed cs)

  module _ (A : Type 0) (change : X → Level A → Level A) where
    -- ---- states, where an assertion changes the latest level so

    abbrev pub after_by : Command X → State A → State A
    after_by (declare_sort n) s = with_levels s (on_latest (with_sort n) s.levels)
    after_by (declare f) s = with_levels s (on_latest (with_symbol f) s.levels)
    after_by (assert i x) s = with_levels s (on_latest (change x) s.levels)
    after_by (push n) s = with_levels s (replicate n empty_level ++ s.levels)
    after_by (pop n) s = with_levels s (levels_popped s.global n s.levels)
    after_by reset_assertions s = with_levels s (levels_emptied s.global s.levels)
    after_by reset s = start
    after_by (globals b) s = record { levels = s.levels; global = b }
    after_by _ s = s

    abbrev pub behind_by : State A → List (Command X) → State A
    behind_by s [] = s
    behind_by s (c ∷ cs) = behind_by (after_by c s) cs

    module _ (Old : Symbol → Type 0) (Given : X → Type 0) where
      pub length_behind : (c : Command X) (begun : Bool) (d : ℕ) (s : State A) → May Old Given begun d c → length s.levels ≡ suc d → length (after_by c s).levels ≡ suc (open_behind d c)
      length_behind (declare_sort n) begun d s may h = latest_length (with_sort n) s.levels d h
      length_behind (declare f) begun d s may h = latest_length (with_symbol f) s.levels d h
      length_behind (assert i x) begun d s may h = latest_length (change x) s.levels d h
      length_behind (push n) begun d s may h = pushed_length n s.levels d h
      length_behind (pop n) begun d s may h = popped_length s.global n s.levels d may h
      length_behind reset_assertions begun d s may h = emptied_length s.global s.levels
      length_behind reset begun d s may h = refl
      length_behind _ begun d s may h = h

      -- ---- the state at a check

      -- the points that commands lead through have these states
      pub record LeadsThrough (lead : State A → List (Command X) → List (Point A)) : Type 0 where
        pub goes : (begun : Bool) (d : ℕ) (s : State A) (c : Command X) (cs : List (Command X)) → May Old Given begun d c → is_check c ≡ false → lead s (c ∷ cs) ≡ lead (after_by c s) cs
        pub stops : (s : State A) (c : Command X) (cs : List (Command X)) → is_check c ≡ true → (p : Point A) × ((p.state ≡ s) × (lead s (c ∷ cs) ≡ p ∷ lead s cs))

      unchanged : (c : Command X) (s : State A) → is_check c ≡ true → after_by c s ≡ s
      unchanged check s is = refl
      unchanged (check_assuming ls) s is = refl
      unchanged _ s is = absurd cc

      checks_more : (c : Command X) (cs : List (Command X)) (b : Bool) → is_check c ≡ b → count_by is_check (c ∷ cs) ≡ cond b 1 0 + count_by is_check cs
      checks_more c cs b is = sum_by-cons (λ e. cond (is_check e) 1 0) c cs ∙ ap (λ a. cond a 1 0 + count_by is_check cs) is

      more_left : (k : ℕ) → (suc (suc k) == 1) ≡ false
      more_left k = ne_eqb (suc (suc k)) 1 (λ same. omega (arith, same))

      module _ (lead : State A → List (Command X) → List (Point A)) (leads : LeadsThrough lead) where
        abbrev pub StateAt : List (Command X) → ℕ → State A → Type 0
        StateAt cs k s = option_map (λ (p : Point A). p.state) (nth_point (lead s cs) k) ≡ Some (behind_by s (up_to k cs))

        at_check : (c : Command X) (cs : List (Command X)) (k : ℕ) (s : State A) → is_check c ≡ true → 1 ≤ k → ((j : ℕ) → j ≡ k - 1 → 1 ≤ j → StateAt cs j s)
            → (p : Point A) × ((p.state ≡ s) × (lead s (c ∷ cs) ≡ p ∷ lead s cs)) → StateAt (c ∷ cs) k s
        at_check c cs zero s is some rest here = absurd (omega (arith, some))
        at_check c cs (suc zero) s is some rest here =
            ap (λ ps. option_map (λ (p : Point A). p.state) (nth_point ps 1)) here.1.1 ∙ ap Some here.1.0 ∙ ap (λ b. Some (behind_by s (if b then [] else c ∷ up_to 1 cs))) (sym is)
        at_check c cs (suc (suc k)) s is some rest here =
            let less : suc k ≡ suc (suc k) - 1 = omega arith in
            ap (λ ps. option_map (λ (p : Point A). p.state) (nth_point ps (suc (suc k)))) here.1.1 ∙ rest (suc k) less (omega arith) ∙ ap (λ j. Some (behind_by s (up_to j cs))) less
            ∙ ap (λ r. Some (behind_by r (up_to (suc (suc k) - 1) cs))) (sym (unchanged c s is))
            ∙ ap (λ b. Some (behind_by s (if b then [] else c ∷ up_to (suc (suc k) - 1) cs))) (sym (more_left k))
            ∙ ap (λ b. Some (behind_by s (if b then (if suc (suc k) == 1 then [] else c ∷ up_to (suc (suc k) - 1) cs) else c ∷ up_to (suc (suc k)) cs))) (sym is)

        pub state_at : (cs : List (Command X)) (k : ℕ) (begun : Bool) (d : ℕ) (s : State A) → AllMay Old Given begun d cs → 1 ≤ k → k ≤ count_by is_check cs → StateAt cs k s
        state_at [] k begun d s may some few = absurd (omega (arith, some, few))
        state_at (c ∷ cs) k begun d s may some few =
            by (is_check c) refl (λ e is-check. state_at cs k (begun_by begun c) (open_behind d c) (after_by c s) may.1 some e) (λ j j-some e. state_at cs j (begun_by begun c) (open_behind d c) s may.1 j-some e)
          where
            by : (b : Bool) → is_check c ≡ b → (k ≤ count_by is_check cs → is_check c ≡ false → StateAt cs k (after_by c s)) → ((j : ℕ) → 1 ≤ j → j ≤ count_by is_check cs → StateAt cs j s) → StateAt (c ∷ cs) k s
            by true is later rest = at_check c cs k s is some (λ j less j-some. rest j j-some (let all = checks_more c cs true is in omega (arith, less, few, all, some))) (leads.stops s c cs is)
            by false is later rest =
                ap (λ ps. option_map (λ (p : Point A). p.state) (nth_point ps k)) (leads.goes begun d s c cs may.0 is)
                ∙ later (let all = checks_more c cs false is in omega (arith, few, all)) is
                ∙ ap (λ b. Some (behind_by s (if b then (if k == 1 then [] else c ∷ up_to (k - 1) cs) else c ∷ up_to k cs))) (sym is)

      -- ---- no level is open and nothing is there where the options aren't fixed

      abbrev pub StandsBare : Bool → State A → Type 0
      StandsBare begun s = begun ≡ false → s.levels ≡ empty_level ∷ []

      bare_stays : (begun : Bool) (c : Command X) (s : State A) → StandsBare begun s → StandsBare (begun_by begun c) (after_by c s)
      bare_stays begun (passed text) s bare h = bare h
      bare_stays begun reset s bare h = refl
      bare_stays begun reset_assertions s bare h = emptied_bare s.global s.levels (bare h)
      bare_stays begun (globals b) s bare h = bare h
      bare_stays begun exit s bare h = bare h
      bare_stays begun _ s bare h = absurd (true≢false h)

      -- where the options are fixed, declarations are global behind commands as before, unless one begins anew
      global_kept : (keeps : Bool) (cs : List (Command X)) (d : ℕ) (s : State A) → AllMay Old Given true d cs → (found_in keeps cs).anew ≡ false → (behind_by s cs).global ≡ s.global
      global_kept keeps [] d s may going = refl
      global_kept keeps (globals b ∷ cs) d s may going = absurd (true≢false may.0)
      global_kept keeps (reset ∷ cs) d s may going = absurd (true≢false going)
      global_kept keeps (reset_assertions ∷ cs) d s may going = global_kept keeps cs 0 (after_by reset_assertions s) may.1 (both_false (found_in keeps cs).anew (not keeps) going).0
      global_kept keeps (c ∷ cs) d s may going = global_kept keeps cs (open_behind d c) (after_by c s) may.1 going

      -- ---- what levels hold

      pub record IsPart (keeps global : Bool) {B : Type 0} (part : Level A → List B) (added : X → List B) : Type 0 where
        pub empty : part empty_level ≡ []
        pub sort_declared : (n : Name) (l : Level A) → part (with_sort n l) ≡ part l
        pub symbol_declared : (f : Symbol) → Old f → (l : Level A) → part (with_symbol f l) ≡ part l
        pub asserted : (x : X) → Given x → (l : Level A) → part (change x l) ≡ part l ++ added x
        pub popped : (k n : ℕ) (ls : List (Level A)) → (keeps ≡ true → k ≡ 0) → n < length ls → throughout part (drop k (levels_popped global n ls)) ≡ throughout part (drop (if keeps then k else k + n) ls)
        pub emptied : (k : ℕ) (ls : List (Level A)) → (keeps ≡ true → k ≡ 0) → throughout part (drop k (levels_emptied global ls)) ≡ (if keeps then throughout part (drop k ls) else [])

      module _ (keeps global : Bool) {B : Type 0} (part : Level A → List B) (added : X → List B) (is : IsPart keeps global part added) where
        -- what is there behind the commands of what was there before them
        abbrev pub left : Found → List (Level A) → List B
        left w ls = if w.anew then [] else below part is.empty w.closed ls

        abbrev pub all_of : Found → List B
        all_of w = flat_map added w.found

        left_same : (w : Found) (ks ls : List (Level A)) → below part is.empty w.closed ks ≡ below part is.empty w.closed ls → left w ks ++ all_of w ≡ left w ls ++ all_of w
        left_same w ks ls same = ap (λ bs. (if w.anew then [] else bs) ++ all_of w) same

        asserts : (x : X) → Given x → (ls : List (Level A)) (anew : Bool) (k : ℕ) (found : List X) (b : Bool) → (k == 0) ≡ b
            → (if anew then [] else below part is.empty k (on_latest (change x) ls)) ++ flat_map added found ≡ (if anew then [] else below part is.empty k ls) ++ flat_map added (if not anew && b then x ∷ found else found)
        asserts x given ls true k found b none = refl
        asserts x given ls false k found true none =
            ap (λ bs. bs ++ flat_map added found) (below_changed part is.empty (change x) (added x) (is.asserted x given) k ls)
            ∙ ap (λ b. (below part is.empty k ls ++ (if b then added x else [])) ++ flat_map added found) none
            ∙ append_assoc (below part is.empty k ls) (added x) (flat_map added found)
        asserts x given ls false k found false none =
            ap (λ bs. bs ++ flat_map added found) (below_changed part is.empty (change x) (added x) (is.asserted x given) k ls)
            ∙ ap (λ b. (below part is.empty k ls ++ (if b then added x else [])) ++ flat_map added found) none
            ∙ ap (λ bs. bs ++ flat_map added found) (append-nil (below part is.empty k ls))

        pops : (n : ℕ) (g : Bool) (ls : List (Level A)) (anew : Bool) (k : ℕ) → (anew ≡ false → g ≡ global) → (keeps ≡ true → k ≡ 0) → n < length ls
            → (if anew then [] else below part is.empty k (levels_popped g n ls)) ≡ (if anew then [] else below part is.empty (if keeps then k else k + n) ls)
        pops n g ls true k same none few = refl
        pops n g ls false k same none few = ap (λ b. below part is.empty k (levels_popped b n ls)) (same refl) ∙ is.popped k n ls none few

        if_not : (b : Bool) (xs : List B) → (if b then xs else []) ≡ (if not b then [] else xs)
        if_not true xs = refl
        if_not false xs = refl

        either_none : (b : Bool) (xs : List B) → xs ≡ [] → [] ≡ (if b then [] else xs)
        either_none true xs h = refl
        either_none false xs h = sym h

        empties : (begun g : Bool) (ls : List (Level A)) (anew : Bool) (k : ℕ) → (begun ≡ false → ls ≡ empty_level ∷ []) → (begun ≡ true → anew ≡ false → g ≡ global) → (keeps ≡ true → k ≡ 0)
            → (if anew then [] else below part is.empty k (levels_emptied g ls)) ≡ (if anew || not keeps then [] else below part is.empty k ls)
        empties begun g ls true k bare same none = refl
        empties true g ls false k bare same none =
            ap (λ b. below part is.empty k (levels_emptied b ls)) (same refl refl) ∙ is.emptied k ls none ∙ if_not keeps (below part is.empty k ls)
        empties false g ls false k bare same none =
            ap (below part is.empty k) (emptied_bare g ls (bare refl)) ∙ below_bare part is.empty k
            ∙ either_none (not keeps) (below part is.empty k ls) (ap (below part is.empty k) (bare refl) ∙ below_bare part is.empty k)

        bare_left : (anew : Bool) (k : ℕ) → (if anew then [] else below part is.empty k (empty_level ∷ [])) ≡ []
        bare_left true k = refl
        bare_left false k = below_bare part is.empty k

        step : (begun : Bool) (d : ℕ) (c : Command X) (s : State A) (w : Found) → May Old Given begun d c → StandsBare begun s → length s.levels ≡ suc d
            → (begun_by begun c ≡ true → w.anew ≡ false → (after_by c s).global ≡ global) → (keeps ≡ true → w.closed ≡ 0)
            → left w (after_by c s).levels ++ all_of w ≡ left (found_before keeps c w) s.levels ++ all_of (found_before keeps c w)
        step begun d (declare_sort n) s w may bare opened same none = left_same w (on_latest (with_sort n) s.levels) s.levels (below_kept part is.empty (with_sort n) (is.sort_declared n) w.closed s.levels)
        step begun d (declare f) s w may bare opened same none = left_same w (on_latest (with_symbol f) s.levels) s.levels (below_kept part is.empty (with_symbol f) (is.symbol_declared f may) w.closed s.levels)
        step begun d (assert i x) s w may bare opened same none = asserts x may s.levels w.anew w.closed w.found (w.closed == 0) refl
        step begun d (push n) s w may bare opened same none = ap (λ bs. (if w.anew then [] else bs) ++ all_of w) (below_opened part is.empty n w.closed s.levels)
        step begun d (pop n) s w may bare opened same none = ap (λ bs. bs ++ all_of w) (pops n s.global s.levels w.anew w.closed (same refl) none (omega (arith, may, opened)))
        step begun d reset s w may bare opened same none = ap (λ bs. bs ++ all_of w) (bare_left w.anew w.closed)
        step begun d reset_assertions s w may bare opened same none = ap (λ bs. bs ++ all_of w) (empties begun s.global s.levels w.anew w.closed bare same none)
        step begun d _ s w may bare opened same none = refl

        -- what is there behind commands is what was there before them, as far as it stays, and what is found
        pub live_is_found : (cs : List (Command X)) (begun : Bool) (d : ℕ) (s : State A) → AllMay Old Given begun d cs → StandsBare begun s → length s.levels ≡ suc d → (behind_by s cs).global ≡ global
            → throughout part (behind_by s cs).levels ≡ left (found_in keeps cs) s.levels ++ all_of (found_in keeps cs)
        live_is_found [] begun d s may bare opened last = sym (append-nil (throughout part s.levels))
        live_is_found (c ∷ cs) begun d s may bare opened last =
            live_is_found cs (begun_by begun c) (open_behind d c) (after_by c s) may.1 (bare_stays begun c s bare) (length_behind c begun d s may.0 opened) last
            ∙ step begun d c s (found_in keeps cs) may.0 bare opened
            (λ fixed going. sym (global_kept keeps cs (open_behind d c) (after_by c s) (subst (λ b. AllMay Old Given b (open_behind d c) cs) fixed may.1) going) ∙ last)
            (λ all. ap (λ b. (found_in b cs).closed) all ∙ none_closed cs)

        -- behind commands that stand first, all that is there is found
        pub all_is_found : (cs : List (Command X)) → AllMay Old Given false 0 cs → (behind_by start cs).global ≡ global → throughout part (behind_by start cs).levels ≡ all_of (found_in keeps cs)
        all_is_found cs may last =
            live_is_found cs false 0 start may (λ _. refl) refl last ∙ ap (λ bs. bs ++ all_of (found_in keeps cs)) (bare_left (found_in keeps cs).anew (found_in keeps cs).closed)
