-- Commands, and the state of a script at its checks: SMT-LIB 2.6, sections 4.1.4 and 4.2.1 to 4.2.5 (levels, resets,
-- declarations, assertions and checks), and `:global-declarations` of section 4.1.7. What an assertion holds is left open: a term, or a
-- form with what is bound where it stands.
use Rattle.std.specs.Prelude.{ℕ, zero, suc, Bool, true, false, List, [], ◌∷◌, ◌++◌, map, flat_map, drop, replicate, count_by, Option, Some, None}
use Rattle.smt_terms.specs.Sorts.{Name, Symbol}

pub data Command (A : Type 0) : Type 0 where
  -- passed on as it is written
  passed : List ℕ → Command A
  declare_sort : Name → Command A
  declare : Symbol → Command A
  -- with the number of the assertion, counted from 1 in the script that was read
  assert : ℕ → A → Command A
  check : Command A
  -- literals
  check_assuming : List A → Command A
  push : ℕ → Command A
  pop : ℕ → Command A
  reset : Command A
  reset_assertions : Command A
  -- `:global-declarations`
  globals : Bool → Command A
  exit : Command A

-- the command with other things in its assertions and literals
abbrev pub with_asserted : {A B : Type 0} → (A → B) → Command A → Command B
with_asserted f (passed text) = passed text
with_asserted f (declare_sort n) = declare_sort n
with_asserted f (declare g) = declare g
with_asserted f (assert i a) = assert i (f a)
with_asserted f check = check
with_asserted f (check_assuming ls) = check_assuming (map f ls)
with_asserted f (push n) = push n
with_asserted f (pop n) = pop n
with_asserted f reset = reset
with_asserted f reset_assertions = reset_assertions
with_asserted f (globals b) = globals b
with_asserted f exit = exit

-- ---- the state

-- what a level declares and asserts, in order
pub record Level (A : Type 0) : Type 0 where
  pub sorts : List Name
  pub symbols : List Symbol
  pub asserted : List A

-- the open levels, the latest first, the ground level last; and whether declarations outlive their level
pub record State (A : Type 0) : Type 0 where
  pub levels : List (Level A)
  pub global : Bool

abbrev pub empty_level : {A : Type 0} → Level A
empty_level = record { sorts = []; symbols = []; asserted = [] }

abbrev pub start : {A : Type 0} → State A
start = record { levels = empty_level ∷ []; global = false }

-- all levels' things, from the ground level up
abbrev pub throughout : {A B : Type 0} → (Level A → List B) → List (Level A) → List B
throughout part [] = []
throughout part (l ∷ ls) = throughout part ls ++ part l

-- the latest level changed
abbrev pub on_latest : {A : Type 0} → (Level A → Level A) → List (Level A) → List (Level A)
on_latest change [] = change empty_level ∷ []
on_latest change (l ∷ ls) = change l ∷ ls

abbrev pub with_sort : {A : Type 0} → Name → Level A → Level A
with_sort n l = record l { sorts = l.sorts ++ n ∷ [] }

abbrev pub with_symbol : {A : Type 0} → Symbol → Level A → Level A
with_symbol f l = record l { symbols = l.symbols ++ f ∷ [] }

abbrev pub with_assertion : {A : Type 0} → A → Level A → Level A
with_assertion a l = record l { asserted = l.asserted ++ a ∷ [] }

-- the level with the declarations of one above it
abbrev pub with_declarations : {A : Type 0} → Level A → Level A → Level A
with_declarations above l = record { sorts = l.sorts ++ above.sorts; symbols = l.symbols ++ above.symbols; asserted = l.asserted }

-- n levels are closed, and their declarations go to the level below
abbrev pub folded : {A : Type 0} → ℕ → List (Level A) → List (Level A)
folded zero ls = ls
folded (suc n) [] = []
folded (suc n) (l ∷ []) = l ∷ []
folded (suc n) (above ∷ l ∷ ls) = folded n (with_declarations above l ∷ ls)

-- levels after a `pop`, and after `reset-assertions`
abbrev pub levels_popped : {A : Type 0} → Bool → ℕ → List (Level A) → List (Level A)
levels_popped true n ls = folded n ls
levels_popped false n ls = drop n ls

abbrev pub levels_emptied : {A : Type 0} → Bool → List (Level A) → List (Level A)
levels_emptied true ls = record { sorts = throughout (λ l. l.sorts) ls; symbols = throughout (λ l. l.symbols) ls; asserted = [] } ∷ []
levels_emptied false ls = empty_level ∷ []

abbrev pub with_levels : {A : Type 0} → State A → List (Level A) → State A
with_levels s ls = record { levels = ls; global = s.global }

-- the state after a command
abbrev pub after : {A : Type 0} → Command A → State A → State A
after (declare_sort n) s = with_levels s (on_latest (with_sort n) s.levels)
after (declare f) s = with_levels s (on_latest (with_symbol f) s.levels)
after (assert i a) s = with_levels s (on_latest (with_assertion a) s.levels)
after (push n) s = with_levels s (replicate n empty_level ++ s.levels)
after (pop n) s = with_levels s (levels_popped s.global n s.levels)
after reset_assertions s = with_levels s (levels_emptied s.global s.levels)
after reset s = start
after (globals b) s = record { levels = s.levels; global = b }
after (passed text) s = s
after check s = s
after (check_assuming ls) s = s
after exit s = s

-- ---- the points of a script: its checks in order, and its end

pub data Kind : Type 0 where
  checked : Kind
  assumed : Kind
  ended : Kind

pub record Point (A : Type 0) : Type 0 where
  pub kind : Kind
  pub state : State A
  -- those of a `check-sat-assuming`
  pub literals : List A

abbrev pub with_point : {A : Type 0} → Command A → State A → List (Point A) → List (Point A)
with_point check s ps = record { kind = checked; state = s; literals = [] } ∷ ps
with_point (check_assuming ls) s ps = record { kind = assumed; state = s; literals = ls } ∷ ps
with_point _ s ps = ps

abbrev pub points_from : {A : Type 0} → State A → List (Command A) → List (Point A)
points_from s [] = record { kind = ended; state = s; literals = [] } ∷ []
points_from s (c ∷ cs) = with_point c s (points_from (after c s) cs)

abbrev pub points : {A : Type 0} → List (Command A) → List (Point A)
points cs = points_from start cs

abbrev pub kinds : {A : Type 0} → List (Command A) → List Kind
kinds cs = map (λ p. p.kind) (points cs)

-- point k, counted from 1
abbrev pub nth_point : {A : Type 0} → List (Point A) → ℕ → Option (Point A)
nth_point [] k = None
nth_point (p ∷ ps) zero = None
nth_point (p ∷ ps) (suc zero) = Some p
nth_point (p ∷ ps) (suc (suc k)) = nth_point ps (suc k)

abbrev pub at_point : {A B : Type 0} → (Point A → List B) → Option (Point A) → List B
at_point part None = []
at_point part (Some p) = part p

abbrev pub live_in : {A : Type 0} → State A → List A
live_in s = throughout (λ l. l.asserted) s.levels

abbrev pub sorts_of_state : {A : Type 0} → State A → List Name
sorts_of_state s = throughout (λ l. l.sorts) s.levels

abbrev pub symbols_of_state : {A : Type 0} → State A → List Symbol
symbols_of_state s = throughout (λ l. l.symbols) s.levels

-- the live assertions at point k, in order
abbrev pub live : {A : Type 0} → List (Command A) → ℕ → List A
live cs k = at_point (λ p. live_in p.state) (nth_point (points cs) k)

-- the literals that point k assumes
abbrev pub literals : {A : Type 0} → List (Command A) → ℕ → List A
literals cs k = at_point (λ p. p.literals) (nth_point (points cs) k)

-- the live sorts and the live symbols, each in order of declaration
pub record Signature : Type 0 where
  pub sorts : List Name
  pub symbols : List Symbol

abbrev pub signature : {A : Type 0} → List (Command A) → ℕ → Signature
signature cs k =
    record { sorts = at_point (λ p. sorts_of_state p.state) (nth_point (points cs) k); symbols = at_point (λ p. symbols_of_state p.state) (nth_point (points cs) k) }

abbrev pub is_check : {A : Type 0} → Command A → Bool
is_check check = true
is_check (check_assuming ls) = true
is_check _ = false

-- how many checks there are
abbrev pub checks : {A : Type 0} → List (Command A) → ℕ
checks cs = count_by is_check cs

-- ---- all that is asserted and assumed, live at a point or not

abbrev pub asserted_by : {A : Type 0} → Command A → List A
asserted_by (assert i a) = a ∷ []
asserted_by _ = []

-- the literals of a `check-sat-assuming`
abbrev pub assumed_by : {A : Type 0} → Command A → List A
assumed_by (check_assuming ls) = ls
assumed_by _ = []

-- of all commands, in order
abbrev pub all_asserted : {A : Type 0} → List (Command A) → List A
all_asserted cs = flat_map asserted_by cs

abbrev pub all_assumed : {A : Type 0} → List (Command A) → List A
all_assumed cs = flat_map assumed_by cs
