-- Some level stays open: no `pop` closes the ground level.
use Rattle.std.proofs.Common.{ℕ, zero, suc, ◌<◌, Bool, true, false, List, [], ◌∷◌, ◌++◌, length, drop, replicate, arith}
use Rattle.script_read.specs.Commands.{Command, passed, declare_sort, declare, assert, check, check_assuming, push, pop, reset, reset_assertions, globals, exit, Level, State, empty_level, on_latest, with_sort, with_symbol, with_assertion, with_declarations, folded, levels_popped, levels_emptied, after}

module _ {A : Type 0} where
  some_latest : (change : Level A → Level A) (ls : List (Level A)) → 0 < length (on_latest change ls)
  some_latest change [] = omega arith
  some_latest change (l ∷ ls) = omega arith

  some_pushed : (n : ℕ) (ls : List (Level A)) → 0 < length ls → 0 < length (replicate n empty_level ++ ls)
  some_pushed zero ls some = some
  some_pushed (suc n) ls some = omega arith

  some_dropped : (n : ℕ) (ls : List (Level A)) → n < length ls → 0 < length (drop n ls)
  some_dropped zero ls few = few
  some_dropped (suc n) [] few = absurd (omega (arith, few))
  some_dropped (suc n) (l ∷ ls) few = some_dropped n ls (omega (arith, few))

  some_folded : (n : ℕ) (ls : List (Level A)) → 0 < length ls → 0 < length (folded n ls)
  some_folded zero ls some = some
  some_folded (suc n) [] some = some
  some_folded (suc n) (l ∷ []) some = some
  some_folded (suc n) (k ∷ l ∷ ls) some = some_folded n (with_declarations k l ∷ ls) (omega arith)

  some_popped : (b : Bool) (n : ℕ) (ls : List (Level A)) → n < length ls → 0 < length (levels_popped b n ls)
  some_popped true n ls few = some_folded n ls (omega (arith, few))
  some_popped false n ls few = some_dropped n ls few

  some_emptied : (b : Bool) (ls : List (Level A)) → 0 < length (levels_emptied b ls)
  some_emptied true ls = omega arith
  some_emptied false ls = omega arith

  -- fewer levels are closed than are open
  abbrev pub ClosesFew : Command A → State A → Type 0
  ClosesFew (pop n) st = n < length st.levels
  ClosesFew _ st = Unit {0}

  pub some_after : (c : Command A) (st : State A) → ClosesFew c st → 0 < length st.levels → 0 < length (after c st).levels
  some_after (passed text) st few some = some
  some_after (declare_sort n) st few some = some_latest (with_sort n) st.levels
  some_after (declare f) st few some = some_latest (with_symbol f) st.levels
  some_after (assert i a) st few some = some_latest (with_assertion a) st.levels
  some_after check st few some = some
  some_after (check_assuming ls) st few some = some
  some_after (push n) st few some = some_pushed n st.levels some
  some_after (pop n) st few some = some_popped st.global n st.levels few
  some_after reset st few some = omega arith
  some_after reset_assertions st few some = some_emptied st.global st.levels
  some_after (globals b) st few some = some
  some_after exit st few some = some
