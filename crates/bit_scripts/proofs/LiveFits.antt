-- What holds of all that commands assert and assume holds of what is live and assumed at each point.
use Rattle.std.proofs.Common.{ℕ, zero, suc, Bool, true, false, List, [], ◌∷◌, ◌++◌, replicate, drop, Option, Some, None, All}
use Rattle.std.specs.Prelude.{IfSome}
use Rattle.std.proofs.lemmas.List.Elements.{All-nil, All-append, All-push}
use Rattle.script_read.specs.Commands.{Command, passed, declare_sort, declare, assert, check, check_assuming, push, pop, reset, reset_assertions, globals, exit, Level, State, empty_level, start, throughout, on_latest, with_sort, with_symbol, with_assertion, with_declarations, folded, levels_popped, levels_emptied, after, Point, with_point, points_from, points, nth_point, at_point, live, literals}

module _ {A : Type 0} (P : A → Type 0) where
  -- P holds of what a command asserts and assumes
  abbrev pub Fits : Command A → Type 0
  Fits (assert i a) = P a
  Fits (check_assuming ls) = All P ls
  Fits _ = Unit {0}

  abbrev pub EachFits : List (Command A) → Type 0
  EachFits [] = Unit {0}
  EachFits (c ∷ cs) = Fits c × EachFits cs

  -- ---- levels

  abbrev LevelsFit : List (Level A) → Type 0
  LevelsFit [] = Unit {0}
  LevelsFit (l ∷ ls) = All P l.asserted × LevelsFit ls

  all_asserted : (ls : List (Level A)) → LevelsFit ls → All P (throughout (λ l. l.asserted) ls)
  all_asserted [] h = All-nil P
  all_asserted (l ∷ ls) h = All-append P (throughout (λ l. l.asserted) ls) l.asserted (all_asserted ls h.1) h.0

  latest_fits : (change : Level A → Level A) → ((l : Level A) → All P l.asserted → All P (change l).asserted) → (ls : List (Level A)) → LevelsFit ls → LevelsFit (on_latest change ls)
  latest_fits change keeps [] h = (keeps empty_level (All-nil P), tt)
  latest_fits change keeps (l ∷ ls) h = (keeps l h.0, h.1)

  pushed_fit : (n : ℕ) (ls : List (Level A)) → LevelsFit ls → LevelsFit (replicate n empty_level ++ ls)
  pushed_fit zero ls h = h
  pushed_fit (suc n) ls h = (All-nil P, pushed_fit n ls h)

  dropped_fit : (n : ℕ) (ls : List (Level A)) → LevelsFit ls → LevelsFit (drop n ls)
  dropped_fit zero ls h = h
  dropped_fit (suc n) [] h = tt
  dropped_fit (suc n) (l ∷ ls) h = dropped_fit n ls h.1

  folded_fit : (n : ℕ) (ls : List (Level A)) → LevelsFit ls → LevelsFit (folded n ls)
  folded_fit zero ls h = h
  folded_fit (suc n) [] h = tt
  folded_fit (suc n) (l ∷ []) h = h
  folded_fit (suc n) (above ∷ l ∷ ls) h = folded_fit n (with_declarations above l ∷ ls) h.1

  popped_fit : (global : Bool) (n : ℕ) (ls : List (Level A)) → LevelsFit ls → LevelsFit (levels_popped global n ls)
  popped_fit true n ls h = folded_fit n ls h
  popped_fit false n ls h = dropped_fit n ls h

  emptied_fit : (global : Bool) (ls : List (Level A)) → LevelsFit (levels_emptied global ls)
  emptied_fit true ls = (All-nil P, tt)
  emptied_fit false ls = (All-nil P, tt)

  after_fits : (c : Command A) (s : State A) → Fits c → LevelsFit s.levels → LevelsFit (after c s).levels
  after_fits (declare_sort n) s p h = latest_fits (with_sort n) (λ l k. k) s.levels h
  after_fits (declare f) s p h = latest_fits (with_symbol f) (λ l k. k) s.levels h
  after_fits (assert i a) s p h = latest_fits (with_assertion a) (λ l k. All-push P l.asserted a k p) s.levels h
  after_fits (push n) s p h = pushed_fit n s.levels h
  after_fits (pop n) s p h = popped_fit s.global n s.levels h
  after_fits reset_assertions s p h = emptied_fit s.global s.levels
  after_fits reset s p h = (All-nil P, tt)
  after_fits (globals b) s p h = h
  after_fits (passed text) s p h = h
  after_fits check s p h = h
  after_fits (check_assuming ls) s p h = h
  after_fits exit s p h = h

  -- ---- points

  record PointFits (p : Point A) : Type 0 where
    levels : LevelsFit p.state.levels
    literals : All P p.literals

  abbrev PointsFit : List (Point A) → Type 0
  PointsFit [] = Unit {0}
  PointsFit (p ∷ ps) = PointFits p × PointsFit ps

  with_point_fits : (c : Command A) (s : State A) (ps : List (Point A)) → Fits c → LevelsFit s.levels → PointsFit ps → PointsFit (with_point c s ps)
  with_point_fits check s ps p h k = (record { levels = h; literals = All-nil P }, k)
  with_point_fits (check_assuming ls) s ps p h k = (record { levels = h; literals = p }, k)
  with_point_fits _ s ps p h k = k

  points_fit : (cs : List (Command A)) (s : State A) → EachFits cs → LevelsFit s.levels → PointsFit (points_from s cs)
  points_fit [] s all h = (record { levels = h; literals = All-nil P }, tt)
  points_fit (c ∷ cs) s all h = with_point_fits c s (points_from (after c s) cs) all.0 h (points_fit cs (after c s) all.1 (after_fits c s all.0 h))

  nth_fits : (ps : List (Point A)) (k : ℕ) → PointsFit ps → IfSome (nth_point ps k) PointFits
  nth_fits [] k h = tt
  nth_fits (p ∷ ps) zero h = tt
  nth_fits (p ∷ ps) (suc zero) h = h.0
  nth_fits (p ∷ ps) (suc (suc k)) h = nth_fits ps (suc k) h.1

  all_at : (part : Point A → List A) → ((p : Point A) → PointFits p → All P (part p)) → (o : Option (Point A)) → IfSome o PointFits → All P (at_point part o)
  all_at part each None h = All-nil P
  all_at part each (Some p) h = each p h

  pub live_fits : (cs : List (Command A)) → EachFits cs → (k : ℕ) → All P (live cs k ++ literals cs k)
  live_fits cs all k =
      let here : IfSome (nth_point (points cs) k) PointFits = nth_fits (points cs) k (points_fit cs start all (All-nil P, tt)) in
      All-append P (live cs k) (literals cs k)
      (all_at (λ p. throughout (λ l. l.asserted) p.state.levels) (λ p h. all_asserted p.state.levels h.levels) (nth_point (points cs) k) here)
      (all_at (λ p. p.literals) (λ p h. h.literals) (nth_point (points cs) k) here)
