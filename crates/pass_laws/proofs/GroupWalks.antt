-- Commands with groups, and the commands that they are spelled as, lead through the same points, and at each of them to
-- levels that are alike.
use Rattle.std.proofs.Common.{◌≡◌, ◌∙◌, sym, ap, refl, subst, ℕ, zero, suc, ◌<◌, List, [], ◌∷◌, map, flat_map, length, Option, Some, None}
use Rattle.smt_terms.specs.Fresh.{Supply}
use Rattle.smt_terms.specs.Sorts.{Symbol}
use Rattle.smt_terms.specs.Term.{Term}
use Rattle.term_groups.specs.Grouping.{symbols_of}
use Rattle.script_read.specs.Commands.{Command, passed, declare_sort, declare, assert, check, check_assuming, push, pop, reset, reset_assertions, globals, exit, with_asserted, Level, State, start, on_latest, levels_popped, levels_emptied, with_levels, after, Point, points_from, nth_point, at_point, live_in, sorts_of_state, symbols_of_state}
use Rattle.pass_laws.specs.GroupPoints.{outputs, drawn_in, AreGrouped}
use Rattle.pass_laws.specs.Passed.{Replacement}
use Rattle.pass_laws.proofs.GroupLevels.{AllAmong, Widened, symbols_for, with_group, among_first, among_second, GroupLevels, empty_grouped, sorts_grouped, symbols_grouped, asserted_grouped, declared_grouped, latest_sort, latest_symbol, latest_group, pushed_grouped, popped_grouped, emptied_grouped}
use Rattle.pass_laws.proofs.GroupRuns.{points_grouped}

-- a command that asserts nothing
abbrev pub AssertsNothing : Command Replacement → Type 0
AssertsNothing (assert i r) = ⊥
AssertsNothing _ = Unit {0}

module _ (new : List Symbol) where
  -- ---- what is asked of each group

  -- an assertion's group has an assertion, and its symbols are new ones
  abbrev pub IsGiven : Command Replacement → Type 0
  IsGiven (assert i r) = (0 < length r.group.asserts) × AllAmong (symbols_of r.group.symbols) new
  IsGiven _ = Unit {0}

  abbrev pub AreGiven : List (Command Replacement) → Type 0
  AreGiven [] = Unit {0}
  AreGiven (c ∷ cs) = IsGiven c × AreGiven cs

  pub grouped_given : (rs : List (Command Replacement)) (s r : Supply) → AreGrouped rs s r → AllAmong (drawn_in rs) new → AreGiven rs
  grouped_given [] s r grouped among = tt
  grouped_given (assert i a ∷ rs) s r grouped among = (
    (grouped.1.0.some, λ f here. among f (among_first (symbols_of a.group.symbols) (drawn_in rs) f here)),
    grouped_given rs grouped.0 r grouped.1.1 (λ f there. among f (among_second (symbols_of a.group.symbols) (drawn_in rs) f there)),
  )
  grouped_given (c ∷ rs) s r grouped among = (tt, grouped_given rs s r grouped among)

  -- ---- states

  pub record GroupState (s : State Replacement) (t : State Term) : Type 0 where
    pub levels : GroupLevels new s.levels t.levels
    pub global : s.global ≡ t.global

  pub start_grouped : GroupState start start
  start_grouped = record { levels = (empty_grouped new, tt); global = refl }

  module _ (s : State Replacement) (t : State Term) (h : GroupState s t) where
    changed_grouped : (ks : List (Level Replacement)) (ls : List (Level Term)) → GroupLevels new ks ls → GroupState (with_levels s ks) (with_levels t ls)
    changed_grouped ks ls levels = record { levels = levels; global = h.global }

    after_pop : (n : ℕ) → GroupState (with_levels s (levels_popped s.global n s.levels)) (with_levels t (levels_popped t.global n t.levels))
    after_pop n = changed_grouped (levels_popped s.global n s.levels) (levels_popped t.global n t.levels)
        (subst (λ g. GroupLevels new (levels_popped s.global n s.levels) (levels_popped g n t.levels)) h.global (popped_grouped new s.global n s.levels t.levels h.levels))

    after_emptying : GroupState (with_levels s (levels_emptied s.global s.levels)) (with_levels t (levels_emptied t.global t.levels))
    after_emptying = changed_grouped (levels_emptied s.global s.levels) (levels_emptied t.global t.levels)
        (subst (λ g. GroupLevels new (levels_emptied s.global s.levels) (levels_emptied g t.levels)) h.global (emptied_grouped new s.global s.levels t.levels h.levels))

  pub after_grouped : (c : Command Replacement) → AssertsNothing c → (s : State Replacement) (t : State Term) → GroupState s t → GroupState (after c s) (after (with_asserted (λ r. r.term) c) t)
  after_grouped (passed text) nothing s t h = h
  after_grouped (declare_sort n) nothing s t h = record { levels = latest_sort new n s.levels t.levels h.levels; global = h.global }
  after_grouped (declare f) nothing s t h = record { levels = latest_symbol new f s.levels t.levels h.levels; global = h.global }
  after_grouped (assert i r) nothing s t h = absurd nothing
  after_grouped check nothing s t h = h
  after_grouped (check_assuming ls) nothing s t h = h
  after_grouped (push n) nothing s t h = record { levels = pushed_grouped new n s.levels t.levels h.levels; global = h.global }
  after_grouped (pop n) nothing s t h = after_pop s t h n
  after_grouped reset nothing s t h = start_grouped
  after_grouped reset_assertions nothing s t h = after_emptying s t h
  after_grouped (globals b) nothing s t h = record { levels = h.levels; global = refl }
  after_grouped exit nothing s t h = h

  -- and the group of an assertion
  pub group_grouped : (i : ℕ) (r : Replacement) → AllAmong (symbols_of r.group.symbols) new → (s : State Replacement) (t : State Term) → GroupState s t → GroupState (after (assert i r) s) (with_levels t (on_latest (with_group r.group) t.levels))
  group_grouped i r among s t h = record { levels = latest_group new r among s.levels t.levels h.levels; global = h.global }

  -- ---- points

  pub record GroupPoint (p : Point Replacement) (q : Point Term) : Type 0 where
    pub kind : q.kind ≡ p.kind
    pub state : GroupState p.state q.state
    pub literals : q.literals ≡ map (λ r. r.term) p.literals

  abbrev pub GroupPoints : List (Point Replacement) → List (Point Term) → Type 0
  GroupPoints [] [] = Unit {0}
  GroupPoints (p ∷ ps) (q ∷ qs) = GroupPoint p q × GroupPoints ps qs
  GroupPoints _ _ = ⊥

  pub walk_grouped : (rs : List (Command Replacement)) → AreGiven rs → (s : State Replacement) (t : State Term) → GroupState s t → GroupPoints (points_from s rs) (points_from t (outputs rs))
  walk_grouped [] given s t h = (record { kind = refl; state = h; literals = refl }, tt)
  walk_grouped (assert i r ∷ rs) given s t h =
      subst (λ ps. GroupPoints (points_from (after (assert i r) s) rs) ps) (sym (points_grouped i r.group given.0.0 t (outputs rs)))
      (walk_grouped rs given.1 (after (assert i r) s) (with_levels t (on_latest (with_group r.group) t.levels)) (group_grouped i r given.0.1 s t h))
  walk_grouped (check ∷ rs) given s t h = (record { kind = refl; state = h; literals = refl }, walk_grouped rs given.1 s t h)
  walk_grouped (check_assuming ls ∷ rs) given s t h = (record { kind = refl; state = h; literals = refl }, walk_grouped rs given.1 s t h)
  walk_grouped (c ∷ rs) given s t h = walk_grouped rs given.1 (after c s) (after (with_asserted (λ r. r.term) c) t) (after_grouped c tt s t h)

  -- ---- one point

  pub kinds_grouped : (ps : List (Point Replacement)) (qs : List (Point Term)) → GroupPoints ps qs → map (λ q. q.kind) qs ≡ map (λ p. p.kind) ps
  kinds_grouped [] [] h = refl
  kinds_grouped [] (q ∷ qs) h = absurd h
  kinds_grouped (p ∷ ps) [] h = absurd h
  kinds_grouped (p ∷ ps) (q ∷ qs) h = ap (λ k. k ∷ map (λ q. q.kind) qs) h.0.kind ∙ ap (λ ks. p.kind ∷ ks) (kinds_grouped ps qs h.1)

  -- what there is at a point
  pub record GroupSeen (p : Option (Point Replacement)) (q : Option (Point Term)) : Type 0 where
    pub sorts : at_point (λ p. sorts_of_state p.state) q ≡ at_point (λ p. sorts_of_state p.state) p
    pub symbols : Widened new (at_point (λ p. symbols_of_state p.state) p) (at_point (λ p. symbols_of_state p.state) q)
    pub live : at_point (λ p. live_in p.state) q ≡ flat_map (λ r. r.group.asserts) (at_point (λ p. live_in p.state) p)
    pub declared : AllAmong (symbols_for (at_point (λ p. live_in p.state) p)) (at_point (λ p. symbols_of_state p.state) q)
    pub literals : at_point (λ p. p.literals) q ≡ map (λ r. r.term) (at_point (λ p. p.literals) p)

  none_seen : GroupSeen None None
  none_seen = record { sorts = refl; symbols = symbols_grouped new [] [] tt; live = refl; declared = declared_grouped new [] [] tt; literals = refl }

  one_seen : (p : Point Replacement) (q : Point Term) → GroupPoint p q → GroupSeen (Some p) (Some q)
  one_seen p q h = record {
    sorts = sorts_grouped new p.state.levels q.state.levels h.state.levels;
    symbols = symbols_grouped new p.state.levels q.state.levels h.state.levels;
    live = asserted_grouped new p.state.levels q.state.levels h.state.levels;
    declared = declared_grouped new p.state.levels q.state.levels h.state.levels;
    literals = h.literals;
  }

  pub nth_seen : (ps : List (Point Replacement)) (qs : List (Point Term)) (k : ℕ) → GroupPoints ps qs → GroupSeen (nth_point ps k) (nth_point qs k)
  nth_seen [] [] k h = none_seen
  nth_seen [] (q ∷ qs) k h = absurd h
  nth_seen (p ∷ ps) [] k h = absurd h
  nth_seen (p ∷ ps) (q ∷ qs) zero h = none_seen
  nth_seen (p ∷ ps) (q ∷ qs) (suc zero) h = one_seen p q h.0
  nth_seen (p ∷ ps) (q ∷ qs) (suc (suc k)) h = nth_seen ps qs (suc k) h.1
