-- The points behind the removal of applications are those that there are behind its groups, without the functions that have
-- arguments.
use Rattle.std.proofs.Common.{◌≡◌, ◌∙◌, sym, ap, refl, subst, ℕ, ◌<◌, List, [], ◌∷◌, ◌++◌, map, flat_map, length, arith}
use Rattle.std.specs.Prelude.{option_map}
use Rattle.smt_terms.specs.Fresh.{Supply}
use Rattle.smt_terms.specs.Rank.{is_empty}
use Rattle.smt_terms.specs.Sorts.{Sort, Symbol}
use Rattle.smt_terms.specs.Term.{Term}
use Rattle.term_groups.specs.Drawing.{ConstantsAreNew}
use Rattle.script_read.specs.Commands.{Command, passed, declare_sort, declare, assert, check, check_assuming, push, pop, reset, reset_assertions, globals, exit, checked, assumed, State, start, on_latest, with_levels, after, Point, points_from, points, nth_point, live_in, kinds, live, literals, signature}
use Rattle.pass_laws.specs.declared.names.Pass.TheVariants.{Ackermann}
use Rattle.pass_laws.specs.GroupPoints.{outputs}
use Rattle.pass_laws.specs.Passed.{Replacement, without_arguments, written}
use Rattle.pass_laws.proofs.GroupLevels.{with_group, length_grouped}
use Rattle.pass_laws.proofs.GroupRuns.{points_grouped}
use Rattle.pass_laws.proofs.GroupWalks.{AreGiven, GroupState, start_grouped, after_grouped, group_grouped}
use Rattle.pass_laws.proofs.OpenLevels.{some_after}
use Rattle.pass_laws.proofs.PlainStates.{plain, plain_state, plain_point, plain_group, plain_after, plain_without, nth_plain, PlainSeen, plain_seen, DeclaresNoFunction}
use Rattle.pass_laws.proofs.RemovalChains.{acked_constants}
use Rattle.pass_laws.proofs.RemovalLinks.{pairs_of}
use Rattle.pass_laws.proofs.RemovalStates.{AreAcked}

-- the commands behind
abbrev pub plain_outputs : List (Command Replacement) → List (Command Term)
plain_outputs rs = flat_map (written Ackermann) rs

module _ (law : ConstantsAreNew) (s : Supply) (new : List Symbol) where
  -- what is shown of these commands, from any state on
  abbrev ArePlain : List (Command Replacement) → Type 0
  ArePlain rs =
      (st : State Replacement) (t : State Term) (p r : Supply) → AreAcked s rs st p r → AreGiven new rs → GroupState new st t → 0 < length st.levels
      → points_from (plain_state t) (plain_outputs rs) ≡ map plain_point (points_from t (outputs rs))

  same_from : (t u : State Term) → t ≡ u → (cs : List (Command Term)) → points_from t cs ≡ points_from u cs
  same_from t u same cs = ap (λ v. points_from v cs) same

  declared_plain : (f : Symbol) (rs : List (Command Replacement)) (t : State Term) → 0 < length t.levels
      → points_from (plain_state (after (declare f) t)) (plain_outputs rs) ≡ map plain_point (points_from (after (declare f) t) (outputs rs))
      → points_from (plain_state t) (plain_outputs (declare f ∷ rs)) ≡ map plain_point (points_from t (outputs (declare f ∷ rs)))
  declared_plain f rs t some_open rest = go f.args refl ∙ rest
    where
      go : (ss : List Sort) → f.args ≡ ss → points_from (plain_state t) (without_arguments f.args (declare f ∷ []) ++ plain_outputs rs) ≡ points_from (plain_state (after (declare f) t)) (plain_outputs rs)
      go [] e =
          ap (λ ss. points_from (plain_state t) (without_arguments ss (declare f ∷ []) ++ plain_outputs rs)) e
          ∙ same_from (after (declare f) (plain_state t)) (plain_state (after (declare f) t)) (plain_after (declare f) (ap is_empty e) t) (plain_outputs rs)
      go (s ∷ ss) e =
          ap (λ us. points_from (plain_state t) (without_arguments us (declare f ∷ []) ++ plain_outputs rs)) e
          ∙ same_from (plain_state t) (plain_state (after (declare f) t)) (sym (plain_without f (ap is_empty e) t some_open)) (plain_outputs rs)

  stays_plain : (c : Command Term) → DeclaresNoFunction c → (rs : List (Command Replacement)) (t : State Term)
      → points_from (plain_state (after c t)) (plain_outputs rs) ≡ map plain_point (points_from (after c t) (outputs rs))
      → points_from (after c (plain_state t)) (plain_outputs rs) ≡ map plain_point (points_from (after c t) (outputs rs))
  stays_plain c none rs t rest = same_from (after c (plain_state t)) (plain_state (after c t)) (plain_after c none t) (plain_outputs rs) ∙ rest

  group_plain : (i : ℕ) (x : Replacement) (rs : List (Command Replacement)) → ArePlain rs → ArePlain (assert i x ∷ rs)
  group_plain i x rs below st t p r is given h some_open =
      let behind : State Term = with_levels t (on_latest (with_group x.group) t.levels) in
      points_grouped i x.group given.0.0 (plain_state t) (plain_outputs rs)
      ∙ ap (λ ls. points_from (record { levels = ls; global = t.global }) (plain_outputs rs)) (plain_group x.group (acked_constants law (pairs_of (live_in st)) x p is.1.0 is.1.1.0) t.levels)
      ∙ below (after (assert i x) st) behind is.1.0 r is.1.1.1 given.1 (group_grouped new i x given.0.1 st t h) (some_after (assert i x) st tt some_open)
      ∙ ap (map plain_point) (sym (points_grouped i x.group given.0.0 t (outputs rs)))

  pub all_plain : (rs : List (Command Replacement)) → ArePlain rs
  all_plain [] st t p r is given h some_open = refl
  all_plain (assert i x ∷ rs) st t p r is given h some_open = group_plain i x rs (all_plain rs) st t p r is given h some_open
  all_plain (declare f ∷ rs) st t p r is given h some_open =
      declared_plain f rs t (subst (λ n. 0 < n) (length_grouped new st.levels t.levels h.levels) some_open)
      (all_plain rs (after (declare f) st) (after (declare f) t) p r is given.1 (after_grouped new (declare f) tt st t h) (some_after (declare f) st tt some_open))
  all_plain (check ∷ rs) st t p r is given h some_open = ap (λ ps. record { kind = checked; state = plain_state t; literals = [] } ∷ ps) (all_plain rs st t p r is given.1 h some_open)
  all_plain (check_assuming ls ∷ rs) st t p r is given h some_open = ap (λ ps. record { kind = assumed; state = plain_state t; literals = map (λ r. r.term) ls } ∷ ps) (all_plain rs st t p r is given.1 h some_open)
  all_plain (passed text ∷ rs) st t p r is given h some_open = all_plain rs st t p r is given.1 h some_open
  all_plain (declare_sort n ∷ rs) st t p r is given h some_open =
      stays_plain (declare_sort n) tt rs t (all_plain rs (after (declare_sort n) st) (after (declare_sort n) t) p r is given.1 (after_grouped new (declare_sort n) tt st t h) (some_after (declare_sort n) st tt some_open))
  all_plain (push n ∷ rs) st t p r is given h some_open =
      stays_plain (push n) tt rs t (all_plain rs (after (push n) st) (after (push n) t) p r is given.1 (after_grouped new (push n) tt st t h) (some_after (push n) st tt some_open))
  all_plain (pop n ∷ rs) st t p r is given h some_open =
      stays_plain (pop n) tt rs t (all_plain rs (after (pop n) st) (after (pop n) t) p r is.1 given.1 (after_grouped new (pop n) tt st t h) (some_after (pop n) st is.0 some_open))
  all_plain (reset ∷ rs) st t p r is given h some_open =
      stays_plain reset tt rs t (all_plain rs start start p r is given.1 (start_grouped new) (omega arith))
  all_plain (reset_assertions ∷ rs) st t p r is given h some_open =
      stays_plain reset_assertions tt rs t (all_plain rs (after reset_assertions st) (after reset_assertions t) p r is given.1 (after_grouped new reset_assertions tt st t h) (some_after reset_assertions st tt some_open))
  all_plain (globals b ∷ rs) st t p r is given h some_open =
      stays_plain (globals b) tt rs t (all_plain rs (after (globals b) st) (after (globals b) t) p r is given.1 (after_grouped new (globals b) tt st t h) some_open)
  all_plain (exit ∷ rs) st t p r is given h some_open = all_plain rs st t p r is given.1 h some_open

-- the points behind, one by one, and those behind the groups
pub record PlainAt (rs : List (Command Replacement)) (k : ℕ) : Type 0 where
  pub sorts : (signature (plain_outputs rs) k).sorts ≡ (signature (outputs rs) k).sorts
  pub symbols : (signature (plain_outputs rs) k).symbols ≡ plain (signature (outputs rs) k).symbols
  pub live : live (plain_outputs rs) k ≡ live (outputs rs) k
  pub literals : literals (plain_outputs rs) k ≡ literals (outputs rs) k

module _ (law : ConstantsAreNew) (rs : List (Command Replacement)) (s r : Supply) (new : List Symbol) (is : AreAcked s rs start s r) (given : AreGiven new rs) where
  same_points : points (plain_outputs rs) ≡ map plain_point (points (outputs rs))
  same_points = all_plain law s new rs start start s r is given (start_grouped new) (omega arith)

  kinds_kept : (ps : List (Point Term)) → map (λ p. p.kind) (map plain_point ps) ≡ map (λ p. p.kind) ps
  kinds_kept [] = refl
  kinds_kept (p ∷ ps) = ap (λ ks. p.kind ∷ ks) (kinds_kept ps)

  pub plain_kinds : kinds (plain_outputs rs) ≡ kinds (outputs rs)
  plain_kinds = ap (map (λ p. p.kind)) same_points ∙ kinds_kept (points (outputs rs))

  pub plain_at : (k : ℕ) → PlainAt rs k
  plain_at k =
      let same : nth_point (points (plain_outputs rs)) k ≡ option_map plain_point (nth_point (points (outputs rs)) k) = ap (λ ps. nth_point ps k) same_points ∙ nth_plain (points (outputs rs)) k in
      let here : PlainSeen (nth_point (points (outputs rs)) k) (nth_point (points (plain_outputs rs)) k) = subst (PlainSeen (nth_point (points (outputs rs)) k)) (sym same) (plain_seen (nth_point (points (outputs rs)) k)) in
      record { sorts = here.sorts; symbols = here.symbols; live = here.live; literals = here.literals }
