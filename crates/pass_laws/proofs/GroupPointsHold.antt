-- The points before a pass that makes groups and those behind it, one by one; and commands that can be printed are those before
-- such a pass.
use Rattle.std.proofs.Common.{◌≡◌, ◌∙◌, sym, ap, ◌||◌, ℕ, List, [], ◌∷◌, map, refl}
use Rattle.smt_terms.specs.Free.{is_among}
use Rattle.smt_terms.specs.Sorts.{Symbol}
use Rattle.smt_terms.specs.Term.{Term}
use Rattle.script_read.specs.Commands.{Command, passed, declare_sort, declare, assert, check, check_assuming, push, pop, reset, reset_assertions, globals, exit, start, points, nth_point, live, literals, signature}
use Rattle.smt_print.specs.Laws.{Each}
use Rattle.smt_print.proofs.LikePoints.{like_passed, like_sort, like_symbol, like_assert, like_check, like_assuming, like_push, like_pop, like_reset, like_emptying, like_globals, like_exit, LikeCommands, Alike, alike}
use Rattle.pass_laws.specs.GroupPoints.{inputs, outputs, drawn_in, PointsOfGroups, GroupsHavePoints, ReadyCommandsAreGrouped}
use Rattle.pass_laws.specs.Passed.{Replacement}
use Rattle.pass_laws.proofs.GroupCommands.{ready-commands-are-grouped as commands-are-grouped}
use Rattle.pass_laws.proofs.GroupWalks.{AreGiven, GroupPoints, GroupSeen, grouped_given, start_grouped, walk_grouped, kinds_grouped, nth_seen}

-- ---- the commands before the pass

abbrev IsTermOf : Replacement → Term → Type 0
IsTermOf r t = t ≡ r.term

each_term : (rs : List Replacement) → Each IsTermOf rs (map (λ r. r.term) rs)
each_term [] = tt
each_term (r ∷ rs) = (refl, each_term rs)

terms_of_each : (rs : List Replacement) (ts : List Term) → Each IsTermOf rs ts → ts ≡ map (λ r. r.term) rs
terms_of_each [] [] h = refl
terms_of_each [] (t ∷ ts) h = absurd h
terms_of_each (r ∷ rs) [] h = absurd h
terms_of_each (r ∷ rs) (t ∷ ts) h = ap (λ u. u ∷ ts) h.0 ∙ ap (λ us. r.term ∷ us) (terms_of_each rs ts h.1)

inputs_like : (rs : List (Command Replacement)) → LikeCommands Replacement Term IsTermOf rs (inputs rs)
inputs_like [] = tt
inputs_like (passed text ∷ rs) = (like_passed text text, inputs_like rs)
inputs_like (declare_sort n ∷ rs) = (like_sort n, inputs_like rs)
inputs_like (declare f ∷ rs) = (like_symbol f, inputs_like rs)
inputs_like (assert i r ∷ rs) = (like_assert i i r r.term refl, inputs_like rs)
inputs_like (check ∷ rs) = (like_check, inputs_like rs)
inputs_like (check_assuming ls ∷ rs) = (like_assuming ls (map (λ r. r.term) ls) (each_term ls), inputs_like rs)
inputs_like (push n ∷ rs) = (like_push n, inputs_like rs)
inputs_like (pop n ∷ rs) = (like_pop n, inputs_like rs)
inputs_like (reset ∷ rs) = (like_reset, inputs_like rs)
inputs_like (reset_assertions ∷ rs) = (like_emptying, inputs_like rs)
inputs_like (globals b ∷ rs) = (like_globals b, inputs_like rs)
inputs_like (exit ∷ rs) = (like_exit, inputs_like rs)

pub signatures_before : (rs : List (Command Replacement)) (k : ℕ) → signature (inputs rs) k ≡ signature rs k
signatures_before rs k = sym ((alike Replacement Term IsTermOf rs (inputs rs) (inputs_like rs)).signatures k)

-- ---- the points

module _ (rs : List (Command Replacement)) (given : AreGiven (drawn_in rs) rs) where
  before : Alike Replacement Term IsTermOf rs (inputs rs)
  before = alike Replacement Term IsTermOf rs (inputs rs) (inputs_like rs)

  behind : GroupPoints (drawn_in rs) (points rs) (points (outputs rs))
  behind = walk_grouped (drawn_in rs) rs given start start (start_grouped (drawn_in rs))

  seen : (k : ℕ) → GroupSeen (drawn_in rs) (nth_point (points rs) k) (nth_point (points (outputs rs)) k)
  seen k = nth_seen (drawn_in rs) (points rs) (points (outputs rs)) k behind

  symbols_before : (k : ℕ) (f : Symbol) → is_among (signature (inputs rs) k).symbols f ≡ is_among (signature rs k).symbols f
  symbols_before k f = ap (λ g. is_among g.symbols f) (sym (before.signatures k))

  pub points_of_groups : PointsOfGroups rs
  points_of_groups = record {
    kinds = kinds_grouped (drawn_in rs) (points rs) (points (outputs rs)) behind ∙ before.kinds;
    live_before = λ k. terms_of_each (live rs k) (live (inputs rs) k) (before.live k);
    live_behind = λ k. (seen k).live;
    literals = λ k. (seen k).literals ∙ sym (terms_of_each (literals rs k) (literals (inputs rs) k) (before.literals k));
    sorts = λ k. (seen k).sorts ∙ ap (λ g. g.sorts) (before.signatures k);
    stays = λ k f among. (seen k).symbols.stays f (sym (symbols_before k f) ∙ among);
    comes = λ k f among. ap (λ b. b || is_among (drawn_in rs) f) (symbols_before k f) ∙ (seen k).symbols.comes f among;
    declared = λ k f among. (seen k).declared f among;
  }

pub groups-have-points : GroupsHavePoints
groups-have-points rs s r grouped = points_of_groups rs (grouped_given (drawn_in rs) rs s r grouped (λ f among. among))

pub ready-commands-are-grouped : ReadyCommandsAreGrouped
ready-commands-are-grouped = commands-are-grouped
