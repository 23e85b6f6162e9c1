-- What is asserted and declared at a check among commands with groups is what is found in the commands before it.
use Rattle.std.proofs.Common.{◌≡◌, ◌∙◌, sym, ap, refl, ℕ, zero, suc, ◌+◌, ◌<◌, ◌≤◌, Bool, true, false, true≢false, List, [], ◌∷◌, ◌++◌, map, filter, flat_map, length, drop, count_by, Option, Some, None, cond, if◌then◌else◌, append-nil, arith}
use Rattle.std.specs.Prelude.{option_map}
use Rattle.std.proofs.lemmas.List.{drop-drop}
use Rattle.std.proofs.lemmas.List.Elements.{filter-append}
use Rattle.std.proofs.lemmas.Option.{none-some, same_Some}
use Rattle.smt_terms.specs.Equal.{symbol_eq}
use Rattle.smt_terms.specs.Free.{is_among}
use Rattle.smt_terms.specs.Sorts.{Symbol}
use Rattle.smt_terms.specs.Term.{Term}
use Rattle.smt_terms.proofs.Equal.{symbol_itself}
use Rattle.smt_terms.proofs.Tests.{left_true, right_true}
use Rattle.term_groups.specs.Grouping.{symbols_of}
use Rattle.script_read.specs.Commands.{Command, assert, check, check_assuming, checked, assumed, Level, State, start, throughout, with_assertion, with_declarations, levels_popped, levels_emptied, Point, points_from, points, nth_point, at_point, live_in, symbols_of_state, live, signature, is_check}
use Rattle.pass_laws.specs.GroupPoints.{outputs}
use Rattle.pass_laws.specs.Passed.{Replacement}
use Rattle.pass_laws.proofs.FoundGroups.{May, AllMay, up_to, may_up_to, found_in, after_by, behind_by, LeadsThrough, state_at, IsPart, all_is_found}
use Rattle.pass_laws.proofs.GroupLevels.{AllAmong, with_group}
use Rattle.pass_laws.proofs.GroupRuns.{points_grouped}
use Rattle.pass_laws.proofs.LevelsBelow.{below_none, below_folded, throughout_folded}
use Rattle.pass_laws.proofs.MetGroups.{symbols_for}

-- what an assertion adds to the latest level, before the pass and behind it
abbrev pub asserts_itself : Replacement → Level Replacement → Level Replacement
asserts_itself r l = with_assertion r l

abbrev pub with_its_group : Replacement → Level Term → Level Term
with_its_group r l = with_group r.group l

module _ (new : List Symbol) where
  -- ---- what is asked of commands

  -- what they declare isn't new, and the symbols of their groups are, each of which has an assertion
  abbrev pub IsOld : Symbol → Type 0
  IsOld f = is_among new f ≡ false

  abbrev pub IsGroupGiven : Replacement → Type 0
  IsGroupGiven r = (0 < length r.group.asserts) × AllAmong (symbols_of r.group.symbols) new

  abbrev pub GroupsMay : List (Command Replacement) → Type 0
  GroupsMay rs = AllMay Replacement IsOld IsGroupGiven false 0 rs

  -- ---- what is asserted

  abbrev asserted_in : Level Replacement → List Replacement
  asserted_in l = l.asserted

  popped_asserted : (b : Bool) (k n : ℕ) (ls : List (Level Replacement)) → n < length ls → throughout asserted_in (drop k (levels_popped b n ls)) ≡ throughout asserted_in (drop (k + n) ls)
  popped_asserted true k n ls few = below_folded asserted_in refl (λ above l. refl) k n ls few
  popped_asserted false k n ls few = let same : n + k ≡ k + n = omega arith in ap (throughout asserted_in) (drop-drop k n ls) ∙ ap (λ i. throughout asserted_in (drop i ls)) same

  emptied_asserted : (b : Bool) (k : ℕ) (ls : List (Level Replacement)) → throughout asserted_in (drop k (levels_emptied b ls)) ≡ []
  emptied_asserted true zero ls = refl
  emptied_asserted true (suc k) ls = below_none asserted_in refl k
  emptied_asserted false zero ls = refl
  emptied_asserted false (suc k) ls = below_none asserted_in refl k

  asserted_part : (global : Bool) → IsPart Replacement Replacement asserts_itself IsOld IsGroupGiven false global asserted_in (λ r. r ∷ [])
  asserted_part global = record {
    empty = refl;
    sort_declared = λ n l. refl;
    symbol_declared = λ f old l. refl;
    asserted = λ r given l. refl;
    popped = λ k n ls none few. popped_asserted global k n ls few;
    emptied = λ k ls none. emptied_asserted global k ls;
  }

  asserted_lead : LeadsThrough Replacement Replacement asserts_itself IsOld IsGroupGiven points_from
  asserted_lead = record { goes = goes; stops = stops }
    where
      goes : (begun : Bool) (d : ℕ) (s : State Replacement) (c : Command Replacement) (cs : List (Command Replacement)) → May Replacement IsOld IsGroupGiven begun d c → is_check c ≡ false
          → points_from s (c ∷ cs) ≡ points_from (after_by Replacement Replacement asserts_itself c s) cs
      goes begun d s check cs may plain = absurd (true≢false plain)
      goes begun d s (check_assuming ls) cs may plain = absurd (true≢false plain)
      goes begun d s _ cs may plain = refl

      stops : (s : State Replacement) (c : Command Replacement) (cs : List (Command Replacement)) → is_check c ≡ true → (p : Point Replacement) × ((p.state ≡ s) × (points_from s (c ∷ cs) ≡ p ∷ points_from s cs))
      stops s check cs is = (record { kind = checked; state = s; literals = [] }, (refl, refl))
      stops s (check_assuming ls) cs is = (record { kind = assumed; state = s; literals = ls }, (refl, refl))
      stops s _ cs is = absurd cc

  -- ---- what is declared

  abbrev new_in : Level Term → List Symbol
  new_in l = filter (is_among new) l.symbols

  all_kept : (p : Symbol → Bool) (fs : List Symbol) → ((f : Symbol) → is_among fs f ≡ true → p f ≡ true) → filter p fs ≡ fs
  all_kept p [] all = refl
  all_kept p (f ∷ fs) all =
      (λ i. cond (all f (left_true (symbol_eq f f) (is_among fs f) (symbol_itself f)) i) (f ∷ filter p fs) (filter p fs))
      ∙ ap (λ gs. f ∷ gs) (all_kept p fs (λ g among. all g (right_true (symbol_eq f g) (is_among fs g) among)))

  none_kept : (fs : List Symbol) (f : Symbol) → IsOld f → filter (is_among new) (fs ++ f ∷ []) ≡ filter (is_among new) fs
  none_kept fs f old =
      filter-append (is_among new) fs (f ∷ []) ∙ ap (λ b. filter (is_among new) fs ++ cond b (f ∷ []) []) old ∙ append-nil (filter (is_among new) fs)

  pub new_throughout : (ls : List (Level Term)) → filter (is_among new) (throughout (λ l. l.symbols) ls) ≡ throughout new_in ls
  new_throughout [] = refl
  new_throughout (l ∷ ls) = filter-append (is_among new) (throughout (λ l. l.symbols) ls) l.symbols ∙ ap (λ fs. fs ++ new_in l) (new_throughout ls)

  merged_new : (above l : Level Term) → new_in (with_declarations above l) ≡ new_in l ++ new_in above
  merged_new above l = filter-append (is_among new) l.symbols above.symbols

  popped_new : (b : Bool) (k n : ℕ) (ls : List (Level Term)) → (b ≡ true → k ≡ 0) → throughout new_in (drop k (levels_popped b n ls)) ≡ throughout new_in (drop (if b then k else k + n) ls)
  popped_new true k n ls none =
      ap (λ i. throughout new_in (drop i (levels_popped true n ls))) (none refl) ∙ throughout_folded new_in refl merged_new n ls ∙ ap (λ i. throughout new_in (drop i ls)) (sym (none refl))
  popped_new false k n ls none = let same : n + k ≡ k + n = omega arith in ap (throughout new_in) (drop-drop k n ls) ∙ ap (λ i. throughout new_in (drop i ls)) same

  emptied_new : (b : Bool) (k : ℕ) (ls : List (Level Term)) → (b ≡ true → k ≡ 0) → throughout new_in (drop k (levels_emptied b ls)) ≡ (if b then throughout new_in (drop k ls) else [])
  emptied_new true k ls none =
      ap (λ i. throughout new_in (drop i (levels_emptied true ls))) (none refl) ∙ new_throughout ls ∙ ap (λ i. throughout new_in (drop i ls)) (sym (none refl))
  emptied_new false zero ls none = refl
  emptied_new false (suc k) ls none = below_none new_in refl k

  declared_part : (global : Bool) → IsPart Replacement Term with_its_group IsOld IsGroupGiven global global new_in (λ r. symbols_of r.group.symbols)
  declared_part global = record {
    empty = refl;
    sort_declared = λ n l. refl;
    symbol_declared = λ f old l. none_kept l.symbols f old;
    asserted = λ r given l. filter-append (is_among new) l.symbols (symbols_of r.group.symbols) ∙ ap (λ fs. new_in l ++ fs) (all_kept (is_among new) (symbols_of r.group.symbols) given.1);
    popped = λ k n ls none few. popped_new global k n ls none;
    emptied = emptied_new global;
  }

  declared_lead : LeadsThrough Replacement Term with_its_group IsOld IsGroupGiven (λ s rs. points_from s (outputs rs))
  declared_lead = record { goes = goes; stops = stops }
    where
      goes : (begun : Bool) (d : ℕ) (s : State Term) (c : Command Replacement) (cs : List (Command Replacement)) → May Replacement IsOld IsGroupGiven begun d c → is_check c ≡ false
          → points_from s (outputs (c ∷ cs)) ≡ points_from (after_by Replacement Term with_its_group c s) (outputs cs)
      goes begun d s check cs may plain = absurd (true≢false plain)
      goes begun d s (check_assuming ls) cs may plain = absurd (true≢false plain)
      goes begun d s (assert i r) cs may plain = points_grouped i r.group may.0 s (outputs cs)
      goes begun d s _ cs may plain = refl

      stops : (s : State Term) (c : Command Replacement) (cs : List (Command Replacement)) → is_check c ≡ true → (p : Point Term) × ((p.state ≡ s) × (points_from s (outputs (c ∷ cs)) ≡ p ∷ points_from s (outputs cs)))
      stops s check cs is = (record { kind = checked; state = s; literals = [] }, (refl, refl))
      stops s (check_assuming ls) cs is = (record { kind = assumed; state = s; literals = map (λ r. r.term) ls }, (refl, refl))
      stops s _ cs is = absurd cc

  -- ---- at a check

  part_at : {A B : Type 0} (part : State A → List B) (o : Option (Point A)) (s : State A) → option_map (λ (p : Point A). p.state) o ≡ Some s → at_point (λ p. part p.state) o ≡ part s
  part_at part None s h = absurd (none-some s h)
  part_at part (Some p) s h = ap part (same_Some p.state s h)

  alone : {A : Type 0} (xs : List A) → flat_map (λ x. x ∷ []) xs ≡ xs
  alone [] = refl
  alone (x ∷ xs) = ap (λ ys. x ∷ ys) (alone xs)

  module _ (rs : List (Command Replacement)) (may : GroupsMay rs) (k : ℕ) (some : 1 ≤ k) (few : k ≤ count_by is_check rs) where
    abbrev before : List (Command Replacement)
    before = up_to Replacement k rs

    pub first_may : GroupsMay (up_to Replacement k rs)
    first_may = may_up_to Replacement IsOld IsGroupGiven rs k false 0 may

    pub live_found : (global : Bool) → (behind_by Replacement Replacement asserts_itself start before).global ≡ global → live rs k ≡ (found_in Replacement false before).found
    live_found global last =
        part_at live_in (nth_point (points rs) k) (behind_by Replacement Replacement asserts_itself start before)
        (state_at Replacement Replacement asserts_itself IsOld IsGroupGiven points_from asserted_lead rs k false 0 start may some few)
        ∙ all_is_found Replacement Replacement asserts_itself IsOld IsGroupGiven false global asserted_in (λ r. r ∷ []) (asserted_part global) before first_may last
        ∙ alone (found_in Replacement false before).found

    pub symbols_there : (signature rs k).symbols ≡ symbols_of_state (behind_by Replacement Replacement asserts_itself start (up_to Replacement k rs))
    symbols_there =
        part_at symbols_of_state (nth_point (points rs) k) (behind_by Replacement Replacement asserts_itself start before)
        (state_at Replacement Replacement asserts_itself IsOld IsGroupGiven points_from asserted_lead rs k false 0 start may some few)

    pub declared_found : (global : Bool) → (behind_by Replacement Term with_its_group start before).global ≡ global
        → filter (is_among new) (signature (outputs rs) k).symbols ≡ symbols_for (found_in Replacement global before).found
    declared_found global last =
        ap (filter (is_among new)) (part_at symbols_of_state (nth_point (points (outputs rs)) k) (behind_by Replacement Term with_its_group start before)
        (state_at Replacement Term with_its_group IsOld IsGroupGiven (λ s cs. points_from s (outputs cs)) declared_lead rs k false 0 start may some few))
        ∙ new_throughout (behind_by Replacement Term with_its_group start before).levels
        ∙ all_is_found Replacement Term with_its_group IsOld IsGroupGiven global global new_in (λ r. symbols_of r.group.symbols) (declared_part global) before first_may last
