-- The names that are left behind a removal of applications are none of those in its commands.
use Rattle.std.proofs.Common.{◌≡◌, ◌∙◌, sym, ap, refl, subst, ℕ, Bool, true, List, [], ◌∷◌, ◌++◌, map, flat_map, All}
use Rattle.std.specs.List.{list_all}
use Rattle.std.proofs.lemmas.List.Elements.{All-head, All-tail}
use Rattle.smt_terms.specs.Free.{name_among, names_of}
use Rattle.smt_terms.specs.Fresh.{Supply}
use Rattle.smt_terms.specs.Groups.{Named}
use Rattle.smt_terms.specs.Sorts.{Name, Sort, Symbol}
use Rattle.smt_terms.specs.SubstLaws.{names_within, GivesNone, Later}
use Rattle.smt_terms.specs.Term.{Term}
use Rattle.smt_terms.proofs.Cuts.{name_among-append}
use Rattle.smt_terms.proofs.Tests.{and_true, left_true, right_true}
use Rattle.term_groups.specs.Drawing.{ConstantsAreNew}
use Rattle.term_groups.specs.Every.{every}
use Rattle.term_groups.specs.Grouping.{symbols_of}
use Rattle.ackermann.specs.Laws.{RemovalsMade, IsMadeFrom}
use Rattle.ackermann.specs.Removals.{all_inputs, all_symbols}
use Rattle.script_read.specs.Commands.{Command, with_asserted, declare, assert, pop, State, after, live_in, sorts_of_state, symbols_of_state}
use Rattle.script_read.specs.Laws.{names_in_command, GivesNoNameOf}
use Rattle.pass_laws.specs.GroupPoints.{inputs}
use Rattle.pass_laws.specs.Passed.{Replacement, group_commands, without_arguments}
use Rattle.pass_laws.proofs.GroupsReadyNames.{spared_behind, declared_names, command_spared}
use Rattle.pass_laws.proofs.MadeRemovals.{inputs_known, asserts_made, pairs_are}
use Rattle.pass_laws.proofs.PlainPoints.{plain_outputs}
use Rattle.pass_laws.proofs.ReadyNames.{given_later, given_left, given_right, given_both, name_passes, names_pass, head_passes, binders_pass, every_name, symbols_pass}
use Rattle.pass_laws.proofs.ReadySymbols.{NamesOfGroup}
use Rattle.pass_laws.proofs.RemovalChains.{acked_names}
use Rattle.pass_laws.proofs.RemovalDrawn.{all_later}
use Rattle.pass_laws.proofs.RemovalLinks.{removals, pairs_of, IsAcked, IsInput}
use Rattle.pass_laws.proofs.RemovalStates.{AreAcked, Sound, sound_after, sound_pop, sound_assertion, acked_later, later_then}

-- ---- names within what is made from inputs

-- the names of inputs and of constants
module _ (us : List Term) (ms : Named) where
  abbrev known : Name → Bool
  known n = name_among (flat_map names_within us ++ names_of (symbols_of ms)) n

  first_known : (n : Name) → name_among (flat_map names_within us) n ≡ true → known n ≡ true
  first_known n h = name_among-append (flat_map names_within us) (names_of (symbols_of ms)) n ∙ left_true (name_among (flat_map names_within us) n) (name_among (names_of (symbols_of ms)) n) h

  second_known : (n : Name) → name_among (names_of (symbols_of ms)) n ≡ true → known n ≡ true
  second_known n h = name_among-append (flat_map names_within us) (names_of (symbols_of ms)) n ∙ right_true (name_among (flat_map names_within us) n) (name_among (names_of (symbols_of ms)) n) h

  inputs_pass : (vs : List Term) → ((n : Name) → name_among (flat_map names_within vs) n ≡ true → known n ≡ true) → list_all (every (head_passes known) (binders_pass known)) vs ≡ true
  inputs_pass [] each = refl
  inputs_pass (v ∷ vs) each =
      and_true (every (head_passes known) (binders_pass known) v) (list_all (every (head_passes known) (binders_pass known)) vs)
      (every_name known v ∙ names_pass known (names_within v) (λ n h. each n (name_among-append (names_within v) (flat_map names_within vs) n ∙ left_true (name_among (names_within v) n) (name_among (flat_map names_within vs) n) h)))
      (inputs_pass vs (λ n h. each n (name_among-append (names_within v) (flat_map names_within vs) n ∙ right_true (name_among (names_within v) n) (name_among (flat_map names_within vs) n) h)))

  names_made : (u : Term) → IsMadeFrom us ms u → (n : Name) → name_among (names_within u) n ≡ true → known n ≡ true
  names_made u made n among = name_passes known (names_within u) n (sym (every_name known u) ∙ all) among
    where
      all : every (head_passes known) (binders_pass known) u ≡ true
      all =
          made.within (head_passes known) (binders_pass known) (λ o. refl) (inputs_pass us first_known)
          (symbols_pass known (symbols_of ms) (names_pass known (names_of (symbols_of ms)) second_known))

  asserted_names : (q : Supply) (i : ℕ) → GivesNone q (flat_map names_within us ++ names_of (symbols_of ms)) → (vs : List Term) → All (IsMadeFrom us ms) vs → GivesNoNameOf q (map (λ v. assert i v) vs)
  asserted_names q i given [] made = λ n among. absurd cc
  asserted_names q i given (v ∷ vs) made =
      given_both q (names_within v) (flat_map names_in_command (map (λ w. assert i w) vs))
      (λ n among. given n (names_made v (All-head (IsMadeFrom us ms) v vs made) n among))
      (asserted_names q i given vs (All-tail (IsMadeFrom us ms) v vs made))

inputs_given : (s q : Supply) (ds : List Name) (fs : List Symbol) (us : List Term) → Later s q → All (IsInput s ds fs) us → GivesNone q (flat_map names_within us)
inputs_given s q ds fs [] later all = λ n among. absurd cc
inputs_given s q ds fs (u ∷ us) later all =
    given_both q (names_within u) (flat_map names_within us) (given_later s q (names_within u) later (All-head (IsInput s ds fs) u us all).names)
    (inputs_given s q ds fs us later (All-tail (IsInput s ds fs) u us all))

pairs_names : (ms ns : Named) → names_of (symbols_of (ms ++ ns)) ≡ names_of (symbols_of ms) ++ names_of (symbols_of ns)
pairs_names [] ns = refl
pairs_names (m ∷ ms) ns = ap (λ more. m.0.name ∷ more) (pairs_names ms ns)

module _ (law : ConstantsAreNew) (made : RemovalsMade) (s : Supply) where
  -- ---- one assertion

  group_spared : (i : ℕ) (x : Replacement) (st : State Replacement) (p q : Supply) → Sound s st → Later s p → IsInput s (sorts_of_state st) (symbols_of_state st) x.term → IsAcked (pairs_of (live_in st)) x p q → GivesNoNameOf q (group_commands i x.group)
  group_spared i x st p q sound later input is =
      spared_behind q (map (λ n. declare n.0) x.group.symbols) (map (λ u. assert i u) x.group.asserts) (declared_names q x.group.symbols names.gone)
      (asserted_names us ms q i (given_both q (flat_map names_within us) (names_of (symbols_of ms)) (inputs_given s q (sorts_of_state st) (symbols_of_state st) us (later_then s p q later names.later) (inputs_known law made s st sound x p q later input is)) constants)
      x.group.asserts (asserts_made law made s st sound x p q later input is))
    where
      names : NamesOfGroup p q x.group.symbols
      names = acked_names law (pairs_of (live_in st)) x p q is

      us : List Term
      us = all_inputs (removals (live_in st ++ x ∷ []))

      ms : Named
      ms = all_symbols (removals (live_in st ++ x ∷ []))

      constants : GivesNone q (names_of (symbols_of ms))
      constants = subst (GivesNone q) (sym (ap (λ ns. names_of (symbols_of ns)) (pairs_are law made s st sound x p q later input is) ∙ pairs_names (pairs_of (live_in st)) x.group.symbols))
          (given_both q (names_of (symbols_of (pairs_of (live_in st)))) (names_of (symbols_of x.group.symbols)) (given_later p q (names_of (symbols_of (pairs_of (live_in st)))) names.later is.apart) names.gone)

  -- ---- all commands

  declared_spared : (r : Supply) (f : Symbol) (ss : List Sort) → GivesNoNameOf r (declare f ∷ []) → GivesNoNameOf r (without_arguments ss (declare f ∷ []))
  declared_spared r f [] given = given
  declared_spared r f (t ∷ ss) given = λ n among. absurd cc

  pub removed_names : (rs : List (Command Replacement)) (st : State Replacement) (p r : Supply) → AreAcked s rs st p r → Sound s st → Later s p → GivesNoNameOf s (inputs rs) → GivesNoNameOf r (plain_outputs rs)
  removed_names [] st p r is sound later given = λ n among. absurd cc
  removed_names (assert i x ∷ rs) st p r is sound later given =
      let q : Supply = is.1.0 in
      let then : Later p q = acked_later s law x (pairs_of (live_in st)) p q is.1.1.0 in
      spared_behind r (group_commands i x.group) (plain_outputs rs)
      (given_later q r (flat_map names_in_command (group_commands i x.group)) (all_later law s rs (after (assert i x) st) q r is.1.1.1) (group_spared i x st p q sound later is.0 is.1.1.0))
      (removed_names rs (after (assert i x) st) q r is.1.1.1 (sound_assertion s i x st p q later is.0 is.1.1.0 sound) (later_then s p q later then) (given_right s (names_within x.term) (flat_map names_in_command (inputs rs)) given))
  removed_names (declare f ∷ rs) st p r is sound later given =
      spared_behind r (without_arguments f.args (declare f ∷ [])) (plain_outputs rs)
      (declared_spared r f f.args (given_later s r (f.name ∷ []) (later_then s p r later (all_later law s rs (after (declare f) st) p r is)) (given_left s (f.name ∷ []) (flat_map names_in_command (inputs rs)) given)))
      (removed_names rs (after (declare f) st) p r is (sound_after s (declare f) tt st sound) later (given_right s (f.name ∷ []) (flat_map names_in_command (inputs rs)) given))
  removed_names (pop k ∷ rs) st p r is sound later given =
      command_spared s r (pop k) (inputs rs) (plain_outputs rs) (later_then s p r later (all_later law s rs (after (pop k) st) p r is.1)) given
      (removed_names rs (after (pop k) st) p r is.1 (sound_pop s k st sound) later (given_right s (names_in_command (pop k)) (flat_map names_in_command (inputs rs)) given))
  removed_names (c ∷ rs) st p r is sound later given =
      command_spared s r (with_asserted (λ x. x.term) c) (inputs rs) (plain_outputs rs) (later_then s p r later (all_later law s rs (after c st) p r is)) given
      (removed_names rs (after c st) p r is (sound_after s c tt st sound) later (given_right s (names_in_command (with_asserted (λ x. x.term) c)) (flat_map names_in_command (inputs rs)) given))
