-- Commands with the removals of what they assert, and what is known of the state at each of their points: the live replacements
-- are linked, and what they replace is made of what is declared there.
use Rattle.std.proofs.Common.{◌≡◌, sym, refl, subst, ℕ, zero, suc, ◌<◌, List, [], ◌∷◌, length, Option, Some, None, All}
use Rattle.std.specs.Prelude.{IfSome}
use Rattle.std.proofs.lemmas.List.Elements.{All-nil}
use Rattle.smt_terms.specs.Fresh.{Supply}
use Rattle.smt_terms.specs.Groups.{Named}
use Rattle.smt_terms.specs.Sorts.{Name, Symbol}
use Rattle.smt_terms.specs.SubstLaws.{Later}
use Rattle.term_groups.specs.Drawing.{ConstantsAreNew}
use Rattle.ackermann.specs.Ackermann.{applications, without_constant}
use Rattle.script_read.specs.Commands.{Command, declare_sort, declare, assert, check, check_assuming, push, pop, reset, reset_assertions, globals, State, start, with_sort, with_symbol, after, Point, points_from, points, nth_point, at_point, live_in, sorts_of_state, symbols_of_state, live, signature}
use Rattle.pass_laws.specs.Passed.{Replacement}
use Rattle.pass_laws.proofs.GroupWalks.{AssertsNothing}
use Rattle.pass_laws.proofs.RemovalLinks.{pairs_of, IsAcked, AreLinks, IsInput, links_first, links_push, AreInputs, all_inputs_of, inputs_sort, inputs_symbol, inputs_assertion, inputs_pushed, inputs_popped, inputs_emptied, on_latest_kept, on_pushed, on_popped, on_emptied, asserted_push}

module _ (s : Supply) where
  -- each assertion gave way to a removal behind those that are live; p is what there was to draw, and r is left. No `pop` closes
  -- the ground level
  abbrev pub AreAcked : List (Command Replacement) → State Replacement → Supply → Supply → Type 0
  AreAcked [] st p r = r ≡ p
  AreAcked (assert i x ∷ rs) st p r =
      IsInput s (sorts_of_state st) (symbols_of_state st) x.term × ((q : Supply) × (IsAcked (pairs_of (live_in st)) x p q × AreAcked rs (after (assert i x) st) q r))
  AreAcked (pop n ∷ rs) st p r = (n < length st.levels) × AreAcked rs (after (pop n) st) p r
  AreAcked (c ∷ rs) st p r = AreAcked rs (after c st) p r

  pub record Sound (st : State Replacement) : Type 0 where
    pub links : AreLinks s [] (live_in st)
    pub inputs : AreInputs s st.levels

  pub sound_start : Sound start
  sound_start = record { links = tt; inputs = (All-nil _, tt) }

  pub sound_sort : (n : Name) (st : State Replacement) → Sound st → Sound (after (declare_sort n) st)
  sound_sort n st h = record { links = on_latest_kept (AreLinks s []) (links_first s []) tt (with_sort n) (λ l. refl) st.levels h.links; inputs = inputs_sort s n st.levels h.inputs }

  pub sound_symbol : (f : Symbol) (st : State Replacement) → Sound st → Sound (after (declare f) st)
  sound_symbol f st h = record { links = on_latest_kept (AreLinks s []) (links_first s []) tt (with_symbol f) (λ l. refl) st.levels h.links; inputs = inputs_symbol s f st.levels h.inputs }

  pub sound_assertion : (i : ℕ) (x : Replacement) (st : State Replacement) (p q : Supply) → Later s p → IsInput s (sorts_of_state st) (symbols_of_state st) x.term → IsAcked (pairs_of (live_in st)) x p q → Sound st → Sound (after (assert i x) st)
  sound_assertion i x st p q later input is h = record {
    links = subst (AreLinks s []) (sym (asserted_push x st.levels)) (links_push s [] (live_in st) x h.links (record { before = p; behind = q; later = later; is = is }));
    inputs = inputs_assertion s x st.levels input h.inputs;
  }

  pub sound_push : (n : ℕ) (st : State Replacement) → Sound st → Sound (after (push n) st)
  sound_push n st h = record { links = on_pushed (AreLinks s []) (links_first s []) tt n st.levels h.links; inputs = inputs_pushed s n st.levels h.inputs }

  pub sound_pop : (n : ℕ) (st : State Replacement) → Sound st → Sound (after (pop n) st)
  sound_pop n st h = record { links = on_popped (AreLinks s []) (links_first s []) tt st.global n st.levels h.links; inputs = inputs_popped s st.global n st.levels h.inputs }

  pub sound_emptied : (st : State Replacement) → Sound (after reset_assertions st)
  sound_emptied st = record { links = on_emptied (AreLinks s []) (links_first s []) tt st.global st.levels; inputs = inputs_emptied s st.global st.levels }

  pub sound_after : (c : Command Replacement) → AssertsNothing c → (st : State Replacement) → Sound st → Sound (after c st)
  sound_after (declare_sort n) nothing st h = sound_sort n st h
  sound_after (declare f) nothing st h = sound_symbol f st h
  sound_after (assert i x) nothing st h = absurd nothing
  sound_after (push n) nothing st h = sound_push n st h
  sound_after (pop n) nothing st h = sound_pop n st h
  sound_after reset nothing st h = sound_start
  sound_after reset_assertions nothing st h = sound_emptied st
  sound_after (globals b) nothing st h = record { links = h.links; inputs = h.inputs }
  sound_after _ nothing st h = h

  pub acked_later : ConstantsAreNew → (x : Replacement) (earlier : Named) (p q : Supply) → IsAcked earlier x p q → Later p q
  acked_later law x earlier p q is = subst (Later p) (sym is.names) (law.later (without_constant earlier (applications x.term)) p)

  pub later_then : (p q : Supply) → Later s p → Later p q → Later s q
  later_then p q first then n never = then n (first n never)

  -- ---- points

  abbrev ArePointsSound : List (Point Replacement) → Type 0
  ArePointsSound [] = Unit {0}
  ArePointsSound (p ∷ ps) = Sound p.state × ArePointsSound ps

  all_sound : ConstantsAreNew → (rs : List (Command Replacement)) (st : State Replacement) (p r : Supply) → AreAcked rs st p r → Later s p → Sound st → ArePointsSound (points_from st rs)
  all_sound law [] st p r is later h = (h, tt)
  all_sound law (assert i x ∷ rs) st p r is later h =
      all_sound law rs (after (assert i x) st) is.1.0 r is.1.1.1 (later_then p is.1.0 later (acked_later law x (pairs_of (live_in st)) p is.1.0 is.1.1.0))
      (sound_assertion i x st p is.1.0 later is.0 is.1.1.0 h)
  all_sound law (check ∷ rs) st p r is later h = (h, all_sound law rs st p r is later h)
  all_sound law (check_assuming ls ∷ rs) st p r is later h = (h, all_sound law rs st p r is later h)
  all_sound law (pop n ∷ rs) st p r is later h = all_sound law rs (after (pop n) st) p r is.1 later (sound_pop n st h)
  all_sound law (c ∷ rs) st p r is later h = all_sound law rs (after c st) p r is later (sound_after c tt st h)

  nth_sound : (ps : List (Point Replacement)) (k : ℕ) → ArePointsSound ps → IfSome (nth_point ps k) (λ p. Sound p.state)
  nth_sound [] k h = tt
  nth_sound (p ∷ ps) zero h = tt
  nth_sound (p ∷ ps) (suc zero) h = h.0
  nth_sound (p ∷ ps) (suc (suc k)) h = nth_sound ps (suc k) h.1

  -- the replacements that are live at a point
  pub record SoundAt (rs : List (Command Replacement)) (k : ℕ) : Type 0 where
    pub links : AreLinks s [] (live rs k)
    pub inputs : All (λ (x : Replacement). IsInput s (signature rs k).sorts (signature rs k).symbols x.term) (live rs k)

  record SoundSeen (o : Option (Point Replacement)) : Type 0 where
    links : AreLinks s [] (at_point (λ p. live_in p.state) o)
    inputs : All (λ (x : Replacement). IsInput s (at_point (λ p. sorts_of_state p.state) o) (at_point (λ p. symbols_of_state p.state) o) x.term) (at_point (λ p. live_in p.state) o)

  seen : (o : Option (Point Replacement)) → IfSome o (λ p. Sound p.state) → SoundSeen o
  seen None h = record { links = tt; inputs = All-nil _ }
  seen (Some p) h = record { links = h.links; inputs = all_inputs_of s p.state.levels h.inputs }

  pub sound_at : ConstantsAreNew → (rs : List (Command Replacement)) (r : Supply) → AreAcked rs start s r → (k : ℕ) → SoundAt rs k
  sound_at law rs r is k =
      let here : SoundSeen (nth_point (points rs) k) = seen (nth_point (points rs) k) (nth_sound (points rs) k (all_sound law rs start s r is (λ n never. never) sound_start)) in
      record { links = here.links; inputs = here.inputs }
