-- What is met of commands with groups, going back from a check, is what is live there: the groups, and the other new symbols that
-- are declared.
use Rattle.std.proofs.Common.{◌≡◌, ◌∙◌, sym, ap, refl, ℕ, suc, ◌+◌, ◌-◌, ◌≤◌, Bool, true, false, cond, ◌&&◌, ◌||◌, List, [], ◌∷◌, ◌++◌, map, filter, flat_map, length, count_by, nat_le, Option, Some, None, is_some, arith}
use Rattle.std.proofs.lemmas.Bool.{leb-true}
use Rattle.std.proofs.lemmas.List.{map-append}
use Rattle.std.proofs.lemmas.List.Folds.{flat_map-map}
use Rattle.std.proofs.lemmas.List.Sums.{sum_by-cons}
use Rattle.smt_terms.specs.Free.{is_among}
use Rattle.smt_terms.specs.Fresh.{Supply}
use Rattle.smt_terms.specs.Models.{Graph, Model}
use Rattle.smt_terms.specs.Sorts.{Symbol}
use Rattle.smt_terms.specs.SubstLaws.{GivesNone}
use Rattle.smt_terms.specs.Term.{Term}
use Rattle.smt_terms.proofs.Tests.{both_true, not_true}
use Rattle.term_groups.specs.Grouping.{symbols_of}
use Rattle.script_read.specs.Commands.{Command, passed, declare, assert, pop, globals, with_asserted, Level, State, start, with_assertion, after, live, signature, is_check, checks}
use Rattle.script_read.specs.Laws.{names_in_command}
use Rattle.script_read.specs.Printable.{open_levels, may_stand, fixes, may_be_followed, printable_from}
use Rattle.script_read.specs.Script.{most_levels}
use Rattle.pass_laws.specs.Carry.{asked_for, graph_given, term_for}
use Rattle.pass_laws.specs.GroupPoints.{inputs, outputs, drawn_in, live_pairs}
use Rattle.pass_laws.specs.Laws.{IsReady}
use Rattle.pass_laws.specs.LiveGroups.{Drawn, drawn_of, all_told, global_behind, Met, met_in, met_at, symbols_in, asked_of}
use Rattle.pass_laws.specs.Passed.{Replacement}
use Rattle.pass_laws.proofs.FoundGroups.{begun_by, open_behind, May, AllMay, up_to, after_by, length_behind}
use Rattle.pass_laws.proofs.GroupWalks.{IsGiven, AreGiven}
use Rattle.pass_laws.proofs.LiveBehindGroups.{IsOld, IsGroupGiven, GroupsMay, asserts_itself, with_its_group, live_found, declared_found}
use Rattle.pass_laws.proofs.MetGroups.{is_met, is_met_symbol, met_symbols}
use Rattle.pass_laws.proofs.NamedTerms.{some_term}
use Rattle.pass_laws.proofs.ReadyNames.{given_left, given_right}
use Rattle.pass_laws.proofs.ToldCommands.{told_up_to, told_global}

-- ---- the commands before the pass

input : Command Replacement → Command Term
input c = with_asserted (λ r. r.term) c

abbrev put_before : Replacement → Level Term → Level Term
put_before r l = with_assertion r.term l

same_after : (c : Command Replacement) (t : State Term) → after_by Replacement Term put_before c t ≡ after (input c) t
unfolding input
same_after (passed text) t = refl
same_after _ t = refl

same_fixes : (c : Command Replacement) (begun : Bool) → begun_by Replacement begun c ≡ fixes begun (input c)
unfolding input
same_fixes (passed text) begun = refl
same_fixes _ begun = refl

same_check : (c : Command Replacement) → is_check (input c) ≡ is_check c
unfolding input
same_check (passed text) = refl
same_check _ = refl

pub checks_before : (rs : List (Command Replacement)) → checks (inputs rs) ≡ count_by is_check rs
unfolding input
checks_before [] = refl
checks_before (c ∷ rs) =
    sum_by-cons (λ d. cond (is_check d) 1 0) (input c) (inputs rs) ∙ (λ i. cond (same_check c i) 1 0 + checks_before rs i) ∙ sym (sum_by-cons (λ d. cond (is_check d) 1 0) c rs)

-- ---- a symbol without a term

pub given_alike : (m : Model) (f : Symbol) (o : Option Term) (b c : Bool) (g : Option Graph) → (is_some o ≡ false → b ≡ c) → graph_given m o b f g ≡ graph_given m o c f g
given_alike m f (Some t) b c g same = refl
given_alike m f None b c g same = ap (λ d. graph_given m None d f g) (same refl)

or_second : (a b : Bool) → a ≡ false → (a || b) ≡ b
or_second true b h = absurd cc
or_second false b h = refl

-- where the supply gives no name of what is declared, and the new symbols are those of the groups
module _ (rs : List (Command Replacement)) (s : Supply) (old : (f : Symbol) → GivesNone s (f.name ∷ []) → IsOld (drawn_in rs) f) (are_given : AreGiven (drawn_in rs) rs) where
  abbrev MayHere : Bool → ℕ → Command Replacement → Type 0
  MayHere begun d c = May Replacement (IsOld (drawn_in rs)) (IsGroupGiven (drawn_in rs)) begun d c

  may_here : (c : Command Replacement) (begun : Bool) (d : ℕ) (t : State Term) → may_stand begun t (input c) ≡ true → length t.levels ≡ suc d → GivesNone s (names_in_command (input c)) → IsGiven (drawn_in rs) c → MayHere begun d c
  unfolding input
  may_here (declare f) begun d t stands opened names given = old f names
  may_here (assert i a) begun d t stands opened names given = given
  may_here (pop n) begun d t stands opened names given =
      let few : n ≤ length t.levels - 1 = leb-true n (open_levels t) (both_true (nat_le n most_levels) (nat_le n (open_levels t)) stands).1 in
      omega (arith, few, opened)
  may_here (globals b) begun d t stands opened names given = not_true begun stands
  may_here _ begun d t stands opened names given = tt

  all_may : (qs : List (Command Replacement)) (begun : Bool) (d : ℕ) (t : State Term) → printable_from begun t (inputs qs) ≡ true → length t.levels ≡ suc d → GivesNone s (flat_map names_in_command (inputs qs)) → AreGiven (drawn_in rs) qs
      → AllMay Replacement (IsOld (drawn_in rs)) (IsGroupGiven (drawn_in rs)) begun d qs
  unfolding input
  all_may [] begun d t printed opened names given = tt
  all_may (c ∷ qs) begun d t printed opened names given =
      let here = both_true (may_stand begun t (input c)) (may_be_followed (input c) (inputs qs) && printable_from (fixes begun (input c)) (after (input c) t) (inputs qs)) printed in
      let there = both_true (may_be_followed (input c) (inputs qs)) (printable_from (fixes begun (input c)) (after (input c) t) (inputs qs)) here.1 in
      let may : MayHere begun d c = may_here c begun d t here.0 opened (given_left s (names_in_command (input c)) (flat_map names_in_command (inputs qs)) names) given.0 in (
        may,
        all_may qs (begun_by Replacement begun c) (open_behind Replacement d c) (after (input c) t) (ap (λ b. printable_from b (after (input c) t) (inputs qs)) (same_fixes c begun) ∙ there.1)
            (ap (λ (u : State Term). length u.levels) (sym (same_after c t)) ∙ length_behind Replacement Term put_before (IsOld (drawn_in rs)) (IsGroupGiven (drawn_in rs)) c begun d t may opened)
            (given_right s (names_in_command (input c)) (flat_map names_in_command (inputs qs)) names) given.1,
      )

  module _ (ready : IsReady (inputs rs) s) where
    pub groups_may : GroupsMay (drawn_in rs) rs
    groups_may = all_may rs false 0 start ready.printable refl ready.names are_given

    -- ---- at a check

    module _ (k : ℕ) (some : 1 ≤ k) (few : k ≤ count_by is_check rs) where
      abbrev first : List (Command Replacement)
      first = up_to Replacement k rs

      abbrev global : Bool
      global = global_behind false (all_told first)

      abbrev met : Met
      met = met_at k (all_told rs)

      pub met_here : met_at k (all_told rs) ≡ met_in (global_behind false (all_told (up_to Replacement k rs))) (all_told (up_to Replacement k rs))
      met_here = ap (λ cs. met_in (global_behind false cs) cs) (sym (told_up_to rs k))

      pub live_met : (met_at k (all_told rs)).live ≡ map drawn_of (live rs k)
      live_met =
          ap (λ (m : Met). m.live) met_here ∙ (is_met global first).live
          ∙ ap (map drawn_of) (sym (live_found (drawn_in rs) rs groups_may k some few global (sym (told_global Replacement asserts_itself first start))))

      declared_met : (f : Symbol) → is_among (filter (is_among (drawn_in rs)) (signature (outputs rs) k).symbols) f ≡ is_met_symbol met f
      declared_met f =
          ap (λ fs. is_among fs f) (declared_found (drawn_in rs) rs groups_may k some few global (sym (told_global Term with_its_group first start))) ∙ met_symbols global first f
          ∙ ap (λ m. is_met_symbol m f) (sym met_here)

      pub pairs_met : flat_map (λ (d : Drawn). d.symbols) (met_at k (all_told rs)).live ≡ live_pairs rs k
      pairs_met = ap (flat_map (λ d. d.symbols)) live_met ∙ flat_map-map (λ (d : Drawn). d.symbols) drawn_of (live rs k)

      symbols_met : (ds : List Drawn) → symbols_in ds ≡ symbols_of (flat_map (λ d. d.symbols) ds)
      symbols_met [] = refl
      symbols_met (d ∷ ds) = ap (λ fs. symbols_of d.symbols ++ fs) (symbols_met ds) ∙ sym (map-append (λ n. n.0) d.symbols (flat_map (λ d. d.symbols) ds))

      -- a symbol without a term is no live assertion's
      unlive : (f : Symbol) → is_some (term_for (live_pairs rs k) f) ≡ false → is_among (symbols_in met.live) f ≡ false
      unlive f none = ap (λ fs. is_among fs f) (symbols_met met.live ∙ ap symbols_of pairs_met) ∙ sym (some_term (live_pairs rs k) f) ∙ none

      pub idle_alike : (f : Symbol) → is_some (term_for (live_pairs rs k) f) ≡ false → is_among (filter (is_among (drawn_in rs)) (signature (outputs rs) k).symbols) f ≡ is_among (symbols_in (met_at k (all_told rs)).idle) f
      idle_alike f none = declared_met f ∙ or_second (is_among (symbols_in met.live) f) (is_among (symbols_in met.idle) f) (unlive f none)

      pub asked_told : flat_map (λ (a : Replacement). asked_for a.number (map (λ n. n.1) a.group.symbols)) (live rs k) ≡ asked_of (met_at k (all_told rs))
      asked_told =
          sym (flat_map-map (λ (d : Drawn). asked_for d.number (map (λ n. n.1) d.symbols)) drawn_of (live rs k))
          ∙ ap (flat_map (λ d. asked_for d.number (map (λ n. n.1) d.symbols))) (sym live_met)
