-- Commands behind a removal of applications can be printed, and the names that are left are none of theirs.
use Rattle.std.proofs.Common.{◌≡◌, ◌∙◌, sym, ap, refl, subst, ℕ, suc, ◌+◌, ◌-◌, ◌<◌, Bool, true, false, not, ◌&&◌, List, [], ◌∷◌, ◌++◌, map, length, nat_le, arith}
use Rattle.std.specs.Prelude.{flat_map, ◌==◌}
use Rattle.std.specs.List.{list_all}
use Rattle.smt_lex.specs.Names.{is_among as is_among_names, is_reserved_for_sorts}
use Rattle.smt_terms.specs.declared.op.Op.TheVariants.{Not}
use Rattle.smt_terms.specs.Free.{is_among, names_of}
use Rattle.smt_terms.specs.Fresh.{Supply, numbered_name}
use Rattle.smt_terms.specs.Rank.{is_empty, is_sort}
use Rattle.smt_terms.specs.Shapes.{is_bool}
use Rattle.smt_terms.specs.Sorts.{Name, Sort, Symbol}
use Rattle.smt_terms.specs.SubstLaws.{names_within, GivesNone, Later}
use Rattle.smt_terms.specs.Term.{op, symbol, Term, apply, none, ◌⨾◌}
use Rattle.smt_terms.proofs.Tests.{both_true, and_true, not_true}
use Rattle.term_groups.specs.Drawing.{ConstantsAreNew}
use Rattle.term_groups.specs.Grouping.{symbols_of}
use Rattle.ackermann.specs.Laws.{RemovalsMade}
use Rattle.script_read.specs.Commands.{Command, passed, declare_sort, declare, assert, check, check_assuming, push, pop, reset, reset_assertions, globals, exit, with_asserted, Level, State, start, on_latest, with_levels, after, live_in, sorts_of_state, symbols_of_state}
use Rattle.script_read.specs.Laws.{names_in_command, GivesNoNameOf}
use Rattle.script_read.specs.Printable.{is_writable, is_usable, sort_is_live, is_live_constant, is_live_literal, open_levels, is_new_symbol, may_stand, fixes, may_be_followed, printable_from}
use Rattle.script_read.specs.Script.{most_levels}
use Rattle.pass_laws.specs.GroupPoints.{inputs, drawn_in}
use Rattle.pass_laws.specs.Laws.{IsReady}
use Rattle.pass_laws.specs.Passed.{Replacement, without_arguments}
use Rattle.pass_laws.proofs.AckedCommands.{input_state, input_after, length_input}
use Rattle.pass_laws.proofs.GroupLevels.{with_group, length_grouped, declared_grouped}
use Rattle.pass_laws.proofs.GroupsReady.{First, first_of_all}
use Rattle.pass_laws.proofs.GroupWalks.{AreGiven, GroupState, start_grouped, AssertsNothing, after_grouped, group_grouped}
use Rattle.pass_laws.proofs.Literals.{no_arguments}
use Rattle.pass_laws.proofs.OpenLevels.{ClosesFew, some_after}
use Rattle.pass_laws.proofs.PlainPoints.{plain_outputs}
use Rattle.pass_laws.proofs.PlainStates.{plain, plain_level, plain_state, among_plain, plain_among, plain_group, symbols_of_plain, sorts_of_plain, DeclaresNoFunction, plain_after, plain_without}
use Rattle.pass_laws.proofs.PrintedRemovals.{plain_input, removal_prints}
use Rattle.pass_laws.proofs.ReadyNames.{given_left, given_right}
use Rattle.pass_laws.proofs.ReadyStates.{unnamed, named, Grown, start_grown, asserted_before, Stays, may_stay, after_stays}
use Rattle.pass_laws.proofs.RemovalChains.{acked_constants, constants_linked}
use Rattle.pass_laws.proofs.RemovalDrawn.{constant_of_all, acked_given}
use Rattle.pass_laws.proofs.RemovalLinks.{pairs_of}
use Rattle.pass_laws.proofs.RemovalNames.{removed_names}
use Rattle.pass_laws.proofs.RemovalStates.{AreAcked, Sound, sound_start, sound_after, sound_assertion, acked_later, later_then}

-- ---- what stands where functions with arguments are declared may stand where they aren't

module _ (a : State Term) where
  names_fewer : (n : Name) → is_among_names (names_of (symbols_of_state a)) n ≡ false → is_among_names (names_of (symbols_of_state (plain_state a))) n ≡ false
  names_fewer n missing =
      ap (λ fs. is_among_names (names_of fs) n) (symbols_of_plain a)
      ∙ unnamed (plain (symbols_of_state a)) n (λ g among same. named (symbols_of_state a) g (plain_among (symbols_of_state a) g among).0 n same missing)

  new_plain : (f : Symbol) → is_new_symbol a f ≡ true → is_new_symbol (plain_state a) f ≡ true
  new_plain f h =
      let parts = both_true (is_usable f.name) (not (is_among_names (names_of (symbols_of_state a)) f.name) && list_all (λ to. is_sort to && sort_is_live (sorts_of_state a) to) (f.result ∷ f.args)) h in
      let rest = both_true (not (is_among_names (names_of (symbols_of_state a)) f.name)) (list_all (λ to. is_sort to && sort_is_live (sorts_of_state a) to) (f.result ∷ f.args)) parts.1 in
      and_true (is_usable f.name) (not (is_among_names (names_of (symbols_of_state (plain_state a))) f.name) && list_all (λ to. is_sort to && sort_is_live (sorts_of_state (plain_state a)) to) (f.result ∷ f.args)) parts.0
      (and_true (not (is_among_names (names_of (symbols_of_state (plain_state a))) f.name)) (list_all (λ to. is_sort to && sort_is_live (sorts_of_state (plain_state a)) to) (f.result ∷ f.args))
      (ap not (names_fewer f.name (not_true (is_among_names (names_of (symbols_of_state a)) f.name) rest.0)))
      (ap (λ ns. list_all (λ to. is_sort to && sort_is_live ns to) (f.result ∷ f.args)) (sorts_of_plain a) ∙ rest.1))

  constant_plain : (t : Term) → is_live_constant a t ≡ true → is_live_constant (plain_state a) t ≡ true
  constant_plain (apply (symbol f) none) h =
      let parts = both_true (is_bool f.result) (length f.args == 0 && is_among (symbols_of_state a) f) h in
      let rest = both_true (length f.args == 0) (is_among (symbols_of_state a) f) parts.1 in
      and_true (is_bool f.result) (length f.args == 0 && is_among (symbols_of_state (plain_state a)) f) parts.0
      (and_true (length f.args == 0) (is_among (symbols_of_state (plain_state a)) f) rest.0
      (ap (λ fs. is_among fs f) (symbols_of_plain a) ∙ among_plain (symbols_of_state a) f rest.1 (ap is_empty (no_arguments f.args rest.0))))
  constant_plain t h = absurd cc

  literal_plain : (t : Term) → is_live_literal a t ≡ true → is_live_literal (plain_state a) t ≡ true
  literal_plain (apply (op Not) (t ⨾ none)) h = constant_plain t h
  literal_plain t h = constant_plain t h

  literals_plain : (ts : List Term) → list_all (is_live_literal a) ts ≡ true → list_all (is_live_literal (plain_state a)) ts ≡ true
  literals_plain [] h = refl
  literals_plain (t ∷ ts) h =
      let parts = both_true (is_live_literal a t) (list_all (is_live_literal a) ts) h in
      and_true (is_live_literal (plain_state a) t) (list_all (is_live_literal (plain_state a)) ts) (literal_plain t parts.0) (literals_plain ts parts.1)

  length_plain : (ls : List (Level Term)) → length (map plain_level ls) ≡ length ls
  length_plain [] = refl
  length_plain (l ∷ ls) = ap suc (length_plain ls)

  same_levels : open_levels a ≡ open_levels (plain_state a)
  same_levels = ap (λ n. n - 1) (sym (length_plain a.levels))

  may_plain : (begun : Bool) (c : Command Term) → Stays c → may_stand begun a c ≡ true → may_stand begun (plain_state a) c ≡ true
  may_plain begun (passed text) stays h = h
  may_plain begun (declare_sort n) stays h = ap (λ ns. is_writable n && (not (is_reserved_for_sorts n) && not (is_among_names ns n))) (sorts_of_plain a) ∙ h
  may_plain begun (declare f) stays h = new_plain f h
  may_plain begun (assert i t) stays h = absurd stays
  may_plain begun check stays h = h
  may_plain begun (check_assuming ls) stays h = literals_plain ls h
  may_plain begun (push n) stays h = ap (λ k. nat_le n most_levels && nat_le (k + n) most_levels) (sym same_levels) ∙ h
  may_plain begun (pop n) stays h = ap (λ k. nat_le n most_levels && nat_le n k) (sym same_levels) ∙ h
  may_plain begun reset stays h = h
  may_plain begun reset_assertions stays h = h
  may_plain begun (globals b) stays h = h
  may_plain begun exit stays h = h

-- ---- what stands where the options are fixed may stand where they aren't

may_unfixed : (begun : Bool) (a : State Term) (c : Command Term) → may_stand true a c ≡ true → may_stand begun a c ≡ true
may_unfixed begun a (globals b) h = absurd cc
may_unfixed begun a _ h = h

prints_unfixed : (begun : Bool) (a : State Term) (cs : List (Command Term)) → printable_from true a cs ≡ true → printable_from begun a cs ≡ true
prints_unfixed true a cs h = h
prints_unfixed false a [] h = refl
prints_unfixed false a (c ∷ cs) h =
    let here = both_true (may_stand true a c) (may_be_followed c cs && printable_from (fixes true c) (after c a) cs) h in
    let there = both_true (may_be_followed c cs) (printable_from (fixes true c) (after c a) cs) here.1 in
    and_true (may_stand false a c) (may_be_followed c cs && printable_from (fixes false c) (after c a) cs) (may_unfixed false a c here.0)
    (and_true (may_be_followed c cs) (printable_from (fixes false c) (after c a) cs) there.0 (rest c (prints_unfixed false (after c a) cs) there.1))
  where
    rest : (c : Command Term) → (printable_from true (after c a) cs ≡ true → printable_from false (after c a) cs ≡ true) → printable_from (fixes true c) (after c a) cs ≡ true → printable_from (fixes false c) (after c a) cs ≡ true
    rest (passed text) less h = less h
    rest (globals b) less h = less h
    rest reset_assertions less h = less h
    rest exit less h = less h
    rest _ less h = h

-- ---- all commands

followed_by : (c : Command Term) (rs : List (Command Replacement)) → may_be_followed c (inputs rs) ≡ true → may_be_followed c (plain_outputs rs) ≡ true
followed_by exit [] h = refl
followed_by exit (r ∷ rs) h = absurd cc
followed_by _ rs h = refl

module _ (usable : (i : ℕ) → is_usable (numbered_name i) ≡ true) (law : ConstantsAreNew) (made : RemovalsMade) (s : Supply) (new : List Symbol) where
  -- what is known before these commands; t is the state behind the groups, functions with arguments and all
  record Before (begun : Bool) (st : State Replacement) (t : State Term) (p r : Supply) (rs : List (Command Replacement)) : Type 0 where
    acked : AreAcked s rs st p r
    sound : Sound s st
    later : Later s p
    some : 0 < length st.levels
    given : AreGiven new rs
    grouped : GroupState new st t
    grown : Grown s p (plain_input st) (plain_state t)
    names : GivesNoNameOf s (inputs rs)
    printable : printable_from begun (input_state st) (inputs rs) ≡ true

  abbrev Prints : List (Command Replacement) → Type 0
  Prints rs = (begun : Bool) (st : State Replacement) (t : State Term) (p r : Supply) → Before begun st t p r rs → printable_from begun (plain_state t) (plain_outputs rs) ≡ true

  -- ---- a command that stays

  abbrev spelled_as : Command Replacement → Command Term
  spelled_as c = with_asserted (λ x. x.term) c

  module _ (c : Command Replacement) (nothing : AssertsNothing c) (stays : Stays (spelled_as c)) (rs : List (Command Replacement)) (begun : Bool) (st : State Replacement) (t : State Term) (p r : Supply) (few : ClosesFew c st)
      (acked : AreAcked s rs (after c st) p r) (h : Before begun st t p r (c ∷ rs)) where
    abbrev d : Command Term
    d = spelled_as c

    first : First begun (input_state st) d (inputs rs)
    first = first_of_all begun (input_state st) d (inputs rs) h.printable

    own : GivesNone s (names_in_command d)
    own = given_left s (names_in_command d) (flat_map names_in_command (inputs rs)) h.names

    may_before : may_stand begun (plain_input st) d ≡ true
    may_before = may_plain (input_state st) begun d stays first.may

    before_rest : Grown s p (plain_input (after c st)) (plain_state (after d t)) → Before (fixes begun d) (after c st) (after d t) p r rs
    before_rest grown = record {
      acked = acked;
      sound = sound_after s c nothing st h.sound;
      later = h.later;
      some = some_after c st few h.some;
      given = h.given.1;
      grouped = after_grouped new c nothing st t h.grouped;
      grown = grown;
      names = given_right s (names_in_command d) (flat_map names_in_command (inputs rs)) h.names;
      printable = ap (λ a. printable_from (fixes begun d) a (inputs rs)) (sym (input_after c st)) ∙ first.rest;
    }

    stay_prints : DeclaresNoFunction d → Prints rs → printable_from begun (plain_state t) (d ∷ plain_outputs rs) ≡ true
    stay_prints plainly below =
        let same : after d (plain_state t) ≡ plain_state (after d t) = plain_after d plainly t in
        let same_before : after d (plain_input st) ≡ plain_input (after c st) = plain_after d plainly (input_state st) ∙ ap plain_state (input_after c st) in
        let grown : Grown s p (after d (plain_input st)) (after d (plain_state t)) = after_stays s p (plain_input st) (plain_state t) h.grown begun d stays h.later own may_before in
        let then : Grown s p (plain_input (after c st)) (plain_state (after d t)) = subst (λ b. Grown s p (plain_input (after c st)) b) same (subst (λ a. Grown s p a (after d (plain_state t))) same_before grown) in
        and_true (may_stand begun (plain_state t) d) (may_be_followed d (plain_outputs rs) && printable_from (fixes begun d) (after d (plain_state t)) (plain_outputs rs))
        (may_stay s p (plain_input st) (plain_state t) h.grown begun d stays own may_before)
        (and_true (may_be_followed d (plain_outputs rs)) (printable_from (fixes begun d) (after d (plain_state t)) (plain_outputs rs)) (followed_by d rs first.followed)
        (ap (λ b. printable_from (fixes begun d) b (plain_outputs rs)) same ∙ below (fixes begun d) (after c st) (after d t) p r (before_rest then)))

  -- ---- a function with arguments is declared no more

  function_prints : (f : Symbol) → is_empty f.args ≡ false → (rs : List (Command Replacement)) (begun : Bool) (st : State Replacement) (t : State Term) (p r : Supply) → Before begun st t p r (declare f ∷ rs) → Prints rs → printable_from begun (plain_state t) (plain_outputs rs) ≡ true
  function_prints f some rs begun st t p r h below =
      let same : plain_state (after (declare f) t) ≡ plain_state t = plain_without f some t (subst (λ n. 0 < n) (length_grouped new st.levels t.levels h.grouped.levels) h.some) in
      let same_before : plain_input (after (declare f) st) ≡ plain_input st =
      ap plain_state (sym (input_after (declare f) st)) ∙ plain_without f some (input_state st) (subst (λ n. 0 < n) (sym (length_input st.levels)) h.some) in
      let then : Grown s p (plain_input (after (declare f) st)) (plain_state (after (declare f) t)) = subst (λ b. Grown s p (plain_input (after (declare f) st)) b) (sym same) (subst (λ a. Grown s p a (plain_state t)) (sym same_before) h.grown) in
      prints_unfixed begun (plain_state t) (plain_outputs rs)
      (ap (λ b. printable_from true b (plain_outputs rs)) (sym same) ∙ below true (after (declare f) st) (after (declare f) t) p r (before_rest (declare f) tt tt rs begun st t p r tt h.acked h then))

  declare_prints : (f : Symbol) (rs : List (Command Replacement)) → Prints rs → Prints (declare f ∷ rs)
  declare_prints f rs below begun st t p r h = go f.args refl
    where
      go : (ss : List Sort) → f.args ≡ ss → printable_from begun (plain_state t) (without_arguments f.args (declare f ∷ []) ++ plain_outputs rs) ≡ true
      go [] e = ap (λ ss. printable_from begun (plain_state t) (without_arguments ss (declare f ∷ []) ++ plain_outputs rs)) e ∙ stay_prints (declare f) tt tt rs begun st t p r tt h.acked h (ap is_empty e) below
      go (s ∷ ss) e = ap (λ us. printable_from begun (plain_state t) (without_arguments us (declare f ∷ []) ++ plain_outputs rs)) e ∙ function_prints f (ap is_empty e) rs begun st t p r h below

  -- ---- an assertion gives way to its group

  assert_prints : (i : ℕ) (x : Replacement) (rs : List (Command Replacement)) → Prints rs → Prints (assert i x ∷ rs)
  assert_prints i x rs below begun st t p r h =
      removal_prints law made s st h.sound x p q h.later h.acked.0 h.acked.1.1.0 usable i (plain_outputs rs) (plain_state t) h.given.0.0 h.grown earlier
      (λ c exactly grown.
      ap (λ b. printable_from true b (plain_outputs rs)) (exactly ∙ there)
      ∙ below true (after (assert i x) st) behind q r (record {
        acked = h.acked.1.1.1;
        sound = sound_assertion s i x st p q h.later h.acked.0 h.acked.1.1.0 h.sound;
        later = later_then s p q h.later (acked_later s law x (pairs_of (live_in st)) p q h.acked.1.1.0);
        some = some_after (assert i x) st tt h.some;
        given = h.given.1;
        grouped = group_grouped new i x h.given.0.1 st t h.grouped;
        grown = subst (λ b. Grown s q (plain_input (after (assert i x) st)) b) (exactly ∙ there) (subst (λ a. Grown s q a c) before_there (asserted_before s q (plain_input st) c grown i x.term));
        names = given_right s (names_within x.term) (flat_map names_in_command (inputs rs)) h.names;
        printable = ap (λ a. printable_from true a (inputs rs)) (sym (input_after (assert i x) st)) ∙ first.rest;
      }))
      begun
    where
      q : Supply
      q = h.acked.1.0

      behind : State Term
      behind = with_levels t (on_latest (with_group x.group) t.levels)

      first : First begun (input_state st) (assert i x.term) (inputs rs)
      first = first_of_all begun (input_state st) (assert i x.term) (inputs rs) h.printable

      there : with_levels (plain_state t) (on_latest (with_group x.group) (plain_state t).levels) ≡ plain_state behind
      there = ap (λ ls. with_levels (plain_state t) ls) (plain_group x.group (acked_constants law (pairs_of (live_in st)) x p q h.acked.1.1.0) t.levels)

      before_there : after (assert i x.term) (plain_input st) ≡ plain_input (after (assert i x) st)
      before_there = plain_after (assert i x.term) tt (input_state st) ∙ ap plain_state (input_after (assert i x) st)

      earlier : (f : Symbol) → is_among (symbols_of (pairs_of (live_in st))) f ≡ true → is_among (symbols_of_state (plain_state t)) f ≡ true
      earlier f among =
          ap (λ fs. is_among fs f) (symbols_of_plain t)
          ∙ among_plain (symbols_of_state t) f (declared_grouped new st.levels t.levels h.grouped.levels f among)
          (ap is_empty (constant_of_all (pairs_of (live_in st)) f (constants_linked law s [] (live_in st) h.sound.links) among))

  -- ---- all of them

  all_print : (rs : List (Command Replacement)) → Prints rs
  all_print [] begun st t p r h = refl
  all_print (assert i x ∷ rs) begun st t p r h = assert_prints i x rs (all_print rs) begun st t p r h
  all_print (declare f ∷ rs) begun st t p r h = declare_prints f rs (all_print rs) begun st t p r h
  all_print (pop n ∷ rs) begun st t p r h = stay_prints (pop n) tt tt rs begun st t p r h.acked.0 h.acked.1 h tt (all_print rs)
  all_print (c ∷ rs) begun st t p r h = stay_prints c tt tt rs begun st t p r tt h.acked h tt (all_print rs)

pub removals-ready : ((i : ℕ) → is_usable (numbered_name i) ≡ true) → ConstantsAreNew → RemovalsMade → (rs : List (Command Replacement)) (s r : Supply) → AreAcked s rs start s r → IsReady (inputs rs) s → IsReady (plain_outputs rs) r
removals-ready usable law made rs s r is ready = record {
  printable = all_print usable law made s (drawn_in rs) rs false start start s r (record {
    acked = is;
    sound = sound_start s;
    later = λ n never. never;
    some = omega arith;
    given = acked_given law s (drawn_in rs) rs start s r is (λ f among. among);
    grouped = start_grouped (drawn_in rs);
    grown = start_grown s;
    names = ready.names;
    printable = ready.printable;
  });
  names = removed_names law made s rs start s r is (sound_start s) (λ n never. never) ready.names;
}
