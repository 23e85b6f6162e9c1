-- The commands of a removal may stand in the place of its assertion: the declarations of its new symbols, and then its assertions.
use Rattle.std.proofs.Common.{◌≡◌, ◌∙◌, sym, ap, refl, subst, ℕ, ◌<◌, Bool, true, inl, inr, List, [], ◌∷◌, ◌++◌, map, length, append_assoc, All, arith}
use Rattle.std.proofs.lemmas.List.Elements.{All-head, All-tail}
use Rattle.smt_terms.specs.Free.{free, is_among, names_of}
use Rattle.smt_terms.specs.Fresh.{Supply, numbered_name}
use Rattle.smt_terms.specs.Groups.{Named}
use Rattle.smt_terms.specs.Rank.{are_distinct, is_empty}
use Rattle.smt_terms.specs.Shapes.{is_clear_below}
use Rattle.smt_terms.specs.Sorts.{bool, Symbol}
use Rattle.smt_terms.specs.SubstLaws.{Later}
use Rattle.smt_terms.specs.Term.{Term}
use Rattle.smt_terms.proofs.Among.{is_among-append}
use Rattle.smt_terms.proofs.ClearTerms.{free_distinct}
use Rattle.smt_terms.proofs.Tests.{and_true, either_true}
use Rattle.term_groups.specs.Drawing.{ConstantsAreNew}
use Rattle.term_groups.specs.Grouping.{symbols_of}
use Rattle.ackermann.specs.Laws.{RemovalsMade, IsMadeFrom}
use Rattle.ackermann.specs.Removals.{all_inputs, all_symbols, is_free_in}
use Rattle.script_terms.specs.Read.{is_of_sort}
use Rattle.script_read.specs.Commands.{Command, declare, assert, State, on_latest, with_assertion, with_levels, after, live_in, sorts_of_state, symbols_of_state}
use Rattle.script_read.specs.Printable.{is_usable, sort_is_live, all_within, may_stand, printable_from}
use Rattle.pass_laws.specs.Passed.{Replacement, group_commands}
use Rattle.pass_laws.proofs.AckedCommands.{input_state, sorts_of_input, symbols_of_input}
use Rattle.pass_laws.proofs.GroupLevels.{with_group}
use Rattle.pass_laws.proofs.GroupRuns.{asserted_on, group_levels}
use Rattle.pass_laws.proofs.MadeRemovals.{free_there, inputs_known, asserts_made, pairs_are, new_come, made_within, made_clear}
use Rattle.pass_laws.proofs.PlainStates.{plain_state, among_plain, symbols_of_plain, sorts_of_plain}
use Rattle.pass_laws.proofs.ReadyGroups.{AreDeclared, declares_print, other_than_drawn}
use Rattle.pass_laws.proofs.ReadyLevels.{latest_symbols}
use Rattle.pass_laws.proofs.ReadyStates.{Grown, same_sorts, more_symbols, later_grown, asserted_behind}
use Rattle.pass_laws.proofs.ReadySymbols.{NamesOfGroup, MayCome}
use Rattle.pass_laws.proofs.RemovalChains.{acked_names}
use Rattle.pass_laws.proofs.RemovalLinks.{removals, pairs_of, IsAcked, IsInput}
use Rattle.pass_laws.proofs.RemovalStates.{Sound}
use Rattle.pass_laws.proofs.Standing.{of_all, Stands, may}

-- the state of the commands before, without functions that have arguments
abbrev pub plain_input : State Replacement → State Term
plain_input st = plain_state (input_state st)

both_symbols : (ms ns : Named) → symbols_of (ms ++ ns) ≡ symbols_of ms ++ symbols_of ns
both_symbols [] ns = refl
both_symbols (m ∷ ms) ns = ap (λ fs. m.0 ∷ fs) (both_symbols ms ns)

module _ (law : ConstantsAreNew) (made : RemovalsMade) (s : Supply) (st : State Replacement) (sound : Sound s st) (x : Replacement) (p q : Supply) (later : Later s p)
    (input : IsInput s (sorts_of_state st) (symbols_of_state st) x.term) (is : IsAcked (pairs_of (live_in st)) x p q) where
  abbrev ts : List Term
  ts = all_inputs (removals (live_in st ++ x ∷ []))

  abbrev ns : Named
  ns = all_symbols (removals (live_in st ++ x ∷ []))

  abbrev a : State Term
  a = plain_input st

  sorts_there : sorts_of_state a ≡ sorts_of_state st
  sorts_there = sorts_of_plain (input_state st) ∙ sorts_of_input st

  known : All (IsInput s (sorts_of_state st) (symbols_of_state st)) ts
  known = inputs_known law made s st sound x p q later input is

  module _ (b : State Term) (g : Grown s q a b) (declared : AreDeclared ns b) where
    still_there : (f : Symbol) → is_among (symbols_of_state st) f ≡ true → f.args ≡ [] → is_among (symbols_of_state b) f ≡ true
    still_there f among none =
        (more_symbols s q a b g).stays f
        (ap (λ fs. is_among fs f) (symbols_of_plain (input_state st)) ∙ among_plain (symbols_of_state (input_state st)) f (ap (λ fs. is_among fs f) (symbols_of_input st) ∙ among) (ap is_empty none))

    made_free : (u : Term) → IsMadeFrom ts ns u → (f : Symbol) → is_among (free u) f ≡ true → is_among (symbols_of_state b) f ≡ true
    made_free u from f among =
        elim (either_true (is_free_in ts f) (is_among (symbols_of ns) f) (from.free f among)) [
          | inl old ↦ still_there f (free_there s (sorts_of_state st) (symbols_of_state st) ts known f old) (from.constants f among)
          | inr new ↦ declared f new
        ]

    made_stands : (u : Term) → IsMadeFrom ts ns u → Stands b u
    made_stands u from = record {
      formula = ap (is_of_sort bool) from.sort;
      sorted = from.sorted;
      clear = and_true (is_clear_below [] u) (are_distinct (names_of (free u))) (made_clear law made s st sound x p q later input is u from) (free_distinct (symbols_of_state b) u g.apart (made_free u from));
      symbols = of_all (λ f. is_among (symbols_of_state b) f) (free u) (made_free u from);
      within = ap (λ ds. all_within (sort_is_live ds) is_usable u) (sym (same_sorts s q a b g) ∙ sorts_there) ∙ made_within law made s st sound x p q later input is u from;
    }

  -- ---- assertions

  module _ (i : ℕ) (ds : List (Command Term)) where
    one_prints : (begun : Bool) (b : State Term) → Grown s q a b → AreDeclared ns b → (u : Term) → IsMadeFrom ts ns u → (cs : List (Command Term)) → printable_from true (after (assert i u) b) cs ≡ true → printable_from begun b (assert i u ∷ cs) ≡ true
    one_prints begun b g declared u from cs h =
        and_true (may_stand begun b (assert i u)) (printable_from true (after (assert i u) b) cs) (may begun b i u (made_stands b g declared u from)) h

    declared_still : (b : State Term) (u : Term) → AreDeclared ns b → AreDeclared ns (after (assert i u) b)
    declared_still b u declared f among = ap (λ fs. is_among fs f) (latest_symbols (with_assertion u) (λ l. refl) b.levels) ∙ declared f among

    asserts_print : (us : List Term) → All (IsMadeFrom ts ns) us → (b : State Term) → Grown s q a b → AreDeclared ns b
        → ((c : State Term) → c ≡ with_levels b (asserted_on us b.levels) → Grown s q a c → printable_from true c ds ≡ true) → printable_from true b (map (λ u. assert i u) us ++ ds) ≡ true
    unfolding asserted_on
    asserts_print [] from b g declared rest = rest b refl g
    asserts_print (u ∷ us) from b g declared rest =
        one_prints true b g declared u (All-head (IsMadeFrom ts ns) u us from) (map (λ v. assert i v) us ++ ds)
        (asserts_print us (All-tail (IsMadeFrom ts ns) u us from) (after (assert i u) b) (asserted_behind s q a b g i u) (declared_still b u declared) rest)

    some_print : (us : List Term) → 0 < length us → All (IsMadeFrom ts ns) us → (begun : Bool) (b : State Term) → Grown s q a b → AreDeclared ns b
        → ((c : State Term) → c ≡ with_levels b (asserted_on us b.levels) → Grown s q a c → printable_from true c ds ≡ true) → printable_from begun b (map (λ u. assert i u) us ++ ds) ≡ true
    unfolding asserted_on
    some_print [] some from begun b g declared rest = absurd (omega arith)
    some_print (u ∷ us) some from begun b g declared rest =
        one_prints begun b g declared u (All-head (IsMadeFrom ts ns) u us from) (map (λ v. assert i v) us ++ ds)
        (asserts_print us (All-tail (IsMadeFrom ts ns) u us from) (after (assert i u) b) (asserted_behind s q a b g i u) (declared_still b u declared) rest)

  -- ---- the group

  -- the constants of live replacements are declared, and so they all are
  all_declared : (c : State Term) → AreDeclared (pairs_of (live_in st)) c → AreDeclared x.group.symbols c → AreDeclared ns c
  all_declared c earlier new f among =
      elim (either_true (is_among (symbols_of (pairs_of (live_in st))) f) (is_among (symbols_of x.group.symbols) f)
      (sym (is_among-append (symbols_of (pairs_of (live_in st))) (symbols_of x.group.symbols) f) ∙ ap (λ fs. is_among fs f) (sym (both_symbols (pairs_of (live_in st)) x.group.symbols)) ∙ ap (λ ms. is_among (symbols_of ms) f) (sym (pairs_are law made s st sound x p q later input is)) ∙ among)) [
        | inl old ↦ earlier f old
        | inr drawn ↦ new f drawn
      ]

  pub removal_prints : ((i : ℕ) → is_usable (numbered_name i) ≡ true) → (i : ℕ) (ds : List (Command Term)) (b : State Term) → 0 < length x.group.asserts → Grown s p a b → AreDeclared (pairs_of (live_in st)) b
      → ((c : State Term) → c ≡ with_levels b (on_latest (with_group x.group) b.levels) → Grown s q a c → printable_from true c ds ≡ true) → (begun : Bool) → printable_from begun b (group_commands i x.group ++ ds) ≡ true
  removal_prints usable i ds b some g earlier rest begun =
      ap (printable_from begun b) (append_assoc (map (λ n. declare n.0) x.group.symbols) (map (λ u. assert i u) x.group.asserts) ds)
      ∙ declares_print s q a (map (λ u. assert i u) x.group.asserts ++ ds) x.group.symbols begun b (later_grown s p a b g q names.later) come names.apart (other_than_drawn s p q a b x.group.symbols g names)
      (λ then c exactly grown kept declared.
      some_print i ds x.group.asserts some (asserts_made law made s st sound x p q later input is) then c grown (all_declared c (λ f among. kept f (earlier f among)) declared)
      (λ d last later_on. rest d (last ∙ ap (λ e. with_levels e (asserted_on x.group.asserts e.levels)) exactly ∙ ap (with_levels b) (group_levels x.group some b.levels)) later_on))
    where
      names : NamesOfGroup p q x.group.symbols
      names = acked_names law (pairs_of (live_in st)) x p q is

      come : All (λ n. MayCome s q (sorts_of_state a) n.0) x.group.symbols
      come = subst (λ es. All (λ n. MayCome s q es n.0) x.group.symbols) (sym sorts_there) (new_come law made s st sound x p q later input is usable)
