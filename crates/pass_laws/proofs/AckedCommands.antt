-- Commands that can be printed are those before the removal of applications, and each assertion gives way to a removal behind those
-- that are live.
use Rattle.std.proofs.Common.{◌≡◌, ◌∙◌, sym, ap, refl, subst, ℕ, zero, suc, ◌-◌, ◌<◌, ◌≤◌, Bool, true, false, ◌&&◌, cond, nat_le, List, [], ◌∷◌, ◌++◌, map, flat_map, length, drop, replicate, append-nil, None, arith}
use Rattle.std.specs.Prelude.{min}
use Rattle.std.specs.List.{reduce}
use Rattle.std.proofs.lemmas.Bool.{leb-true}
use Rattle.smt_terms.specs.Free.{is_among, free, names_of}
use Rattle.smt_terms.specs.Fresh.{Supply}
use Rattle.smt_terms.specs.Groups.{Named}
use Rattle.smt_terms.specs.Rank.{sort_of, are_distinct}
use Rattle.smt_terms.specs.Shapes.{is_clear_below}
use Rattle.smt_terms.specs.SubstLaws.{names_within, GivesNone, Later}
use Rattle.smt_terms.specs.Term.{Term}
use Rattle.smt_terms.proofs.Substitution.{gives-left, gives-right}
use Rattle.smt_terms.proofs.Tests.{both_true}
use Rattle.term_groups.specs.Drawing.{ConstantsAreNew}
use Rattle.term_groups.specs.Grouping.{symbols_of}
use Rattle.ackermann.specs.Ackermann.{has_quantified_use, Levels, one_level, pushed, popped, joined, live as live_pairs, ack}
use Rattle.ackermann.proofs.AckRemovals.{ack-later, ack-spares}
use Rattle.script_read.specs.Commands.{Command, passed, declare_sort, declare, assert, check, check_assuming, push, pop, reset, reset_assertions, globals, exit, with_asserted, Level, State, empty_level, start, throughout, on_latest, with_sort, with_symbol, with_assertion, with_declarations, folded, levels_popped, levels_emptied, with_levels, after, live_in, sorts_of_state, symbols_of_state}
use Rattle.script_read.specs.Laws.{names_in_command}
use Rattle.script_read.specs.Printable.{is_usable, sort_is_live, all_within, open_levels, may_stand, fixes, may_be_followed, printable_from}
use Rattle.script_read.specs.Script.{most_levels}
use Rattle.pass_laws.specs.declared.names.Pass.TheVariants.{Ackermann}
use Rattle.pass_laws.specs.GroupPoints.{inputs}
use Rattle.pass_laws.specs.Laws.{IsReady}
use Rattle.pass_laws.specs.Passed.{Way, Replacement, literal_kept, onward, replacements_from, replacements, quantified_use, refused_by}
use Rattle.pass_laws.proofs.Literals.{sort_is_bool}
use Rattle.pass_laws.proofs.MappedLevels.{mapped_latest, mapped_push, mapped_pop, mapped_throughout}
use Rattle.pass_laws.proofs.OpenLevels.{some_after}
use Rattle.pass_laws.proofs.RemovalLinks.{pairs_of, pairs-append, pairs-push, IsAcked, IsInput, on_latest_kept, on_pushed, on_popped, on_emptied, asserted_push}
use Rattle.pass_laws.proofs.RemovalStates.{AreAcked}
use Rattle.pass_laws.proofs.Standing.{of_each, Stands, stands}

-- ---- the state of the commands before, from that of those with replacements

abbrev pub input_level : Level Replacement → Level Term
input_level l = record { sorts = l.sorts; symbols = l.symbols; asserted = map (λ x. x.term) l.asserted }

abbrev pub input_state : State Replacement → State Term
input_state st = record { levels = map input_level st.levels; global = st.global }

terms-append : (xs ys : List Replacement) → map (λ x. x.term) xs ++ map (λ x. x.term) ys ≡ map (λ x. x.term) (xs ++ ys)
terms-append [] ys = refl
terms-append (x ∷ xs) ys = ap (λ ts. x.term ∷ ts) (terms-append xs ys)

input_sorts : (ls : List (Level Replacement)) → throughout (λ l. l.sorts) (map input_level ls) ≡ throughout (λ l. l.sorts) ls
input_sorts ls = mapped_throughout input_level (λ l. l.sorts) (λ l. l.sorts) (λ l. refl) ls

input_symbols : (ls : List (Level Replacement)) → throughout (λ l. l.symbols) (map input_level ls) ≡ throughout (λ l. l.symbols) ls
input_symbols ls = mapped_throughout input_level (λ l. l.symbols) (λ l. l.symbols) (λ l. refl) ls

pub sorts_of_input : (st : State Replacement) → sorts_of_state (input_state st) ≡ sorts_of_state st
sorts_of_input st = input_sorts st.levels

pub symbols_of_input : (st : State Replacement) → symbols_of_state (input_state st) ≡ symbols_of_state st
symbols_of_input st = input_symbols st.levels

input_emptied : (b : Bool) (ls : List (Level Replacement)) → levels_emptied b (map input_level ls) ≡ map input_level (levels_emptied b ls)
input_emptied true ls = λ i. record { sorts = input_sorts ls i; symbols = input_symbols ls i; asserted = [] } ∷ []
input_emptied false ls = refl

changed : (st : State Replacement) (ks : List (Level Term)) (ls : List (Level Replacement)) → ks ≡ map input_level ls → with_levels (input_state st) ks ≡ input_state (with_levels st ls)
changed st ks ls same = ap (λ js. with_levels (input_state st) js) same

pub input_after : (c : Command Replacement) (st : State Replacement) → after (with_asserted (λ x. x.term) c) (input_state st) ≡ input_state (after c st)
input_after (passed text) st = refl
input_after (declare_sort n) st = changed st (on_latest (with_sort n) (map input_level st.levels)) (on_latest (with_sort n) st.levels) (mapped_latest input_level refl (with_sort n) (with_sort n) (λ l. refl) st.levels)
input_after (declare f) st = changed st (on_latest (with_symbol f) (map input_level st.levels)) (on_latest (with_symbol f) st.levels) (mapped_latest input_level refl (with_symbol f) (with_symbol f) (λ l. refl) st.levels)
input_after (assert i x) st =
    changed st (on_latest (with_assertion x.term) (map input_level st.levels)) (on_latest (with_assertion x) st.levels)
    (mapped_latest input_level refl (with_assertion x) (with_assertion x.term) (λ l. ap (λ ts. record { sorts = l.sorts; symbols = l.symbols; asserted = ts }) (terms-append l.asserted (x ∷ []))) st.levels)
input_after check st = refl
input_after (check_assuming ls) st = refl
input_after (push n) st = changed st (replicate n empty_level ++ map input_level st.levels) (replicate n empty_level ++ st.levels) (mapped_push input_level refl n st.levels)
input_after (pop n) st = changed st (levels_popped st.global n (map input_level st.levels)) (levels_popped st.global n st.levels) (mapped_pop input_level (λ k l. refl) st.global n st.levels)
input_after reset st = refl
input_after reset_assertions st = changed st (levels_emptied st.global (map input_level st.levels)) (levels_emptied st.global st.levels) (input_emptied st.global st.levels)
input_after (globals b) st = refl
input_after exit st = refl

pub length_input : (ls : List (Level Replacement)) → length (map input_level ls) ≡ length ls
length_input [] = refl
length_input (l ∷ ls) = ap suc (length_input ls)

-- ---- the live applications, level by level

abbrev level_pairs : Level Replacement → Named
level_pairs l = pairs_of l.asserted

abbrev levels_of : List (Level Replacement) → Levels
levels_of ls = map level_pairs ls

live_levels : (ls : List (Level Replacement)) → live_pairs (levels_of ls) ≡ pairs_of (throughout (λ l. l.asserted) ls)
live_levels [] = refl
live_levels (l ∷ ls) = ap (λ ns. ns ++ level_pairs l) (live_levels ls) ∙ sym (pairs-append (throughout (λ l. l.asserted) ls) l.asserted)

same_latest : (change : Level Replacement → Level Replacement) → ((l : Level Replacement) → (change l).asserted ≡ l.asserted) → (ls : List (Level Replacement)) → 0 < length ls → levels_of ls ≡ levels_of (on_latest change ls)
same_latest change same [] some = absurd (omega (arith, some))
same_latest change same (l ∷ ls) some = ap (λ xs. pairs_of xs ∷ levels_of ls) (sym (same l))

joined_latest : (x : Replacement) (ls : List (Level Replacement)) → joined x.group.symbols (levels_of ls) ≡ levels_of (on_latest (with_assertion x) ls)
joined_latest x [] = ap (λ ns. ns ∷ []) (sym (append-nil x.group.symbols))
joined_latest x (l ∷ ls) = ap (λ ns. ns ∷ levels_of ls) (sym (pairs-push l.asserted x))

pushed_levels : (n : ℕ) (ls : List (Level Replacement)) → pushed n (levels_of ls) ≡ levels_of (replicate n empty_level ++ ls)
pushed_levels zero ls = refl
pushed_levels (suc n) ls = ap (λ ks. [] ∷ ks) (pushed_levels n ls)

dropped_levels : (n : ℕ) (ls : List (Level Replacement)) → popped n (levels_of ls) ≡ levels_of (drop n ls)
dropped_levels zero ls = refl
dropped_levels (suc n) [] = refl
dropped_levels (suc n) (l ∷ ls) = dropped_levels n ls

folded_levels : (n : ℕ) (ls : List (Level Replacement)) → n < length ls → popped n (levels_of ls) ≡ levels_of (folded n ls)
folded_levels zero ls few = refl
folded_levels (suc n) [] few = absurd (omega (arith, few))
folded_levels (suc n) (l ∷ []) few = absurd (omega (arith, few))
folded_levels (suc zero) (k ∷ l ∷ ls) few = refl
folded_levels (suc (suc n)) (k ∷ l ∷ ls) few = folded_levels (suc n) (with_declarations k l ∷ ls) (omega (arith, few))

popped_levels : (b : Bool) (n : ℕ) (ls : List (Level Replacement)) → n < length ls → popped n (levels_of ls) ≡ levels_of (levels_popped b n ls)
popped_levels true n ls few = folded_levels n ls few
popped_levels false n ls few = dropped_levels n ls

emptied_levels : (b : Bool) (ls : List (Level Replacement)) → one_level ≡ levels_of (levels_emptied b ls)
emptied_levels true ls = refl
emptied_levels false ls = refl

-- ---- the commands before

literals_before : (ls : List Term) → map (λ r. r.term) (map literal_kept ls) ≡ ls
literals_before [] = refl
literals_before (l ∷ ls) = ap (λ ts. l ∷ ts) (literals_before ls)

commands_before : (cs : List (Command Term)) (w : Way) → inputs (replacements_from Ackermann cs w).0 ≡ cs
commands_before [] w = refl
commands_before (passed text ∷ cs) w = ap (λ ds. passed text ∷ ds) (commands_before cs w)
commands_before (declare_sort n ∷ cs) w = ap (λ ds. declare_sort n ∷ ds) (commands_before cs w)
commands_before (declare f ∷ cs) w = ap (λ ds. declare f ∷ ds) (commands_before cs w)
commands_before (assert i t ∷ cs) w = ap (λ ds. assert i t ∷ ds) (commands_before cs (record { levels = (ack t w.levels w.names).levels; names = (ack t w.levels w.names).names }))
commands_before (check ∷ cs) w = ap (λ ds. check ∷ ds) (commands_before cs w)
commands_before (check_assuming ls ∷ cs) w =
    ap (λ ts. check_assuming ts ∷ inputs (replacements_from Ackermann cs w).0) (literals_before ls) ∙ ap (λ ds. check_assuming ls ∷ ds) (commands_before cs w)
commands_before (push n ∷ cs) w = ap (λ ds. push n ∷ ds) (commands_before cs (onward (push n) w))
commands_before (pop n ∷ cs) w = ap (λ ds. pop n ∷ ds) (commands_before cs (onward (pop n) w))
commands_before (reset ∷ cs) w = ap (λ ds. reset ∷ ds) (commands_before cs (onward reset w))
commands_before (reset_assertions ∷ cs) w = ap (λ ds. reset_assertions ∷ ds) (commands_before cs (onward reset_assertions w))
commands_before (globals b ∷ cs) w = ap (λ ds. globals b ∷ ds) (commands_before cs w)
commands_before (exit ∷ cs) w = ap (λ ds. exit ∷ ds) (commands_before cs w)

-- ---- each assertion's removal

none_refused : (ns : List ℕ) → reduce min ns ≡ None → ns ≡ []
none_refused [] h = refl
none_refused (n ∷ ns) h = absurd cc

first_none : (ms ns : List ℕ) → ms ++ ns ≡ [] → (ms ≡ []) × (ns ≡ [])
first_none [] ns h = (refl, h)
first_none (m ∷ ms) ns h = absurd cc

outside_of : (i : ℕ) (t : Term) → quantified_use (assert i t) ≡ [] → has_quantified_use t ≡ false
outside_of i t h = go (has_quantified_use t) h
  where
    go : (b : Bool) → cond b (i ∷ []) [] ≡ [] → b ≡ false
    go true h = absurd cc
    go false h = refl

module _ (law : ConstantsAreNew) (s : Supply) where
  input_of : (begun : Bool) (st : State Replacement) (i : ℕ) (t : Term) → may_stand begun (input_state st) (assert i t) ≡ true → GivesNone s (names_within t) → has_quantified_use t ≡ false → IsInput s (sorts_of_state st) (symbols_of_state st) t
  input_of begun st i t may given outside =
      let parts : Stands (input_state st) t = stands begun (input_state st) i t may in
      record {
        sort = sort_is_bool (sort_of t) parts.formula;
        sorted = parts.sorted;
        outside = outside;
        names = given;
        clear = (both_true (is_clear_below [] t) (are_distinct (names_of (free t))) parts.clear).0;
        symbols = λ f among. ap (λ fs. is_among fs f) (sym (symbols_of_input st)) ∙ of_each (λ g. is_among (symbols_of_state (input_state st)) g) (free t) f parts.symbols among;
        within = ap (λ ds. all_within (sort_is_live ds) is_usable t) (sym (sorts_of_input st)) ∙ parts.within;
      }

  few_enough : (n : ℕ) (st : State Replacement) → 0 < length st.levels → (nat_le n most_levels && nat_le n (open_levels (input_state st))) ≡ true → n < length st.levels
  few_enough n st some h =
      let few : n ≤ length (map input_level st.levels) - 1 = leb-true n (open_levels (input_state st)) (both_true (nat_le n most_levels) (nat_le n (open_levels (input_state st))) h).1 in
      let same : length (map input_level st.levels) ≡ length st.levels = length_input st.levels in
      omega (arith, few, same)

  -- what is left gives no name of a live constant
  abbrev Spares : Supply → List Replacement → Type 0
  Spares q xs = GivesNone q (names_of (symbols_of (pairs_of xs)))

  pairs_names : (ns ms : Named) → names_of (symbols_of (ns ++ ms)) ≡ names_of (symbols_of ns) ++ names_of (symbols_of ms)
  pairs_names [] ms = refl
  pairs_names (n ∷ ns) ms = ap (λ more. n.0.name ∷ more) (pairs_names ns ms)

  spares_first : (q : Supply) (xs ys : List Replacement) → Spares q (xs ++ ys) → Spares q xs
  spares_first q xs ys h =
      gives-left q (names_of (symbols_of (pairs_of xs))) (names_of (symbols_of (pairs_of ys)))
      (subst (GivesNone q) (ap (λ ns. names_of (symbols_of ns)) (pairs-append xs ys) ∙ pairs_names (pairs_of xs) (pairs_of ys)) h)

  spares_none : (q : Supply) → Spares q []
  spares_none q n among = absurd cc

  -- what is known before these commands
  pub record Before (begun : Bool) (st : State Replacement) (w : Way) (cs : List (Command Term)) : Type 0 where
    pub levels : w.levels ≡ levels_of st.levels
    pub some : 0 < length st.levels
    pub apart : Spares w.names (live_in st)
    pub later : Later s w.names
    pub given : GivesNone s (flat_map names_in_command cs)
    pub outside : flat_map quantified_use cs ≡ []
    pub printable : printable_from begun (input_state st) cs ≡ true

  record First (begun : Bool) (st : State Replacement) (c : Command Term) (cs : List (Command Term)) : Type 0 where
    may : may_stand begun (input_state st) c ≡ true
    rest : printable_from (fixes begun c) (after c (input_state st)) cs ≡ true
    own : GivesNone s (names_in_command c)
    given : GivesNone s (flat_map names_in_command cs)
    outside : quantified_use c ≡ []
    others : flat_map quantified_use cs ≡ []

  first_of : (begun : Bool) (st : State Replacement) (w : Way) (c : Command Term) (cs : List (Command Term)) → Before begun st w (c ∷ cs) → First begun st c cs
  first_of begun st w c cs h =
      let here = both_true (may_stand begun (input_state st) c) (may_be_followed c cs && printable_from (fixes begun c) (after c (input_state st)) cs) h.printable in
      let there = both_true (may_be_followed c cs) (printable_from (fixes begun c) (after c (input_state st)) cs) here.1 in
      let none = first_none (quantified_use c) (flat_map quantified_use cs) h.outside in
      record {
        may = here.0;
        rest = there.1;
        own = gives-left s (names_in_command c) (flat_map names_in_command cs) h.given;
        given = gives-right s (names_in_command c) (flat_map names_in_command cs) h.given;
        outside = none.0;
        others = none.1;
      }

  -- the replacement of an assertion
  abbrev pub acked_by : ℕ → Term → Way → Replacement
  acked_by i t w = record { number = i; term = t; group = (ack t w.levels w.names).group }

  abbrev pub way_behind : Term → Way → Way
  way_behind t w = record { levels = (ack t w.levels w.names).levels; names = (ack t w.levels w.names).names }

  pub live_there : (st : State Replacement) (w : Way) → w.levels ≡ levels_of st.levels → live_pairs w.levels ≡ pairs_of (live_in st)
  live_there st w same = ap live_pairs same ∙ live_levels st.levels

  pub is_acked : (begun : Bool) (st : State Replacement) (w : Way) (cs : List (Command Term)) → Before begun st w cs → (i : ℕ) (t : Term) → IsAcked (pairs_of (live_in st)) (acked_by i t w) w.names (ack t w.levels w.names).names
  is_acked begun st w cs h i t =
      subst (λ ns. IsAcked ns (acked_by i t w) w.names (ack t w.levels w.names).names) (live_there st w h.levels)
      (record { apart = subst (λ ns. GivesNone w.names (names_of (symbols_of ns))) (sym (live_there st w h.levels)) h.apart; symbols = refl; names = refl; asserts = refl })

  -- ---- what is known before the commands behind one

  module _ (begun : Bool) (st : State Replacement) (w : Way) (cs : List (Command Term)) where
    spared_then : (i : ℕ) (t : Term) → Before begun st w (assert i t ∷ cs) → Spares (ack t w.levels w.names).names (live_in (after (assert i (acked_by i t w)) st))
    spared_then i t h =
        let x : Replacement = acked_by i t w in
        let same : live_pairs w.levels ++ x.group.symbols ≡ pairs_of (live_in (after (assert i x) st)) =
        ap (λ ns. ns ++ x.group.symbols) (live_there st w h.levels) ∙ sym (pairs-push (live_in st) x) ∙ ap pairs_of (sym (asserted_push x st.levels)) in
        subst (λ ns. GivesNone (ack t w.levels w.names).names (names_of (symbols_of ns))) same
        (ack-spares law t w.levels w.names (subst (λ ns. GivesNone w.names (names_of (symbols_of ns))) (sym (live_there st w h.levels)) h.apart))

    pub assert_then : (i : ℕ) (t : Term) → Before begun st w (assert i t ∷ cs) → Before true (after (assert i (acked_by i t w)) st) (way_behind t w) cs
    assert_then i t h =
        let x : Replacement = acked_by i t w in
        let one : First begun st (assert i t) cs = first_of begun st w (assert i t) cs h in
        record {
          levels = ap (joined x.group.symbols) h.levels ∙ joined_latest x st.levels;
          some = some_after (assert i x) st tt h.some;
          apart = spared_then i t h;
          later = λ n never. ack-later law t w.levels w.names n (h.later n never);
          given = one.given;
          outside = one.others;
          printable = ap (λ a. printable_from true a cs) (sym (input_after (assert i x) st)) ∙ one.rest;
        }

    -- a command that asserts nothing
    stays_then : (c : Command Replacement) (d : Command Term) → with_asserted (λ x. x.term) c ≡ d → 0 < length (after c st).levels → (ls : Levels) → ls ≡ levels_of (after c st).levels → Spares w.names (live_in (after c st))
        → Before begun st w (d ∷ cs) → Before (fixes begun d) (after c st) (record { levels = ls; names = w.names }) cs
    stays_then c d is some ls levels apart h =
        let one : First begun st d cs = first_of begun st w d cs h in
        record {
          levels = levels;
          some = some;
          apart = apart;
          later = h.later;
          given = one.given;
          outside = one.others;
          printable = ap (λ a. printable_from (fixes begun d) a cs) (sym (input_after c st) ∙ ap (λ e. after e (input_state st)) is) ∙ one.rest;
        }

  -- ---- all commands

  abbrev pub AssertsNoTerm : Command Term → Type 0
  AssertsNoTerm (assert i t) = ⊥
  AssertsNoTerm _ = Unit {0}

  pub next_before : (c : Command Term) → AssertsNoTerm c → (cs : List (Command Term)) (begun : Bool) (st : State Replacement) (w : Way) → Before begun st w (c ∷ cs)
      → Before (fixes begun c) (after (with_asserted literal_kept c) st) (onward c w) cs
  next_before (declare_sort n) nothing cs begun st w h =
      stays_then begun st w cs (declare_sort n) (declare_sort n) refl (some_after (declare_sort n) st tt h.some) w.levels (h.levels ∙ same_latest (with_sort n) (λ l. refl) st.levels h.some)
      (on_latest_kept (Spares w.names) (spares_first w.names) (spares_none w.names) (with_sort n) (λ l. refl) st.levels h.apart) h
  next_before (declare f) nothing cs begun st w h =
      stays_then begun st w cs (declare f) (declare f) refl (some_after (declare f) st tt h.some) w.levels (h.levels ∙ same_latest (with_symbol f) (λ l. refl) st.levels h.some)
      (on_latest_kept (Spares w.names) (spares_first w.names) (spares_none w.names) (with_symbol f) (λ l. refl) st.levels h.apart) h
  next_before (assert i t) nothing cs begun st w h = absurd nothing
  next_before (push n) nothing cs begun st w h =
      stays_then begun st w cs (push n) (push n) refl (some_after (push n) st tt h.some) (pushed n w.levels) (ap (pushed n) h.levels ∙ pushed_levels n st.levels)
      (on_pushed (Spares w.names) (spares_first w.names) (spares_none w.names) n st.levels h.apart) h
  next_before (pop n) nothing cs begun st w h =
      let few : n < length st.levels = few_enough n st h.some (first_of begun st w (pop n) cs h).may in
      stays_then begun st w cs (pop n) (pop n) refl (some_after (pop n) st few h.some) (popped n w.levels) (ap (popped n) h.levels ∙ popped_levels st.global n st.levels few)
      (on_popped (Spares w.names) (spares_first w.names) (spares_none w.names) st.global n st.levels h.apart) h
  next_before reset nothing cs begun st w h = stays_then begun st w cs reset reset refl (omega arith) one_level refl (spares_none w.names) h
  next_before reset_assertions nothing cs begun st w h =
      stays_then begun st w cs reset_assertions reset_assertions refl (some_after reset_assertions st tt h.some) one_level (emptied_levels st.global st.levels)
      (on_emptied (Spares w.names) (spares_first w.names) (spares_none w.names) st.global st.levels) h
  next_before (globals b) nothing cs begun st w h = stays_then begun st w cs (globals b) (globals b) refl h.some w.levels h.levels h.apart h
  next_before (check_assuming ls) nothing cs begun st w h =
      stays_then begun st w cs (check_assuming (map literal_kept ls)) (check_assuming ls) (ap check_assuming (literals_before ls)) h.some w.levels h.levels h.apart h
  next_before check nothing cs begun st w h = stays_then begun st w cs check check refl h.some w.levels h.levels h.apart h
  next_before (passed text) nothing cs begun st w h = stays_then begun st w cs (passed text) (passed text) refl h.some w.levels h.levels h.apart h
  next_before exit nothing cs begun st w h = stays_then begun st w cs exit exit refl h.some w.levels h.levels h.apart h

  pub all_acked : (cs : List (Command Term)) (begun : Bool) (st : State Replacement) (w : Way) → Before begun st w cs → AreAcked s (replacements_from Ackermann cs w).0 st w.names (replacements_from Ackermann cs w).1
  all_acked [] begun st w h = refl
  all_acked (assert i t ∷ cs) begun st w h =
      let one : First begun st (assert i t) cs = first_of begun st w (assert i t) cs h in (
        input_of begun st i t one.may one.own (outside_of i t one.outside),
        ((ack t w.levels w.names).names, (is_acked begun st w (assert i t ∷ cs) h i t, all_acked cs true (after (assert i (acked_by i t w)) st) (way_behind t w) (assert_then begun st w cs i t h))),
      )
  all_acked (pop n ∷ cs) begun st w h = (
    few_enough n st h.some (first_of begun st w (pop n) cs h).may,
    all_acked cs true (after (pop n) st) (onward (pop n) w) (next_before (pop n) tt cs begun st w h),
  )
  all_acked (c ∷ cs) begun st w h = all_acked cs (fixes begun c) (after (with_asserted literal_kept c) st) (onward c w) (next_before c tt cs begun st w h)

  -- what is known before all of them
  pub before_all : (cs : List (Command Term)) → IsReady cs s → refused_by Ackermann cs ≡ None → Before false start (record { levels = one_level; names = s }) cs
  before_all cs ready taken = record {
    levels = refl;
    some = omega arith;
    apart = λ n among. absurd cc;
    later = λ n never. never;
    given = ready.names;
    outside = none_refused (flat_map quantified_use cs) taken;
    printable = ready.printable;
  }

-- ready commands, none of whose applications stands below a quantifier
pub record IsRemoving (cs : List (Command Term)) (s : Supply) : Type 0 where
  pub before : inputs (replacements Ackermann cs s).0 ≡ cs
  pub acked : AreAcked s (replacements Ackermann cs s).0 start s (replacements Ackermann cs s).1

pub is_removing : ConstantsAreNew → (cs : List (Command Term)) (s : Supply) → IsReady cs s → refused_by Ackermann cs ≡ None → IsRemoving cs s
is_removing law cs s ready taken = record {
  before = commands_before cs (record { levels = one_level; names = s });
  acked = all_acked law s cs false start (record { levels = one_level; names = s }) (before_all law s cs ready taken);
}
