-- The state of commands behind a pass that declares new symbols, against that of the commands before it: a command that stays may
-- stand in it, and leads to such a state again.
use Rattle.std.proofs.Common.{◌≡◌, ◌∙◌, sym, ap, refl, subst, ℕ, ◌+◌, ◌-◌, ◌<◌, ◌≤◌, Bool, true, false, not, ◌&&◌, ◌⊎◌, inl, inr, nat_le, List, [], ◌∷◌, ◌++◌, length, arith}
use Rattle.std.specs.Prelude.{bytes_eq, ◌==◌}
use Rattle.std.specs.List.{list_all}
use Rattle.std.proofs.lemmas.Bool.{leb-true, false_from_ne_true}
use Rattle.smt_lex.specs.Names.{is_among as is_among_names, is_reserved_for_sorts}
use Rattle.smt_terms.specs.declared.op.Op.TheVariants.{Not}
use Rattle.smt_terms.specs.Equal.{symbol_eq}
use Rattle.smt_terms.specs.Free.{is_among, names_of}
use Rattle.smt_terms.specs.Fresh.{Supply, NeverGives}
use Rattle.smt_terms.specs.Rank.{is_sort}
use Rattle.smt_terms.specs.Shapes.{is_bool}
use Rattle.smt_terms.specs.Sorts.{Name, Symbol}
use Rattle.smt_terms.specs.SubstLaws.{GivesNone, Later}
use Rattle.smt_terms.specs.Term.{op, symbol, Term, apply, none, ◌⨾◌}
use Rattle.smt_terms.proofs.ClearTerms.{Apart}
use Rattle.smt_terms.proofs.Equal.{name_same, name_itself, symbol_itself}
use Rattle.smt_terms.proofs.Tests.{both_true, and_true, both_false, or_false, left_true, right_true, not_true, contrary}
use Rattle.script_read.specs.Commands.{Command, passed, declare_sort, declare, assert, check, check_assuming, push, pop, reset, reset_assertions, globals, exit, State, start, with_sort, with_symbol, with_assertion, levels_popped, levels_emptied, after, sorts_of_state, symbols_of_state}
use Rattle.script_read.specs.Laws.{names_in_command}
use Rattle.script_read.specs.Printable.{is_writable, is_usable, sort_is_live, is_live_constant, is_live_literal, open_levels, is_new_symbol, may_stand}
use Rattle.script_read.specs.Script.{most_levels}
use Rattle.pass_laws.proofs.ReadyLevels.{among_either, among_one, IsNew, More, GrownLevels, one_level_grown, latest_grown, second_grown, first_grown, sort_grown, symbol_grown, new_symbol_grown, assertion_grown, assertion_before, pushed_grown, popped_grown, emptied_grown, grown_sorts, grown_symbols, grown_length, some_levels, latest_symbols, declared_symbols, pushed_symbols, popped_symbols, emptied_symbols}
use Rattle.pass_laws.proofs.ReadyNames.{given_first}

-- ---- names of symbols

pub unnamed : (fs : List Symbol) (n : Name) → ((g : Symbol) → is_among fs g ≡ true → g.name ≡ n → ⊥) → is_among_names (names_of fs) n ≡ false
unnamed [] n other = refl
unnamed (f ∷ fs) n other =
    or_false (bytes_eq n f.name) (is_among_names (names_of fs) n)
    (false_from_ne_true (bytes_eq n f.name) (λ e. other f (left_true (symbol_eq f f) (is_among fs f) (symbol_itself f)) (sym (name_same n f.name e))))
    (unnamed fs n (λ g among. other g (right_true (symbol_eq f g) (is_among fs g) among)))

pub named : (fs : List Symbol) (g : Symbol) → is_among fs g ≡ true → (n : Name) → g.name ≡ n → is_among_names (names_of fs) n ≡ false → ⊥
named [] g among n same missing = absurd cc
named (f ∷ fs) g among n same missing =
    let parts = both_false (bytes_eq n f.name) (is_among_names (names_of fs) n) missing in
    elim (among_either (f ∷ []) fs g among) [
      | inl here ↦ contrary {A = ⊥} (bytes_eq n f.name) (subst (λ m. bytes_eq n m ≡ true) (sym same ∙ sym (ap (λ (h : Symbol). h.name) (among_one f g here))) (name_itself n)) parts.0
      | inr there ↦ named fs g there n same parts.1
    ]

-- no two symbols have one name, and one more of another name
apart_more : (fs : List Symbol) (f : Symbol) → Apart fs → ((g : Symbol) → is_among fs g ≡ true → g.name ≡ f.name → ⊥) → Apart (fs ++ f ∷ [])
apart_more fs f apart other g h first second same = go (among_either fs (f ∷ []) g first) (among_either fs (f ∷ []) h second)
  where
    go : (is_among fs g ≡ true) ⊎ (is_among (f ∷ []) g ≡ true) → (is_among fs h ≡ true) ⊎ (is_among (f ∷ []) h ≡ true) → g ≡ h
    go (inl k) (inl l) = apart g h k l same
    go (inl k) (inr l) = absurd (other g k (same ∙ sym (ap (λ (j : Symbol). j.name) (among_one f h l))))
    go (inr k) (inl l) = absurd (other h l (sym same ∙ sym (ap (λ (j : Symbol). j.name) (among_one f g k))))
    go (inr k) (inr l) = sym (among_one f g k) ∙ among_one f h l

-- ---- states

-- the same levels but for new symbols, where s was there first and q is left
pub record Grown (s q : Supply) (a b : State Term) : Type 0 where
  pub levels : GrownLevels s a.levels b.levels
  pub global : a.global ≡ b.global
  pub gone : (f : Symbol) → is_among (symbols_of_state b) f ≡ true → NeverGives q f.name
  pub apart : Apart (symbols_of_state b)

pub start_grown : (s : Supply) → Grown s s start start
start_grown s = record { levels = one_level_grown s; global = refl; gone = λ f among. absurd cc; apart = λ g h among. absurd cc }

module _ (s q : Supply) (a b : State Term) (g : Grown s q a b) where
  pub same_sorts : sorts_of_state a ≡ sorts_of_state b
  same_sorts = grown_sorts s a.levels b.levels g.levels

  pub more_symbols : More s (symbols_of_state a) (symbols_of_state b)
  more_symbols = grown_symbols s a.levels b.levels g.levels

  pub later_grown : (r : Supply) → Later q r → Grown s r a b
  later_grown r later = record { levels = g.levels; global = g.global; gone = λ f among. later f.name (g.gone f among); apart = g.apart }

  -- the second state has no more symbols
  still_grown : (c d : State Term) → GrownLevels s c.levels d.levels → c.global ≡ d.global → ((f : Symbol) → is_among (symbols_of_state d) f ≡ true → is_among (symbols_of_state b) f ≡ true) → Grown s q c d
  still_grown c d levels global fewer = record {
    levels = levels;
    global = global;
    gone = λ f among. g.gone f (fewer f among);
    apart = λ f h first second same. g.apart f h (fewer f first) (fewer h second) same;
  }

  -- it has one more, of another name
  one_more : (c d : State Term) (f : Symbol) → GrownLevels s c.levels d.levels → c.global ≡ d.global → symbols_of_state d ≡ symbols_of_state b ++ f ∷ [] → NeverGives q f.name → ((h : Symbol) → is_among (symbols_of_state b) h ≡ true → h.name ≡ f.name → ⊥) → Grown s q c d
  one_more c d f levels global all never other = record {
    levels = levels;
    global = global;
    gone = λ h among. told h (among_either (symbols_of_state b) (f ∷ []) h (ap (λ fs. is_among fs h) (sym all) ∙ among));
    apart = subst Apart (sym all) (apart_more (symbols_of_state b) f g.apart other);
  }
    where
      told : (h : Symbol) → (is_among (symbols_of_state b) h ≡ true) ⊎ (is_among (f ∷ []) h ≡ true) → NeverGives q h.name
      told h (inl old) = g.gone h old
      told h (inr new) = subst (λ (k : Symbol). NeverGives q k.name) (among_one f h new) never

  -- an assertion in either state
  pub asserted_behind : (i : ℕ) (t : Term) → Grown s q a (after (assert i t) b)
  asserted_behind i t = still_grown a (after (assert i t) b) (second_grown s (with_assertion t) (assertion_grown s t) a.levels b.levels g.levels) g.global (λ f among. ap (λ fs. is_among fs f) (sym (latest_symbols (with_assertion t) (λ l. refl) b.levels)) ∙ among)

  pub asserted_before : (i : ℕ) (t : Term) → Grown s q (after (assert i t) a) b
  asserted_before i t = still_grown (after (assert i t) a) b (first_grown s (with_assertion t) (assertion_before s t) a.levels b.levels g.levels) g.global (λ f among. among)

  -- a new symbol in the second
  pub declared_behind : (f : Symbol) → IsNew s f → NeverGives q f.name → ((h : Symbol) → is_among (symbols_of_state b) h ≡ true → h.name ≡ f.name → ⊥) → Grown s q a (after (declare f) b)
  declared_behind f new never other = one_more a (after (declare f) b) f (second_grown s (with_symbol f) (new_symbol_grown s f new) a.levels b.levels g.levels) g.global (declared_symbols f b.levels) never other

  -- ---- symbols and literals of commands that stay

  -- an old symbol that is new in the first state is so in the second
  other_names : (f : Symbol) → NeverGives s f.name → is_among_names (names_of (symbols_of_state a)) f.name ≡ false → (h : Symbol) → is_among (symbols_of_state b) h ≡ true → h.name ≡ f.name → ⊥
  other_names f never missing h among same = go (more_symbols.comes h among)
    where
      go : (is_among (symbols_of_state a) h ≡ true) ⊎ IsNew s h → ⊥
      go (inl old) = named (symbols_of_state a) h old f.name same missing
      go (inr new) = new (subst (NeverGives s) (sym same) never)

  new_name : (f : Symbol) → is_new_symbol a f ≡ true → is_among_names (names_of (symbols_of_state a)) f.name ≡ false
  new_name f h =
      let parts = both_true (is_usable f.name) (not (is_among_names (names_of (symbols_of_state a)) f.name) && list_all (λ to. is_sort to && sort_is_live (sorts_of_state a) to) (f.result ∷ f.args)) h in
      not_true (is_among_names (names_of (symbols_of_state a)) f.name) (both_true (not (is_among_names (names_of (symbols_of_state a)) f.name)) (list_all (λ to. is_sort to && sort_is_live (sorts_of_state a) to) (f.result ∷ f.args)) parts.1).0

  new_there : (f : Symbol) → NeverGives s f.name → is_new_symbol a f ≡ true → is_new_symbol b f ≡ true
  new_there f never h =
      let parts = both_true (is_usable f.name) (not (is_among_names (names_of (symbols_of_state a)) f.name) && list_all (λ to. is_sort to && sort_is_live (sorts_of_state a) to) (f.result ∷ f.args)) h in
      let rest = both_true (not (is_among_names (names_of (symbols_of_state a)) f.name)) (list_all (λ to. is_sort to && sort_is_live (sorts_of_state a) to) (f.result ∷ f.args)) parts.1 in
      and_true (is_usable f.name) (not (is_among_names (names_of (symbols_of_state b)) f.name) && list_all (λ to. is_sort to && sort_is_live (sorts_of_state b) to) (f.result ∷ f.args)) parts.0
      (and_true (not (is_among_names (names_of (symbols_of_state b)) f.name)) (list_all (λ to. is_sort to && sort_is_live (sorts_of_state b) to) (f.result ∷ f.args))
      (ap not (unnamed (symbols_of_state b) f.name (other_names f never (new_name f h))))
      (ap (λ ns. list_all (λ to. is_sort to && sort_is_live ns to) (f.result ∷ f.args)) (sym same_sorts) ∙ rest.1))

  constant_there : (t : Term) → is_live_constant a t ≡ true → is_live_constant b t ≡ true
  constant_there (apply (symbol f) none) h =
      let parts = both_true (is_bool f.result) (length f.args == 0 && is_among (symbols_of_state a) f) h in
      let rest = both_true (length f.args == 0) (is_among (symbols_of_state a) f) parts.1 in
      and_true (is_bool f.result) (length f.args == 0 && is_among (symbols_of_state b) f) parts.0
      (and_true (length f.args == 0) (is_among (symbols_of_state b) f) rest.0 (more_symbols.stays f rest.1))
  constant_there t h = absurd cc

  literal_there : (t : Term) → is_live_literal a t ≡ true → is_live_literal b t ≡ true
  literal_there (apply (op Not) (t ⨾ none)) h = constant_there t h
  literal_there t h = constant_there t h

  literals_there : (ts : List Term) → list_all (is_live_literal a) ts ≡ true → list_all (is_live_literal b) ts ≡ true
  literals_there [] h = refl
  literals_there (t ∷ ts) h =
      let parts = both_true (is_live_literal a t) (list_all (is_live_literal a) ts) h in
      and_true (is_live_literal b t) (list_all (is_live_literal b) ts) (literal_there t parts.0) (literals_there ts parts.1)

-- ---- commands that stay

-- all but assertions
abbrev pub Stays : Command Term → Type 0
Stays (assert i t) = ⊥
Stays _ = Unit {0}

module _ (s q : Supply) (a b : State Term) (g : Grown s q a b) where
  levels_alike : open_levels a ≡ open_levels b
  levels_alike = ap (λ n. n - 1) (grown_length s a.levels b.levels g.levels)

  pub may_stay : (begun : Bool) (c : Command Term) → Stays c → GivesNone s (names_in_command c) → may_stand begun a c ≡ true → may_stand begun b c ≡ true
  may_stay begun (passed text) stays names h = h
  may_stay begun (declare_sort n) stays names h = ap (λ ns. is_writable n && (not (is_reserved_for_sorts n) && not (is_among_names ns n))) (sym (same_sorts s q a b g)) ∙ h
  may_stay begun (declare f) stays names h = new_there s q a b g f (given_first s f.name [] names) h
  may_stay begun (assert i t) stays names h = absurd stays
  may_stay begun check stays names h = h
  may_stay begun (check_assuming ls) stays names h = literals_there s q a b g ls h
  may_stay begun (push n) stays names h = ap (λ k. nat_le n most_levels && nat_le (k + n) most_levels) (sym levels_alike) ∙ h
  may_stay begun (pop n) stays names h = ap (λ k. nat_le n most_levels && nat_le n k) (sym levels_alike) ∙ h
  may_stay begun reset stays names h = h
  may_stay begun reset_assertions stays names h = h
  may_stay begun (globals b) stays names h = h
  may_stay begun exit stays names h = h

  few_enough : (n : ℕ) → (nat_le n most_levels && nat_le n (open_levels a)) ≡ true → n < length a.levels
  few_enough n h =
      let few : n ≤ length a.levels - 1 = leb-true n (open_levels a) (both_true (nat_le n most_levels) (nat_le n (open_levels a)) h).1 in
      let some : 0 < length a.levels = some_levels s a.levels b.levels g.levels in
      omega arith

  popped_state : (n : ℕ) → n < length a.levels → GrownLevels s (levels_popped a.global n a.levels) (levels_popped b.global n b.levels)
  popped_state n few = subst (λ x. GrownLevels s (levels_popped a.global n a.levels) (levels_popped x n b.levels)) g.global (popped_grown s a.global n a.levels b.levels g.levels few)

  emptied_state : GrownLevels s (levels_emptied a.global a.levels) (levels_emptied b.global b.levels)
  emptied_state = subst (λ x. GrownLevels s (levels_emptied a.global a.levels) (levels_emptied x b.levels)) g.global (emptied_grown s a.global a.levels b.levels g.levels)

  pub after_stays : (begun : Bool) (c : Command Term) → Stays c → Later s q → GivesNone s (names_in_command c) → may_stand begun a c ≡ true → Grown s q (after c a) (after c b)
  after_stays begun (passed text) stays later names h = g
  after_stays begun (declare_sort n) stays later names h =
      still_grown s q a b g (after (declare_sort n) a) (after (declare_sort n) b) (latest_grown s (with_sort n) (with_sort n) (sort_grown s n) a.levels b.levels g.levels) g.global
      (λ f among. ap (λ fs. is_among fs f) (sym (latest_symbols (with_sort n) (λ l. refl) b.levels)) ∙ among)
  after_stays begun (declare f) stays later names h =
      let never : NeverGives s f.name = given_first s f.name [] names in
      one_more s q a b g (after (declare f) a) (after (declare f) b) f (latest_grown s (with_symbol f) (with_symbol f) (symbol_grown s f) a.levels b.levels g.levels) g.global
      (declared_symbols f b.levels) (later f.name never) (other_names s q a b g f never (new_name s q a b g f h))
  after_stays begun (assert i t) stays later names h = absurd stays
  after_stays begun check stays later names h = g
  after_stays begun (check_assuming ls) stays later names h = g
  after_stays begun (push n) stays later names h =
      still_grown s q a b g (after (push n) a) (after (push n) b) (pushed_grown s n a.levels b.levels g.levels) g.global (λ f among. ap (λ fs. is_among fs f) (sym (pushed_symbols n b.levels)) ∙ among)
  after_stays begun (pop n) stays later names h =
      still_grown s q a b g (after (pop n) a) (after (pop n) b) (popped_state n (few_enough n h)) g.global (popped_symbols b.global n b.levels)
  after_stays begun reset stays later names h =
      still_grown s q a b g start start (one_level_grown s) refl (λ f among. absurd cc)
  after_stays begun reset_assertions stays later names h =
      still_grown s q a b g (after reset_assertions a) (after reset_assertions b) emptied_state g.global (emptied_symbols b.global b.levels)
  after_stays begun (globals x) stays later names h = still_grown s q a b g (after (globals x) a) (after (globals x) b) g.levels refl (λ f among. among)
  after_stays begun exit stays later names h = g
