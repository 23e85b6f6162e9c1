-- What is declared behind a list of passes with stored rules is what the definition's commands declare: stored rules declare
-- nothing, and behind them no pass makes groups.
use Rattle.std.proofs.Common.{◌≡◌, ◌∙◌, sym, ap, refl, subst, ℕ, true, false, List, [], ◌∷◌, ◌++◌, map}
use Rattle.std.specs.Prelude.{flat_map}
use Rattle.std.specs.List.{list_all, list_any}
use Rattle.smt_terms.specs.Fresh.{Supply}
use Rattle.smt_terms.specs.Groups.{Group}
use Rattle.smt_terms.specs.Sorts.{Name, Symbol}
use Rattle.smt_terms.specs.Term.{Term}
use Rattle.smt_terms.proofs.Tests.{and_true, both_false, both_true}
use Rattle.ackermann.specs.Ackermann.{one_level}
use Rattle.script_read.specs.Commands.{Command, passed as passed_text, declare_sort, declare, assert, check, check_assuming, push, pop, reset, reset_assertions, globals, exit, signature}
use Rattle.smt_print.specs.Laws.{Each}
use Rattle.smt_print.proofs.LikePoints.{LikeCommand, like_passed, like_sort, like_symbol, like_assert, like_check, like_assuming, like_push, like_pop, like_reset, like_emptying, like_globals, like_exit, LikeCommands, alike}
use Rattle.pass_laws.specs.declared.names.Pass.{Pass}
use Rattle.pass_laws.specs.declared.names.Pass.TheVariants.{Simplify, Nnf, Aig, Prenex, Reads, Shannon, SelfSub, Rules, Ite, Cnf, Ackermann}
use Rattle.pass_laws.specs.Laws.{keeps_values, SignaturesLedTo}
use Rattle.pass_laws.specs.Led.{MayBecome, EachMayBecome, LeadsTo}
use Rattle.pass_laws.specs.Lists.{makes_groups, groups_after_rules}
use Rattle.pass_laws.specs.Passed.{Way, alone, in_place, Replacement, literal_kept, onward, replacements_from, group_commands, written, apply_pass, passed}
use Rattle.pass_laws.proofs.CarriedLists.{other_keeps}

-- ---- the same commands, whatever they assert

abbrev Any : Term → Term → Type 0
Any t u = Unit {0}

abbrev Like : List (Command Term) → List (Command Term) → Type 0
Like cs ds = LikeCommands Term Term Any cs ds

declared_alike : (cs ds : List (Command Term)) → Like cs ds → (k : ℕ) → signature ds k ≡ signature cs k
declared_alike cs ds like k = sym ((alike Term Term Any cs ds like).signatures k)

-- ---- stored rules

any_each : (ts : List Term) → Each Any ts ts
any_each [] = tt
any_each (t ∷ ts) = (tt, any_each ts)

itself : (c : Command Term) → LikeCommand Term Term Any c c
itself (passed_text text) = like_passed text text
itself (declare_sort n) = like_sort n
itself (declare f) = like_symbol f
itself (assert i t) = like_assert i i t t tt
itself check = like_check
itself (check_assuming ls) = like_assuming ls ls (any_each ls)
itself (push n) = like_push n
itself (pop n) = like_pop n
itself reset = like_reset
itself reset_assertions = like_emptying
itself (globals b) = like_globals b
itself exit = like_exit

may_become : (rules : List Name) (c d : Command Term) → MayBecome rules c d → LikeCommand Term Term Any c d
may_become rules (assert i t) d may = subst (LikeCommand Term Term Any (assert i t)) (sym may.1) (like_assert i i t may.0 tt)
may_become rules c d may = subst (LikeCommand Term Term Any c) (sym may) (itself c)

each_may_become : (rules : List Name) (cs ds : List (Command Term)) → EachMayBecome rules cs ds → Like cs ds
each_may_become rules [] [] may = tt
each_may_become rules [] (d ∷ ds) may = absurd may
each_may_become rules (c ∷ cs) [] may = absurd may
each_may_become rules (c ∷ cs) (d ∷ ds) may = (may_become rules c d may.0, each_may_become rules cs ds may.1)

-- ---- a pass that makes no groups

-- one assertion in the place of each
record IsPlain (p : Pass) : Type 0 where
  group : (t : Term) (w : Way) → (u : Term) × ((in_place p t w).0 ≡ alone u)
  declares : (f : Symbol) → written p (declare f) ≡ declare f ∷ []

plain : (p : Pass) → keeps_values p ≡ true → IsPlain p
plain Simplify is = record { group = λ t w. (_, refl); declares = λ f. refl }
plain Nnf is = record { group = λ t w. (_, refl); declares = λ f. refl }
plain Aig is = record { group = λ t w. (_, refl); declares = λ f. refl }
plain Prenex is = record { group = λ t w. (_, refl); declares = λ f. refl }
plain Reads is = record { group = λ t w. (_, refl); declares = λ f. refl }
plain Shannon is = record { group = λ t w. (_, refl); declares = λ f. refl }
plain SelfSub is = record { group = λ t w. (_, refl); declares = λ f. refl }
plain Rules is = record { group = λ t w. (_, refl); declares = λ f. refl }
plain Ite is = absurd cc
plain Cnf is = absurd cc
plain Ackermann is = absurd cc

literals_alike : (ls : List Term) → Each Any ls (map (λ (r : Replacement). r.term) (map literal_kept ls))
literals_alike [] = tt
literals_alike (l ∷ ls) = (tt, literals_alike ls)

module _ (p : Pass) (is : IsPlain p) where
  abbrev behind_pass : List (Command Term) → Way → List (Command Term)
  behind_pass cs w = flat_map (written p) (replacements_from p cs w).0

  like_pass : (cs : List (Command Term)) (w : Way) → Like cs (behind_pass cs w)
  like_pass [] w = tt
  like_pass (passed_text text ∷ cs) w = (like_passed text text, like_pass cs w)
  like_pass (declare_sort n ∷ cs) w = (like_sort n, like_pass cs w)
  like_pass (declare f ∷ cs) w = subst (λ ds. Like (declare f ∷ cs) (ds ++ behind_pass cs w)) (sym (is.declares f)) (like_symbol f, like_pass cs w)
  like_pass (assert i t ∷ cs) w =
      let g = is.group t w in
      subst (λ (e : Group). Like (assert i t ∷ cs) (group_commands i e ++ behind_pass cs (in_place p t w).1)) (sym g.1) (like_assert i i t g.0 tt, like_pass cs (in_place p t w).1)
  like_pass (check ∷ cs) w = (like_check, like_pass cs w)
  like_pass (check_assuming ls ∷ cs) w = (like_assuming ls (map (λ (r : Replacement). r.term) (map literal_kept ls)) (literals_alike ls), like_pass cs w)
  like_pass (push n ∷ cs) w = (like_push n, like_pass cs (onward (push n) w))
  like_pass (pop n ∷ cs) w = (like_pop n, like_pass cs (onward (pop n) w))
  like_pass (reset ∷ cs) w = (like_reset, like_pass cs (onward reset w))
  like_pass (reset_assertions ∷ cs) w = (like_emptying, like_pass cs (onward reset_assertions w))
  like_pass (globals b ∷ cs) w = (like_globals b, like_pass cs w)
  like_pass (exit ∷ cs) w = (like_exit, like_pass cs w)

pass_stays : (p : Pass) → keeps_values p ≡ true → (cs : List (Command Term)) (s : Supply) (k : ℕ) → signature (apply_pass p cs s).0 k ≡ signature cs k
pass_stays p keeps cs s k = declared_alike cs (apply_pass p cs s).0 (like_pass p (plain p keeps) cs (record { levels = one_level; names = s })) k

-- ---- lists of such passes

passes_stay : (ps : List Pass) → list_all keeps_values ps ≡ true → (cs : List (Command Term)) (s : Supply) (k : ℕ) → signature (passed ps cs s).0 k ≡ signature cs k
passes_stay [] all cs s k = refl
passes_stay (p ∷ ps) all cs s k =
    let parts = both_true (keeps_values p) (list_all keeps_values ps) all in
    passes_stay ps parts.1 (apply_pass p cs s).0 (apply_pass p cs s).1 k ∙ pass_stays p parts.0 cs s k

module _ (rules : List Name) (ds : List (Command Term)) (r : Supply) (k : ℕ) where
  led_stays : (ps : List Pass) → list_all keeps_values ps ≡ true → (cs : List (Command Term)) (s : Supply) → LeadsTo ps cs s rules ds r → signature ds k ≡ signature cs k
  led_stays [] all cs s leads = ap (λ es. signature es k) leads.0
  led_stays (Rules ∷ ps) all cs s leads =
      led_stays ps (both_true true (list_all keeps_values ps) all).1 leads.0 s leads.1.1 ∙ declared_alike cs leads.0 (each_may_become rules cs leads.0 leads.1.0) k
  led_stays (p ∷ ps) all cs s leads =
      let parts = both_true (keeps_values p) (list_all keeps_values ps) all in
      led_stays ps parts.1 (apply_pass p cs s).0 (apply_pass p cs s).1 leads ∙ pass_stays p parts.0 cs s k

-- ---- all lists

-- none of these makes groups
none_makes : (ps : List Pass) → list_any makes_groups ps ≡ false → list_all keeps_values ps ≡ true
none_makes [] none = refl
none_makes (p ∷ ps) none =
    let others = both_false (makes_groups p) (list_any makes_groups ps) none in
    and_true (keeps_values p) (list_all keeps_values ps) (other_keeps p others.0) (none_makes ps others.1)

led : (ps : List Pass) (cs : List (Command Term)) (s : Supply) (rules : List Name) (ds : List (Command Term)) (r : Supply) (k : ℕ) → groups_after_rules ps ≡ false → LeadsTo ps cs s rules ds r
    → signature ds k ≡ signature (passed ps cs s).0 k
led [] cs s rules ds r k order leads = ap (λ es. signature es k) leads.0
led (Rules ∷ ps) cs s rules ds r k order leads =
    let keeps : list_all keeps_values (Rules ∷ ps) ≡ true = none_makes (Rules ∷ ps) order in
    led_stays rules ds r k (Rules ∷ ps) keeps cs s leads ∙ sym (passes_stay (Rules ∷ ps) keeps cs s k)
led (p ∷ ps) cs s rules ds r k order leads = led ps (apply_pass p cs s).0 (apply_pass p cs s).1 rules ds r k order leads

pub signatures_led : SignaturesLedTo
signatures_led ps cs s rules ds r k ready order leads = led ps cs s rules ds r k order leads
