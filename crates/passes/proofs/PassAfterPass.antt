-- A list of passes goes from the first to the last.
use Rattle.std.proofs.Common.{◌≡◌, ◌∙◌, sym, ap, subst, ℕ, zero, suc, ◌+◌, ◌<◌, ◌≤◌, refl, Bool, false, true≢false, List, [], ◌∷◌, ◌++◌, take, drop, length, slice_get, Some, add-one}
use Rattle.std.specs.List.{list_any}
use Rattle.std.proofs.Math.Seq.{drop-cons}
use Rattle.std.proofs.lemmas.List.{drop_all, take_all, take_more}
use Rattle.std.proofs.lemmas.Option.{slice_get_within, get_or_from_slice_get}
use Rattle.smt_terms.specs.Fresh.{Supply}
use Rattle.smt_terms.specs.Sorts.{Name}
use Rattle.smt_terms.specs.Term.{Term}
use Rattle.smt_terms.proofs.Tests.{both_false, or_false}
use Rattle.script_read.specs.Commands.{Command}
use Rattle.pass_laws.specs.declared.names.Pass.{Pass}
use Rattle.pass_laws.specs.declared.names.Pass.TheVariants.{Rules}
use Rattle.pass_laws.specs.Laws.{IsReady, PassesLeaveModels, IsCarried, AreCarried}
use Rattle.pass_laws.specs.Led.{LeadsTo}
use Rattle.pass_laws.specs.Lists.{makes_groups, groups_after_rules}
use Rattle.pass_laws.specs.Passed.{apply_pass, passed}
use Rattle.pass_laws.proofs.CarriedLists.{any_more, carried-more, carried-none, passed-more}
use Rattle.pass_laws.proofs.InForm.{asks_rules}
use Rattle.pass_laws.proofs.Kept.{equivalent_itself, equivalent_then}

-- ---- one pass, and then others

module _ (ps : List Pass) (rules : List Name) (ds : List (Command Term)) (r : Supply) where
  leads_from : (cs es : List (Command Term)) (s q : Supply) → es ≡ cs → q ≡ s → LeadsTo ps es q rules ds r → LeadsTo ps cs s rules ds r
  leads_from cs es s q e f leads = subst (λ x. LeadsTo ps cs x rules ds r) f (subst (λ x. LeadsTo ps x q rules ds r) e leads)

  first_then : (p : Pass) (cs es : List (Command Term)) (s q : Supply) → LeadsTo (p ∷ []) cs s rules es q → LeadsTo ps es q rules ds r → LeadsTo (p ∷ ps) cs s rules ds r
  first_then Rules cs es s q first rest = (first.0, (first.1.0, leads_from first.0 es s q first.1.1.0 first.1.1.1 rest))
  first_then p cs es s q first rest = leads_from _ es _ q first.0 first.1 rest

-- a pass other than `rules` makes what it makes
led_itself : (p : Pass) (cs : List (Command Term)) (s : Supply) (rules : List Name) (ds : List (Command Term)) (r : Supply) → asks_rules p ≡ false
    → LeadsTo (p ∷ []) cs s rules ds r → (ds, r) ≡ apply_pass p cs s
led_itself Rules cs s rules ds r not_so leads = absurd (true≢false not_so)
led_itself p cs s rules ds r not_so leads = λ i. (leads.0 i, leads.1 i)

-- ---- the first passes of a list

none_of_first : (test : Pass → Bool) (i : ℕ) (ps : List Pass) → list_any test ps ≡ false → list_any test (take i ps) ≡ false
none_of_first test zero ps none = refl
none_of_first test (suc i) [] none = refl
none_of_first test (suc i) (p ∷ ps) none =
    let here = both_false (test p) (list_any test ps) none in
    or_false (test p) (list_any test (take i ps)) here.0 (none_of_first test i ps here.1)

pub first_in_order : (i : ℕ) (ps : List Pass) → groups_after_rules ps ≡ false → groups_after_rules (take i ps) ≡ false
first_in_order zero ps order = refl
first_in_order (suc i) [] order = refl
first_in_order (suc i) (Rules ∷ ps) order = none_of_first makes_groups i ps order
first_in_order (suc i) (p ∷ ps) order = first_in_order i ps order

module _ (ps : List Pass) (cs : List (Command Term)) (s : Supply) (rules : List Name) where
  -- the first i passes made these commands: whatever the passes behind them make of these, all of them may make of the first ones
  pub record IsBehind (i : ℕ) (ds : List (Command Term)) (r : Supply) : Type 0 where
    pub carried : AreCarried (take i ps) cs ds s r
    pub reached : list_any asks_rules (take i ps) ≡ false → (ds, r) ≡ passed (take i ps) cs s
    pub rest : (es : List (Command Term)) (q : Supply) → LeadsTo (drop i ps) ds r rules es q → LeadsTo ps cs s rules es q

  pub behind_none : IsReady cs s → IsBehind 0 cs s
  behind_none ready = record {
    carried = carried-none cs s ready (equivalent_itself cs s ready);
    reached = λ none. refl;
    rest = λ es q leads. leads;
  }

  module _ (i : ℕ) (p : Pass) (ds es : List (Command Term)) (r q : Supply) (at : slice_get ps i ≡ Some p) (is : IsBehind i ds r) (leads : LeadsTo (p ∷ []) ds r rules es q) where
    within : i < length ps
    within = slice_get_within ps i p at

    one_more : take (i + 1) ps ≡ take i ps ++ p ∷ []
    one_more = take_more ps i p within ∙ ap (λ x. take i ps ++ x ∷ []) (get_or_from_slice_get ps i p p at)

    next_first : drop i ps ≡ p ∷ drop (suc i) ps
    next_first = drop-cons ps i p within ∙ ap (λ x. x ∷ drop (suc i) ps) (get_or_from_slice_get ps i p p at)

    more_reached : list_any asks_rules (take i ps ++ p ∷ []) ≡ false → (es, q) ≡ passed (take i ps ++ p ∷ []) cs s
    more_reached none =
        let none_of = any_more asks_rules (take i ps) p none in
        led_itself p ds r rules es q none_of.1 leads ∙ ap (λ made. apply_pass p made.0 made.1) (is.reached none_of.0) ∙ sym (passed-more (take i ps) p cs s)

    more_carried : PassesLeaveModels → groups_after_rules ps ≡ false → IsCarried p ds es r q → AreCarried (take i ps ++ p ∷ []) cs es s q
    more_carried leave order last =
        carried-more leave equivalent_then (take i ps) p cs ds es s r q (subst (λ qs. groups_after_rules qs ≡ false) one_more (first_in_order (i + 1) ps order)) is.reached is.carried last

    pub behind_one : PassesLeaveModels → groups_after_rules ps ≡ false → IsCarried p ds es r q → IsBehind (i + 1) es q
    behind_one leave order last = record {
      carried = subst (λ qs. AreCarried qs cs es s q) (sym one_more) (more_carried leave order last);
      reached = subst (λ qs. list_any asks_rules qs ≡ false → (es, q) ≡ passed qs cs s) (sym one_more) more_reached;
      rest = λ fs o further.
          is.rest fs o (subst (λ qs. LeadsTo qs ds r rules fs o) (sym next_first)
          (first_then (drop (suc i) ps) rules fs o p ds es r q leads (subst (λ n. LeadsTo (drop n ps) es q rules fs o) (add-one i) further)));
    }

  module _ (i : ℕ) (ds : List (Command Term)) (r : Supply) (past : length ps ≤ i) (is : IsBehind i ds r) where
    pub all_lead : LeadsTo ps cs s rules ds r
    all_lead = is.rest ds r (subst (λ qs. LeadsTo qs ds r rules ds r) (sym (drop_all i ps past)) (refl, refl))

    pub all_carried : AreCarried ps cs ds s r
    all_carried = subst (λ qs. AreCarried qs cs ds s r) (take_all i ps past) is.carried
