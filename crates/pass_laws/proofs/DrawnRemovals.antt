-- The constants of removals: each is drawn once, and has the sort of its application.
use Rattle.std.proofs.Common.{◌≡◌, sym, refl, subst, ◌≤◌, false, List, [], ◌∷◌, count_by, All, arith}
use Rattle.std.proofs.lemmas.List.Elements.{All-nil, All-cons}
use Rattle.smt_terms.specs.Equal.{symbol_eq}
use Rattle.smt_terms.specs.Fresh.{Supply}
use Rattle.smt_terms.specs.Rank.{sort_of}
use Rattle.smt_terms.specs.Sorts.{Symbol}
use Rattle.smt_terms.specs.Term.{Term}
use Rattle.smt_terms.specs.Free.{is_among}
use Rattle.term_groups.specs.Drawing.{ConstantsAreNew}
use Rattle.term_groups.specs.Grouping.{symbols_of}
use Rattle.term_table.specs.Formulas.{sort_or_bool}
use Rattle.ackermann.specs.Ackermann.{applications, without_constant}
use Rattle.script_read.specs.Commands.{Command, declare, assert, pop, State, after, live_in}
use Rattle.pass_laws.specs.Laws.{HaveSorts}
use Rattle.pass_laws.specs.LiveGroups.{drawn_of, all_told, all_drawn}
use Rattle.pass_laws.specs.Passed.{Replacement}
use Rattle.pass_laws.proofs.DrawnSymbols.{pairs_in, drawn_are, AreDrawn, once_of_both}
use Rattle.pass_laws.proofs.DrawnSorts.{drawn_sorts}
use Rattle.pass_laws.proofs.RemovalChains.{acked_drawn}
use Rattle.pass_laws.proofs.RemovalDrawn.{none_drawn}
use Rattle.pass_laws.proofs.RemovalLinks.{pairs_of, IsAcked}
use Rattle.pass_laws.proofs.RemovalStates.{AreAcked}
use Rattle.pass_laws.proofs.ToldCommands.{told_declared}

abbrev HasSort : Symbol × Term → Type 0
HasSort n = n.0.result ≡ sort_or_bool (sort_of n.1)

module _ (law : ConstantsAreNew) (s : Supply) where
  pub acked_once : (rs : List (Command Replacement)) (st : State Replacement) (p r : Supply) → AreAcked s rs st p r → (f : Symbol) → count_by (symbol_eq f) (symbols_of (pairs_in rs)) ≤ 1
  acked_once [] st p r is f = let none : count_by (symbol_eq f) [] ≡ 0 = refl in omega (arith, none)
  acked_once (assert i x ∷ rs) st p r is f =
      let here : AreDrawn x.group.symbols p is.1.0 = acked_drawn law (pairs_of (live_in st)) x p is.1.0 is.1.1.0 in
      once_of_both x.group.symbols (pairs_in rs) f (here.once f) (acked_once rs (after (assert i x) st) is.1.0 r is.1.1.1 f)
      (λ among. subst (λ fs. is_among fs f ≡ false) (drawn_are rs) (none_drawn law s rs (after (assert i x) st) is.1.0 r is.1.1.1 f (here.gone f among)))
  acked_once (pop n ∷ rs) st p r is f = acked_once rs (after (pop n) st) p r is.1 f
  acked_once (c ∷ rs) st p r is f = acked_once rs (after c st) p r is f

  pub acked_sorts : (rs : List (Command Replacement)) (st : State Replacement) (p r : Supply) → AreAcked s rs st p r → All HaveSorts (all_drawn (all_told rs))
  acked_sorts [] st p r is = All-nil HaveSorts
  acked_sorts (declare f ∷ rs) st p r is =
      let rest : All HaveSorts (all_drawn (all_told rs)) = acked_sorts rs (after (declare f) st) p r is in
      told_declared (λ cs. All HaveSorts (all_drawn cs)) f (all_told rs) rest rest
  acked_sorts (assert i x ∷ rs) st p r is =
      let here : IsAcked (pairs_of (live_in st)) x p is.1.0 = is.1.1.0 in
      All-cons HaveSorts (drawn_of x) (all_drawn (all_told rs))
      (subst (All HasSort) (sym here.symbols) (drawn_sorts (without_constant (pairs_of (live_in st)) (applications x.term)) p))
      (acked_sorts rs (after (assert i x) st) is.1.0 r is.1.1.1)
  acked_sorts (pop n ∷ rs) st p r is = acked_sorts rs (after (pop n) st) p r is.1
  acked_sorts (c ∷ rs) st p r is = acked_sorts rs (after c st) p r is
