-- Which assertion a list of passes refuses, pass by pass: stored rules refuse none, and no pass that does stands behind them.
use Rattle.std.proofs.Common.{◌≡◌, ◌∙◌, ap, sym, refl, subst, ℕ, ◌+◌, true, false, ◌⊎◌, inl, inr, List, [], ◌∷◌, ◌++◌, take, drop, slice_get, Option, Some, None}
use Rattle.std.specs.Prelude.{Result, Err, MatchResult}
use Rattle.std.proofs.lemmas.List.{take-append-drop}
use Rattle.smt_terms.specs.Fresh.{Supply}
use Rattle.smt_terms.specs.Sorts.{Name}
use Rattle.smt_terms.specs.Term.{Term}
use Rattle.smt_terms.proofs.Tests.{true_or_false}
use Rattle.script_read.specs.Commands.{Command}
use Rattle.pass_laws.specs.declared.names.Pass.{Pass}
use Rattle.pass_laws.specs.declared.names.Pass.TheVariants.{Simplify, Nnf, Aig, Prenex, Reads, Shannon, SelfSub, Rules, Ite, Cnf, Ackermann}
use Rattle.passes.specs.declared.running.PassFault.{PassFault}
use Rattle.passes.specs.declared.running.PassFault.TheVariants.{QuantifiedUse}
use Rattle.pass_laws.specs.Lists.{makes_groups, groups_after_rules}
use Rattle.pass_laws.specs.Passed.{apply_pass, passed, or_later, refused_by, refused_assertion}
use Rattle.pass_laws.proofs.CarriedLists.{no_rules_before}
use Rattle.passes.proofs.GroupingSteps.{taken_more}
use Rattle.passes.proofs.PassAfterPass.{first_in_order, IsBehind}
use Rattle.passes.proofs.RefusedCommands.{first_left}

later_grouped : (a b c : Option ℕ) → or_later a (or_later b c) ≡ or_later (or_later a b) c
later_grouped None b c = refl
later_grouped (Some n) b c = refl

refused-both : (ps qs : List Pass) (cs : List (Command Term)) (s : Supply) → refused_assertion (ps ++ qs) cs s ≡ or_later (refused_assertion ps cs s) (refused_assertion qs (passed ps cs s).0 (passed ps cs s).1)
refused-both [] qs cs s = refl
refused-both (p ∷ ps) qs cs s =
    let r : List (Command Term) × Supply = apply_pass p cs s in
    ap (or_later (refused_by p cs)) (refused-both ps qs r.0 r.1)
    ∙ later_grouped (refused_by p cs) (refused_assertion ps r.0 r.1) (refused_assertion qs (passed ps r.0 r.1).0 (passed ps r.0 r.1).1)

-- a pass that makes no groups refuses nothing
refuses_none : (p : Pass) (cs : List (Command Term)) → makes_groups p ≡ false → refused_by p cs ≡ None
refuses_none Simplify cs other = refl
refuses_none Nnf cs other = refl
refuses_none Aig cs other = refl
refuses_none Prenex cs other = refl
refuses_none Reads cs other = refl
refuses_none Shannon cs other = refl
refuses_none SelfSub cs other = refl
refuses_none Rules cs other = refl
refuses_none Ite cs other = refl
refuses_none Cnf cs other = refl
refuses_none Ackermann cs other = absurd cc

module _ (ps : List Pass) (cs : List (Command Term)) (s : Supply) (rules : List Name) (i : ℕ) (p : Pass) (ds : List (Command Term)) (r : Supply)
    (at : slice_get ps i ≡ Some p) (order : groups_after_rules ps ≡ false) (is : IsBehind ps cs s rules i ds r) where
  in_order : groups_after_rules (take i ps ++ p ∷ []) ≡ false
  in_order = subst (λ qs. groups_after_rules qs ≡ false) (taken_more ps i p at) (first_in_order (i + 1) ps order)

  refused-there : refused_by p (passed (take i ps) cs s).0 ≡ refused_by p ds
  refused-there = go (true_or_false (makes_groups p))
    where
      go : (makes_groups p ≡ true) ⊎ (makes_groups p ≡ false) → refused_by p (passed (take i ps) cs s).0 ≡ refused_by p ds
      go (inl makes) = ap (λ made. refused_by p made.0) (sym (is.reached (no_rules_before (take i ps) p in_order makes)))
      go (inr other) = refuses_none p (passed (take i ps) cs s).0 other ∙ sym (refuses_none p ds other)

  module _ (before : refused_assertion (take i ps) cs s ≡ None) where
    -- none so far
    pub none-refused : refused_by p ds ≡ None → refused_assertion (take (i + 1) ps) cs s ≡ None
    none-refused here =
        ap (λ qs. refused_assertion qs cs s) (taken_more ps i p at) ∙ refused-both (take i ps) (p ∷ []) cs s
        ∙ (λ j. or_later (before j) (or_later ((refused-there ∙ here) j) None))

    -- the first refusal
    pub now-refused : (a : ℕ) → refused_by p ds ≡ Some a → refused_assertion ps cs s ≡ Some a
    now-refused a here =
        let rest : List Pass = drop (i + 1) ps in
        let made : List (Command Term) × Supply = apply_pass p (passed (take i ps) cs s).0 (passed (take i ps) cs s).1 in
        ap (λ qs. refused_assertion qs cs s) (sym (take-append-drop i ps) ∙ ap (λ qs. take i ps ++ qs) (first_left ps i p at))
        ∙ refused-both (take i ps) (p ∷ rest) cs s
        ∙ (λ j. or_later (before j) (or_later ((refused-there ∙ here) j) (refused_assertion rest made.0 made.1)))

-- a refusal that is handed on
pub handed-on : {T : Type 0} (r : Result T PassFault) (e d : PassFault) (o : Option ℕ) → r ≡ Err e → e ≡ d → ((a : ℕ) → d ≡ QuantifiedUse a → o ≡ Some a)
    → MatchResult r (λ _. o ≡ None) (λ x. (a : ℕ) → x ≡ QuantifiedUse a → o ≡ Some a)
handed-on r e d o is same why = subst (λ q. MatchResult q (λ _. o ≡ None) (λ x. (a : ℕ) → x ≡ QuantifiedUse a → o ≡ Some a)) (sym is) (λ a here. why a (sym same ∙ here))
