-- A pass more at the end of a list: what the list makes of commands, and how it carries models.
use Rattle.std.proofs.Common.{◌≡◌, ◌∙◌, sym, ap, refl, subst, ℕ, Bool, true, false, not, ◌&&◌, ◌⊎◌, inl, inr, List, [], ◌∷◌, ◌++◌}
use Rattle.std.specs.List.{list_any}
use Rattle.smt_terms.specs.Fresh.{Supply}
use Rattle.smt_terms.specs.Models.{Model}
use Rattle.smt_terms.specs.Term.{Term}
use Rattle.smt_terms.proofs.Tests.{both_false, or_false, not_true, true_or_false, contrary}
use Rattle.script_read.specs.Commands.{Command}
use Rattle.pass_laws.specs.declared.names.Pass.{Pass}
use Rattle.pass_laws.specs.declared.names.Pass.TheVariants.{Simplify, Nnf, Aig, Prenex, Reads, Shannon, SelfSub, Rules, Ite, Cnf, Ackermann}
use Rattle.pass_laws.specs.Carry.{back_over, back, forth_over, forth}
use Rattle.pass_laws.specs.Laws.{keeps_values, IsReady, AreEquivalent, IsModelOf, PassesLeaveModels, IsCarried, AreCarried}
use Rattle.pass_laws.specs.Lists.{makes_groups, groups_after_rules}
use Rattle.pass_laws.specs.Passed.{apply_pass, passed}
use Rattle.pass_laws.proofs.InForm.{asks_rules}
use Rattle.pass_laws.proofs.ModelsCarried.{IsOver}

-- ---- a list with one pass more

pub passed-more : (ps : List Pass) (p : Pass) (cs : List (Command Term)) (s : Supply) → passed (ps ++ p ∷ []) cs s ≡ apply_pass p (passed ps cs s).0 (passed ps cs s).1
passed-more [] p cs s = refl
passed-more (q ∷ ps) p cs s = passed-more ps p (apply_pass q cs s).0 (apply_pass q cs s).1

back_more : (ps : List Pass) (p : Pass) (cs : List (Command Term)) (s : Supply) (k : ℕ) (m : Model) → back (ps ++ p ∷ []) cs s k m ≡ back ps cs s k (back_over p (passed ps cs s).0 (passed ps cs s).1 k m)
back_more [] p cs s k m = refl
back_more (q ∷ ps) p cs s k m = ap (back_over q cs s k) (back_more ps p (apply_pass q cs s).0 (apply_pass q cs s).1 k m)

forth_more : (ps : List Pass) (p : Pass) (cs : List (Command Term)) (s : Supply) (k : ℕ) (m : Model) → forth (ps ++ p ∷ []) cs s k m ≡ forth_over p (passed ps cs s).0 (passed ps cs s).1 k (forth ps cs s k m)
forth_more [] p cs s k m = refl
forth_more (q ∷ ps) p cs s k m = forth_more ps p (apply_pass q cs s).0 (apply_pass q cs s).1 k (forth_over q cs s k m)

pub any_more : (test : Pass → Bool) (ps : List Pass) (p : Pass) → list_any test (ps ++ p ∷ []) ≡ false → (list_any test ps ≡ false) × (test p ≡ false)
any_more test [] p h = (refl, (both_false (test p) false h).0)
any_more test (q ∷ ps) p h =
    let here = both_false (test q) (list_any test (ps ++ p ∷ [])) h in
    let rest = any_more test ps p here.1 in
    (or_false (test q) (list_any test ps) here.0 rest.0, rest.1)

-- ---- which passes stand before one that makes groups

pub no_rules_before : (ps : List Pass) (p : Pass) → groups_after_rules (ps ++ p ∷ []) ≡ false → makes_groups p ≡ true → list_any asks_rules ps ≡ false
no_rules_before [] p in_order makes = refl
no_rules_before (Rules ∷ ps) p in_order makes = contrary (makes_groups p) makes (any_more makes_groups ps p in_order).1
no_rules_before (q ∷ ps) p in_order makes = no_rules_before ps p in_order makes

-- another one leaves models as they are
pub other_keeps : (p : Pass) → makes_groups p ≡ false → keeps_values p ≡ true
other_keeps Simplify other = refl
other_keeps Nnf other = refl
other_keeps Aig other = refl
other_keeps Prenex other = refl
other_keeps Reads other = refl
other_keeps Shannon other = refl
other_keeps SelfSub other = refl
other_keeps Rules other = refl
other_keeps Ite other = absurd cc
other_keeps Cnf other = absurd cc
other_keeps Ackermann other = absurd cc

-- ---- models over a pass

-- the pass carries models over these commands as over those
record CarriesAlike (p : Pass) (cs ds : List (Command Term)) (s r : Supply) : Type 0 where
  back : (k : ℕ) (m : Model) → back_over p cs s k m ≡ back_over p ds r k m
  forth : (k : ℕ) (m : Model) → forth_over p cs s k m ≡ forth_over p ds r k m

alike_kept : PassesLeaveModels → (p : Pass) (cs ds : List (Command Term)) (s r : Supply) → keeps_values p ≡ true → CarriesAlike p cs ds s r
alike_kept leave p cs ds s r keeps = record {
  back = λ k m. (leave (p ∷ []) cs s all k m).0 ∙ sym (leave (p ∷ []) ds r all k m).0;
  forth = λ k m. (leave (p ∷ []) cs s all k m).1 ∙ sym (leave (p ∷ []) ds r all k m).1;
}
  where
    all : (keeps_values p && true) ≡ true
    all = ap (λ b. b && true) keeps

alike_same : (p : Pass) (ds : List (Command Term)) (r : Supply) (made : List (Command Term) × Supply) → (ds, r) ≡ made → CarriesAlike p made.0 ds made.1 r
alike_same p ds r made same = record {
  back = λ k m. ap (λ q. back_over p q.0 q.1 k m) (sym same);
  forth = λ k m. ap (λ q. forth_over p q.0 q.1 k m) (sym same);
}

carries_alike : PassesLeaveModels → (ps : List Pass) (p : Pass) (cs ds : List (Command Term)) (s r : Supply) → groups_after_rules (ps ++ p ∷ []) ≡ false
    → (list_any asks_rules ps ≡ false → (ds, r) ≡ passed ps cs s) → CarriesAlike p (passed ps cs s).0 ds (passed ps cs s).1 r
carries_alike leave ps p cs ds s r in_order reached = go (true_or_false (makes_groups p))
  where
    go : (makes_groups p ≡ true) ⊎ (makes_groups p ≡ false) → CarriesAlike p (passed ps cs s).0 ds (passed ps cs s).1 r
    go (inl makes) = alike_same p ds r (passed ps cs s) (reached (no_rules_before ps p in_order makes))
    go (inr other) = alike_kept leave p (passed ps cs s).0 ds (passed ps cs s).1 r (other_keeps p other)

-- ---- lists

pub carried-none : (cs : List (Command Term)) (s : Supply) → IsReady cs s → AreEquivalent cs cs → AreCarried [] cs cs s s
carried-none cs s ready same = record {
  ready = ready;
  equivalent = λ none. same;
  models = record { kinds = refl; back = λ k m is. is; forth = λ k m is. is };
  signatures = record { back = λ k m over. over; forth = λ k m over. over };
}

pub carried-more : PassesLeaveModels → ((cs ds es : List (Command Term)) → AreEquivalent cs ds → AreEquivalent ds es → AreEquivalent cs es)
    → (ps : List Pass) (p : Pass) (cs ds es : List (Command Term)) (s r q : Supply)
    → groups_after_rules (ps ++ p ∷ []) ≡ false
    → (list_any asks_rules ps ≡ false → (ds, r) ≡ passed ps cs s)
    → AreCarried ps cs ds s r → IsCarried p ds es r q → AreCarried (ps ++ p ∷ []) cs es s q
carried-more leave then ps p cs ds es s r q in_order reached before last =
    let over : CarriesAlike p (passed ps cs s).0 ds (passed ps cs s).1 r = carries_alike leave ps p cs ds s r in_order reached in
    record {
      ready = last.ready;
      equivalent = λ none.
          let none_of = any_more makes_groups ps p (not_true (list_any makes_groups (ps ++ p ∷ [])) none) in
          then cs ds es (before.equivalent (ap not none_of.0)) (last.equivalent (ap not none_of.1));
      models = record {
        kinds = last.models.kinds ∙ before.models.kinds;
        back = λ k m is.
            subst (IsModelOf cs k) (sym (back_more ps p cs s k m ∙ ap (back ps cs s k) (over.back k m)))
            (before.models.back k (back_over p ds r k m) (last.models.back k m is));
        forth = λ k m is.
            subst (IsModelOf es k) (sym (forth_more ps p cs s k m ∙ over.forth k (forth ps cs s k m)))
            (last.models.forth k (forth ps cs s k m) (before.models.forth k m is));
      };
      signatures = record {
        back = λ k m is.
            subst (IsOver cs k) (sym (back_more ps p cs s k m ∙ ap (back ps cs s k) (over.back k m)))
            (before.signatures.back k (back_over p ds r k m) (last.signatures.back k m is));
        forth = λ k m is.
            subst (IsOver es k) (sym (forth_more ps p cs s k m ∙ over.forth k (forth ps cs s k m)))
            (last.signatures.forth k (forth ps cs s k m) (before.signatures.forth k m is));
      };
    }
