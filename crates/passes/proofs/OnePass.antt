-- One pass leads to commands that can be printed, and carries models between them and those before it.
use Rattle.std.proofs.Common.{◌≡◌, ◌∙◌, sym, ap, subst, refl, not, ◌&&◌, true, false, true≢false, List, [], ◌∷◌, Result, Ok, Err, None}
use Rattle.std.specs.Prelude.{OnOk}
use Rattle.smt_terms.specs.Fresh.{Supply}
use Rattle.smt_terms.specs.Sorts.{Name}
use Rattle.smt_terms.specs.Term.{Term}
use Rattle.script_read.specs.Commands.{Command}
use Rattle.pass_laws.specs.declared.names.Pass.{Pass}
use Rattle.pass_laws.specs.declared.names.Pass.TheVariants.{Simplify, Nnf, Aig, Prenex, Reads, Shannon, SelfSub, Rules, Ite, Cnf, Ackermann}
use Rattle.pass_laws.specs.Behind.{Form, in_form}
use Rattle.pass_laws.specs.Carry.{back_over, forth_over}
use Rattle.pass_laws.specs.Groups.{making, in_groups}
use Rattle.pass_laws.specs.Laws.{keeps_values, puts_groups, IsReady, IsModelOf, CarriesModels, CarriesSignatures, KeepsCommands, PassKeepsCommands, RulesKeepCommands, EquivalentsHaveOneModel, PassesLeaveModels, PutsGroups, GroupsCarryModels, RemovalsCarryModels, IsCarried}
use Rattle.pass_laws.specs.Led.{EachMayBecome, LeadsTo}
use Rattle.pass_laws.specs.Lists.{makes_groups}
use Rattle.pass_laws.specs.Passed.{apply_pass, refused_by}
use Rattle.pass_laws.specs.Ruling.{RewritesCommands}
use Rattle.pass_laws.proofs.GroupPasses.{applied-group}
use Rattle.pass_laws.proofs.InForm.{IsForm, asks_rules, applied}
use Rattle.pass_laws.proofs.ModelsCarried.{IsOver, one_signature}

-- the pass leads from these commands to those, and carries models from the ones to the others
pub record IsLed (p : Pass) (cs : List (Command Term)) (s : Supply) (rules : List Name) (ds : List (Command Term)) (r : Supply) : Type 0 where
  pub leads : LeadsTo (p ∷ []) cs s rules ds r
  pub carried : IsCarried p cs ds s r

leads_itself : (p : Pass) (cs : List (Command Term)) (s : Supply) (rules : List Name) (ds : List (Command Term)) (r : Supply) → asks_rules p ≡ false
    → ds ≡ (apply_pass p cs s).0 → r ≡ (apply_pass p cs s).1 → LeadsTo (p ∷ []) cs s rules ds r
leads_itself Rules cs s rules ds r not_so commands left = absurd (true≢false not_so)
leads_itself p cs s rules ds r not_so commands left = (commands, left)

carried_kept : EquivalentsHaveOneModel → PassesLeaveModels → (p : Pass) (cs ds : List (Command Term)) (s r : Supply) → keeps_values p ≡ true → IsReady cs s
    → KeepsCommands cs (ds, r) → IsCarried p cs ds s r
carried_kept one_model leave p cs ds s r is ready kept =
    let all : (keeps_values p && true) ≡ true = ap (λ b. b && true) is in
    let carries : CarriesModels cs ds (λ k m. m) (λ k m. m) = one_model cs ds s ready kept.equivalent in
    let alike : CarriesSignatures cs ds (λ k m. m) (λ k m. m) = one_signature cs ds kept.equivalent in
    record {
      ready = kept.ready;
      equivalent = λ none. kept.equivalent;
      models = record {
        kinds = carries.kinds;
        back = λ k m of_second. subst (IsModelOf cs k) (sym (leave (p ∷ []) cs s all k m).0) (carries.back k m of_second);
        forth = λ k m of_first. subst (IsModelOf ds k) (sym (leave (p ∷ []) cs s all k m).1) (carries.forth k m of_first);
      };
      signatures = record {
        back = λ k m over. subst (IsOver cs k) (sym (leave (p ∷ []) cs s all k m).0) (alike.back k m over);
        forth = λ k m over. subst (IsOver ds k) (sym (leave (p ∷ []) cs s all k m).1) (alike.forth k m over);
      };
    }

-- ---- groups

pub record IsGroupPass (p : Pass) : Type 0 where
  pub itself : asks_rules p ≡ false
  pub makes : makes_groups p ≡ true

pub is_group_pass : (p : Pass) → puts_groups p ≡ true → IsGroupPass p
is_group_pass Ite is = record { itself = refl; makes = refl }
is_group_pass Cnf is = record { itself = refl; makes = refl }
is_group_pass Simplify is = absurd cc
is_group_pass Nnf is = absurd cc
is_group_pass Aig is = absurd cc
is_group_pass Prenex is = absurd cc
is_group_pass Reads is = absurd cc
is_group_pass Shannon is = absurd cc
is_group_pass SelfSub is = absurd cc
is_group_pass Rules is = absurd cc
is_group_pass Ackermann is = absurd cc

carried_groups : (p : Pass) (cs ds : List (Command Term)) (s r : Supply) → makes_groups p ≡ true → ds ≡ (apply_pass p cs s).0 → r ≡ (apply_pass p cs s).1
    → PutsGroups p cs s → IsCarried p cs ds s r
carried_groups p cs ds s r makes commands left puts = record {
  ready = subst (λ x. IsReady x r) (sym commands) (subst (IsReady (apply_pass p cs s).0) (sym left) puts.ready);
  equivalent = λ none. absurd (true≢false (sym none ∙ ap not makes));
  models = subst (λ x. CarriesModels cs x (back_over p cs s) (forth_over p cs s)) (sym commands) puts.models;
  signatures = subst (λ x. CarriesSignatures cs x (back_over p cs s) (forth_over p cs s)) (sym commands) puts.signatures;
}

-- ---- each pass

-- of what may have failed
pub both_ok : {T E A B P : Type 0} (r : Result T E) → (A → B → P) → OnOk r A → OnOk r B → OnOk r P
both_ok (Ok x) then a b = then a b
both_ok (Err e) then a b = tt

module _ (p : Pass) (cs : List (Command Term)) (s : Supply) (rules : List Name) (ready : IsReady cs s) where
  pub led_in_form : PassKeepsCommands → EquivalentsHaveOneModel → PassesLeaveModels → (q : Pass) (form : Form) → p ≡ q → IsForm q form → (ds : List (Command Term)) (r : Supply)
      → ds ≡ (in_form form cs s).0 → r ≡ (in_form form cs s).1 → IsLed p cs s rules ds r
  led_in_form law one_model leave q form e is ds r commands left =
      let same = ap (λ x. apply_pass x cs s) e ∙ applied q form is cs s in
      let made : ds ≡ (apply_pass p cs s).0 = commands ∙ sym (ap (λ x. x.0) same) in
      let kept : r ≡ (apply_pass p cs s).1 = left ∙ sym (ap (λ x. x.1) same) in
      let values : keeps_values p ≡ true = ap keeps_values e ∙ is.keeps in
      record {
        leads = leads_itself p cs s rules ds r (ap asks_rules e ∙ is.itself) made kept;
        carried =
            carried_kept one_model leave p cs ds s r values ready
            (subst (λ x. KeepsCommands cs (x, r)) (sym made) (subst (λ x. KeepsCommands cs ((apply_pass p cs s).0, x)) (sym kept) (law p cs s values ready)));
      }

  pub led_by_rules : RulesKeepCommands → EquivalentsHaveOneModel → PassesLeaveModels → p ≡ Rules → (ds : List (Command Term)) → RewritesCommands rules cs ds → IsLed p cs s rules ds s
  led_by_rules law one_model leave e ds rewrites =
      let kept : KeepsCommands cs (ds, s) × EachMayBecome rules cs ds = law rules cs ds s ready rewrites in
      record {
        leads = subst (λ x. LeadsTo (x ∷ []) cs s rules ds s) (sym e) (ds, (kept.1, (refl, refl)));
        carried = carried_kept one_model leave p cs ds s s (ap keeps_values e) ready kept.0;
      }

  pub led_by_removal : RemovalsCarryModels → p ≡ Ackermann → refused_by Ackermann cs ≡ None → (ds : List (Command Term)) (r : Supply)
      → ds ≡ (apply_pass Ackermann cs s).0 → r ≡ (apply_pass Ackermann cs s).1 → IsLed p cs s rules ds r
  led_by_removal law e taken ds r commands left =
      subst (λ q. IsLed q cs s rules ds r) (sym e) (record {
        leads = leads_itself Ackermann cs s rules ds r refl commands left;
        carried = carried_groups Ackermann cs ds s r refl commands left (law cs s ready taken);
      })

  pub led_in_groups : GroupsCarryModels → (q : Pass) → p ≡ q → puts_groups q ≡ true → (ds : List (Command Term)) (r : Supply)
      → ds ≡ (in_groups (making q) cs s).0 → r ≡ (in_groups (making q) cs s).1 → IsLed p cs s rules ds r
  led_in_groups law q e is ds r commands left =
      let same = ap (λ x. apply_pass x cs s) e ∙ applied-group q is cs s in
      let made : ds ≡ (apply_pass p cs s).0 = commands ∙ sym (ap (λ x. x.0) same) in
      let kept : r ≡ (apply_pass p cs s).1 = left ∙ sym (ap (λ x. x.1) same) in
      let puts : puts_groups p ≡ true = ap puts_groups e ∙ is in
      let group_pass : IsGroupPass p = is_group_pass p puts in
      record {
        leads = leads_itself p cs s rules ds r group_pass.itself made kept;
        carried = carried_groups p cs ds s r group_pass.makes made kept (law p cs s puts ready);
      }
