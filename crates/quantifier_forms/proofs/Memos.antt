-- Results are kept and found by the numbers of versions and nodes.
use Rattle.std.proofs.Common.{◌≡◌, ℕ, ◌==◌, ◌&&◌, Bool, true, false, cond, if◌then◌else◌, [], ◌∷◌, Option, Some, refl, ap, sym, ◌∙◌, subst}
use Rattle.std.specs.Map.{lookup}
use Rattle.std.proofs.lemmas.Bool.Decides.{Decides-eqb}
use Rattle.smt_terms.specs.declared.ids.NodeId.{NodeId}
use Rattle.smt_terms.proofs.Tests.{both_true, and_true}
use Rattle.quantifier_forms.specs.declared.memo.Site.{Site}
use Rattle.quantifier_forms.specs.contracts.memo.SitePartialEq.TheImpl.{ghosts}
use Rattle.quantifier_forms.specs.Memos.{Results, result_in, Sets}

abbrev site : ℕ → NodeId → Site
site v k = record { version = v; node = k }

pub result-lookup : (ps : Results) (v : ℕ) (k : NodeId) → result_in ps v k ≡ lookup (ghosts.eq (site v k)) ps
result-lookup [] v k = refl
result-lookup (p ∷ ps) v k = by (result-lookup ps v k) ((v == p.0.version) && (k.0 == p.0.node.0))
  where
    by : result_in ps v k ≡ lookup (ghosts.eq (site v k)) ps → (b : Bool) → (if b then Some p.1 else result_in ps v k) ≡ cond {A = Option NodeId} b (Some p.1) (lookup (ghosts.eq (site v k)) ps)
    by rest true = refl
    by rest false = rest

-- after a look-up in the map of the kit
pub sets-from : (old new : Results) (v : ℕ) (k r : NodeId) → ((q : Site) → lookup (ghosts.eq q) new ≡ cond {A = Option NodeId} (ghosts.eq (site v k) q) (Some r) (lookup (ghosts.eq q) old)) → Sets old new v k r
sets-from old new v k r told = record {
  here = λ j same. result-lookup new v j ∙ told (site v j) ∙ ap (λ b. cond {A = Option NodeId} b (Some r) (lookup (ghosts.eq (site v j)) old)) (and_true (v == v) (k.0 == j.0) ((Decides-eqb v v).1 refl) ((Decides-eqb k.0 j.0).1 (sym same)));
  others = λ w j apart. result-lookup new w j ∙ told (site w j) ∙ by w j apart (ghosts.eq (site v k) (site w j)) refl;
}
  where
    by : (w : ℕ) (j : NodeId) → (w ≡ v → j.0 ≡ k.0 → ⊥) → (b : Bool) → ghosts.eq (site v k) (site w j) ≡ b → cond {A = Option NodeId} (ghosts.eq (site v k) (site w j)) (Some r) (lookup (ghosts.eq (site w j)) old) ≡ result_in old w j
    by w j apart true e =
        let parts = both_true (v == w) (k.0 == j.0) e in
        absurd (apart (sym ((Decides-eqb v w).0 parts.0)) (sym ((Decides-eqb k.0 j.0).0 parts.1)))
    by w j apart false e = ap (λ b. cond {A = Option NodeId} b (Some r) (lookup (ghosts.eq (site w j)) old)) e ∙ sym (result-lookup old w j)

-- what holds of the results that were there and of the new one
pub sets-each : (m0 m1 : Results) (v : ℕ) (k r : NodeId) (R : NodeId → NodeId → Type 0) → Sets m0 m1 v k r → ((j s : NodeId) → result_in m0 v j ≡ Some s → R j s) → R k r → (j s : NodeId) → result_in m1 v j ≡ Some s → R j s
sets-each m0 m1 v k r R sets before one j s e = by (j.0 == k.0) refl
  where
    by : (b : Bool) → (j.0 == k.0) ≡ b → R j s
    by true f =
        let number = (Decides-eqb j.0 k.0).0 f in
        let found : Some r ≡ Some s = sym (sets.here j number) ∙ e in
        let value : r ≡ s = cc in
        let key : k ≡ j = λ i. record { 0 = sym number i } in
        subst (λ (x : NodeId). R x s) key (subst (λ (x : NodeId). R k x) value one)
    by false f = before j s (sym (sets.others v j (λ w same. let yes : (j.0 == k.0) ≡ true = (Decides-eqb j.0 k.0).1 same in absurd cc)) ∙ e)
