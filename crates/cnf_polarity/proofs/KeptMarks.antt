-- Marks are kept and found by the numbers of nodes.
use Rattle.std.proofs.Common.{◌≡◌, ◌==◌, Bool, true, false, cond, if◌then◌else◌, [], ◌∷◌, Option, Some, refl, ap, sym, ◌∙◌}
use Rattle.std.specs.Prelude.{unwrap_or}
use Rattle.std.specs.Map.{lookup}
use Rattle.std.proofs.lemmas.Bool.Decides.{Decides-eqb}
use Rattle.smt_terms.specs.declared.ids.NodeId.{NodeId}
use Rattle.smt_terms.specs.contracts.ids.NodeIdPartialEq.TheImpl.{ghosts}
use Rattle.cnf_polarity.specs.declared.polarities.Polarities.{Polarities}
use Rattle.cnf_polarity.specs.Marks.{Marks, no_polarities, joined, mark_of, marked, AddsMark}

pub mark-lookup : (ms : Marks) (k : NodeId) → mark_of ms k ≡ lookup (ghosts.eq k) ms
mark-lookup [] k = refl
mark-lookup (m ∷ ms) k = by (mark-lookup ms k) (k.0 == m.0.0)
  where
    by : mark_of ms k ≡ lookup (ghosts.eq k) ms → (b : Bool) → (if b then Some m.1 else mark_of ms k) ≡ cond {A = Option Polarities} b (Some m.1) (lookup (ghosts.eq k) ms)
    by rest true = refl
    by rest false = rest

-- after a look-up in the map of the kit
pub adds-from : (old new : Marks) (k : NodeId) (p r : Polarities) → r ≡ joined (marked old k) p
    → ((j : NodeId) → lookup (ghosts.eq j) new ≡ cond {A = Option Polarities} (ghosts.eq k j) (Some r) (lookup (ghosts.eq j) old)) → AddsMark old new k p
adds-from old new k p r all told = record {
  here = λ j same.
      ap (λ o. unwrap_or o no_polarities) (mark-lookup new j ∙ told j ∙ ap (λ b. cond {A = Option Polarities} b (Some r) (lookup (ghosts.eq j) old)) ((Decides-eqb k.0 j.0).1 (sym same)))
      ∙ all ∙ ap (λ i. joined (marked old i) p) (node j same);
  others = λ j apart. ap (λ o. unwrap_or o no_polarities) (mark-lookup new j ∙ told j ∙ by j apart (ghosts.eq k j) refl);
}
  where
    node : (j : NodeId) → j.0 ≡ k.0 → k ≡ j
    node j same = λ i. record { 0 = sym same i }

    by : (j : NodeId) → (j.0 ≡ k.0 → ⊥) → (b : Bool) → ghosts.eq k j ≡ b → cond {A = Option Polarities} (ghosts.eq k j) (Some r) (lookup (ghosts.eq j) old) ≡ mark_of old j
    by j apart true e = absurd (apart (sym ((Decides-eqb k.0 j.0).0 e)))
    by j apart false e = ap (λ b. cond {A = Option Polarities} b (Some r) (lookup (ghosts.eq j) old)) e ∙ sym (mark-lookup old j)
