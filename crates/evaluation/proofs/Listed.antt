-- What the operands of a term inherit holds of all that is listed below it, up to the quantifiers.
use Rattle.std.proofs.Common.{◌≡◌, ℕ, zero, suc, ◌<◌, ◌≤◌, inl, inr, Bool, true, false, not, cond, ◌||◌, List, [], ◌∷◌, ◌++◌, length, get_or, All, subst, arith}
use Rattle.std.specs.Prelude.{⊤}
use Rattle.std.proofs.lemmas.List.{get_or-map, length-map}
use Rattle.std.proofs.lemmas.List.Elements.{All-cons, All-append}
use Rattle.smt_terms.specs.declared.ids.NodeId.{NodeId}
use Rattle.smt_terms.specs.Groups.{has_term}
use Rattle.smt_terms.specs.Models.{Model}
use Rattle.smt_terms.specs.Term.{Head, Term, apply, quantified, Terms, none, ◌⨾◌, terms}
use Rattle.smt_terms.specs.Val.{Env, bits_bound, greatest_bound}
use Rattle.smt_terms.specs.Equal.{term_eq}
use Rattle.smt_terms.proofs.Tests.{either_true, left_true, right_true}
use Rattle.term_table.specs.Formulas.{Formulas, no_tree, tree, tree_in, trees_at}
use Rattle.term_walk.specs.Binders.{is_quantified}
use Rattle.quantifier_forms.specs.Listing.{listed, listed_each}
use Rattle.evaluation.specs.Evaluated.{breaks, any_breaks}
use Rattle.smt_terms.specs.Val.{val, value_in_range}
use Rattle.std.specs.Prelude.{◌&&◌}

abbrev pub opened : Term → Bool
opened u = not (is_quantified u)

module _ (skips : Term → Bool) (P : Term → Type 0) where
  abbrev pub Each : Terms → Type 0
  Each none = ⊤
  Each (u ⨾ us) = P u × Each us

  one : (u : Term) → P u → All P (u ∷ [])
  one u p = All-cons P u [] p (λ i d lt. absurd (omega arith))

  module _ (inherited : (h : Head) (us : Terms) → P (apply h us) → Each us) where
    last : (ts below : List Term) (u : Term) → All P ts → All P below → P u → (b c : Bool) → All P (cond b ts (cond c below ts ++ u ∷ []))
    last ts below u all under p true c = all
    last ts below u all under p false true = All-append P below (u ∷ []) under (one u p)
    last ts below u all under p false false = All-append P ts (u ∷ []) all (one u p)

    mutual
      pub listed-all : (t : Term) (ts : List Term) → P t → All P ts → All P (listed skips opened t ts)
      listed-all (apply h us) ts p all = last ts (listed_each skips opened us ts) (apply h us) all (each-all us ts (inherited h us p) all) p (skips (apply h us) || has_term ts (apply h us)) true
      listed-all (quantified q xs body) ts p all = last ts ts (quantified q xs body) all all p (skips (quantified q xs body) || has_term ts (quantified q xs body)) false

      each-all : (us : Terms) (ts : List Term) → Each us → All P ts → All P (listed_each skips opened us ts)
      each-all none ts e all = all
      each-all (u ⨾ us) ts e all = each-all us (listed skips opened u ts) e.1 (listed-all u ts e.0 all)

no-terms : (P : Term → Type 0) → All P []
no-terms P i d lt = absurd (omega arith)

-- ---- widths

narrow-each : (skips : Term → Bool) (n : ℕ) (us : Terms) → greatest_bound us ≤ n → Each skips (λ u. bits_bound u ≤ n) us
narrow-each skips n none le = tt
narrow-each skips n (u ⨾ us) le = (omega (arith, le), narrow-each skips n us (omega (arith, le)))

pub listed-narrow : (skips : Term → Bool) (t : Term) → All (λ u. bits_bound u ≤ bits_bound t) (listed skips opened t [])
listed-narrow skips t = listed-all skips (λ u. bits_bound u ≤ bits_bound t) (λ h us le. narrow-each skips (bits_bound t) us le) t [] (omega arith) (no-terms (λ u. bits_bound u ≤ bits_bound t))

-- ---- numbers outside the range

module _ (skips : Term → Bool) (m : Model) (e : Env) (v root : Term) where
  abbrev Leads : Term → Type 0
  Leads u = breaks m v u e ≡ true → breaks m v root e ≡ true

  leads-each : (us : Terms) → (any_breaks m v us e ≡ true → breaks m v root e ≡ true) → Each skips Leads us
  leads-each none f = tt
  leads-each (u ⨾ us) f = (λ b. f (left_true (breaks m v u e) (any_breaks m v us e) b), leads-each us (λ b. f (right_true (breaks m v u e) (any_breaks m v us e) b)))

  pub listed-leads : All Leads (listed skips opened root [])
  listed-leads = listed-all skips Leads (λ h us f. leads-each us (λ b. f (right_true (term_eq v (apply h us) && not (value_in_range (val m (apply h us) e))) (any_breaks m v us e) b))) root [] (λ b. b) (no-terms Leads)

  pub any-leads : (ts : List Term) → All Leads ts → any_breaks m v (terms ts) e ≡ true → breaks m v root e ≡ true
  any-leads [] all b = absurd cc
  any-leads (t ∷ ts) all b = elim (either_true (breaks m v t e) (any_breaks m v (terms ts) e) b) [
    | inl first ↦ all 0 no_tree (omega arith) first
    | inr rest ↦ any-leads ts (λ i d lt. all (suc i) d (omega arith)) rest
  ]

-- ---- of nodes

pub at-nodes : (t : Formulas) (P : Term → Type 0) (ks : List NodeId) → All P (trees_at t ks) → All (λ k. P (tree t k)) ks
at-nodes t P ks all i d lt =
    let n = length-map ks (tree_in t.trees) in
    subst P (get_or-map (tree_in t.trees) ks i d no_tree lt) (all i no_tree (omega (arith, n)))

-- one of several terms
pub any-at : (m : Model) (v : Term) (e : Env) (t : Formulas) (ks : List NodeId) (i : ℕ) (d : NodeId) → i < length ks → breaks m v (tree t (get_or ks i d)) e ≡ true → any_breaks m v (terms (trees_at t ks)) e ≡ true
any-at m v e t [] i d lt b = absurd (omega arith)
any-at m v e t (k ∷ ks) zero d lt b = left_true (breaks m v (tree t k) e) (any_breaks m v (terms (trees_at t ks)) e) b
any-at m v e t (k ∷ ks) (suc i) d lt b = right_true (breaks m v (tree t k) e) (any_breaks m v (terms (trees_at t ks)) e) (any-at m v e t ks i d (omega arith) b)
