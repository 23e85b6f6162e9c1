-- One kept result more.
use Rattle.std.proofs.Common.{◌≡◌, ℕ, List, [], inl, inr, Some, IsSome, is_some, ap, sym, ◌∙◌, subst}
use Rattle.std.proofs.lemmas.Bool.Decides.{eqb_tells}
use Rattle.smt_terms.specs.declared.ids.NodeId.{NodeId}
use Rattle.smt_terms.specs.Term.{Term}
use Rattle.term_table.specs.Formulas.{Formulas, tree, IsNode}
use Rattle.term_walk.specs.declared.kept.Place.{Place}
use Rattle.term_walk.specs.Places.{result_at, Puts}
use Rattle.term_walk.specs.Walking.{Fits}

module _ {T : Type 0} (R : Formulas → Term → T → Type 0) (t : Formulas) (old new : List (Place T)) (id : NodeId) (r : T) (puts : Puts old new id.0 r) where
  pub stays : (k : NodeId) → IsSome (result_at old k.0) → IsSome (result_at new k.0)
  stays k e = elim (eqb_tells k.0 id.0) [
    | inl same ↦ ap (λ i. is_some (result_at new i)) same.1 ∙ ap is_some puts.here
    | inr apart ↦ ap is_some (puts.others k.0 apart.1) ∙ e
  ]

  pub is-there : IsSome (result_at new id.0)
  is-there = ap is_some puts.here

  module _ (node : IsNode t id) (related : R t (tree t id) r) (fits : Fits R t old) where
    each : (k : NodeId) (s : T) → result_at new k.0 ≡ Some s → R t (tree t k) s
    each k s e = elim (eqb_tells k.0 id.0) [
      | inl same ↦
          let key : id ≡ k = (let n = same.1 in λ i. record { 0 = sym n i }) in
          let one : Some r ≡ Some s = sym puts.here ∙ ap (result_at new) (sym same.1) ∙ e in
          let value : r ≡ s = cc in
          subst (λ (j : NodeId). R t (tree t j) s) key (subst (R t (tree t id)) value related)
      | inr apart ↦ fits.related.related k s (sym (puts.others k.0 apart.1) ∙ e)
    ]

    its-node : (k : NodeId) → IsSome (result_at new k.0) → IsNode t k
    its-node k e = elim (eqb_tells k.0 id.0) [
      | inl same ↦ subst (λ (n : ℕ). IsNode t (record { 0 = n })) (sym same.1) node
      | inr apart ↦ fits.related.node k (ap is_some (sym (puts.others k.0 apart.1)) ∙ e)
    ]

    pub fits-put : Fits R t new
    fits-put = record {
      related = record { node = its-node; related = each };
      closed = λ k e.
          let before = fits.closed k (sym (puts.closed k.0) ∙ e) in
          record {
            node = before.node;
            kept = stays k before.kept;
            operands = λ i d lt. let o = before.operands i d lt in record { id = o.id; node = o.node; term = o.term; closed = puts.closed o.id.0 ∙ o.closed };
          };
    }

pub fits-none : {T : Type 0} (R : Formulas → Term → T → Type 0) (t : Formulas) → Fits R t []
fits-none R t = record { related = record { node = λ k e. absurd cc; related = λ k r e. absurd cc }; closed = λ k e. absurd cc }
