-- Closed nodes and the results of operands.
use Rattle.std.proofs.Common.{◌≡◌, ℕ, true, List, length, get_or, All, IsSome, ap, sym, ◌∙◌, subst, arith}
use Rattle.std.proofs.lemmas.List.{get_or-map, length-map}
use Rattle.smt_terms.specs.declared.ids.NodeId.{NodeId}
use Rattle.smt_terms.specs.Term.{Term}
use Rattle.term_table.specs.Formulas.{Formulas, no_tree, tree_in, tree, operands, IsTable}
use Rattle.term_walk.specs.declared.kept.Place.{Place}
use Rattle.term_walk.specs.Places.{result_at, is_closed_at}
use Rattle.term_walk.specs.Walking.{HaveResults, HasClosed, IsClosed}

module _ {T : Type 0} (t : Formulas) (ks : List (Place T)) where
  pub operands-have_results : (u : Term) → IsTable t → All (HasClosed t.trees ks) (operands u) → ((k : NodeId) → is_closed_at ks k.0 ≡ true → IsClosed t.trees ks k) → HaveResults t u ks
  operands-have_results u table closed each ids same nodes i d lt =
      let count : length ids ≡ length (operands u) = sym (length-map ids (tree_in t.trees)) ∙ ap length same in
      let h = closed i no_tree (omega (arith, count)) in
      let k = get_or ids i d in
      let one : tree t k ≡ get_or (operands u) i no_tree = sym (get_or-map (tree_in t.trees) ids i d no_tree lt) ∙ ap (λ us. get_or us i no_tree) same in
      let number : h.id.0 ≡ k.0 = table.one_tree h.id.0 k.0 h.node (nodes i d lt) (h.term ∙ sym one) in
      subst (λ (n : ℕ). IsSome (result_at ks n)) number (each h.id h.closed).kept
