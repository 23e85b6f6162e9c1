-- What is kept of formulas as the table gains, and of the operands of a formula.
use Rattle.std.proofs.Common.{◌≡◌, ℕ, ◌<◌, List, length, get_or, All, IsSome, is_some, ap, sym, ◌∙◌, subst, arith}
use Rattle.std.proofs.lemmas.List.{get_or-map, length-map}
use Rattle.smt_terms.specs.declared.ids.NodeId.{NodeId}
use Rattle.smt_terms.specs.Term.{Term}
use Rattle.term_table.specs.Formulas.{Formulas, no_tree, tree_in, tree, trees_at, operands, AreNodes, IsTable}
use Rattle.term_walk.specs.declared.kept.Place.{Place}
use Rattle.term_walk.specs.Places.{result_at}
use Rattle.term_walk.specs.Walking.{GrowsTo, HaveResults, HasClosed, Fits}
use Rattle.normal_forms.specs.declared.node_forms.Forms.{Forms}
use Rattle.normal_forms.specs.FormNodes.{HasForms, forms_stay}

module _ (old new : Formulas) (ks : List (Place Forms)) (grows : GrowsTo old new) where
  within : (k : NodeId) → k.0 < length old.trees → k.0 < length new.trees
  within k lt = let longer = grows.trees.longer in omega arith

  same_tree : (k : NodeId) → k.0 < length old.trees → tree new k ≡ tree old k
  same_tree k lt = grows.trees.same k.0 no_tree lt

  closed-later : (u : Term) → HasClosed old.trees ks u → HasClosed new.trees ks u
  closed-later u h = record { id = h.id; node = within h.id h.node; term = same_tree h.id h.node ∙ h.term; closed = h.closed }

  pub fits-stay : Fits HasForms old ks → Fits HasForms new ks
  fits-stay fits = record {
    related = record {
      node = λ k some. within k (fits.related.node k some);
      related = λ k r e. subst (λ (u : Term). HasForms new u r) (sym (same_tree k (fits.related.node k (ap is_some e)))) (forms_stay old new (tree old k) r grows (fits.related.related k r e));
    };
    closed = λ k e.
        let h = fits.closed k e in
        record {
          node = within k h.node;
          kept = h.kept;
          operands = subst (λ (u : Term). All (HasClosed new.trees ks) (operands u)) (sym (same_tree k h.node)) (λ i d lt. closed-later (get_or (operands (tree old k)) i d) (h.operands i d lt));
        };
  }

-- where each operand has a result, whatever numbers name them
pub results-below : (old new : Formulas) (ks : List (Place Forms)) (u : Term) (kids : List NodeId) → IsTable new → GrowsTo old new → AreNodes old kids → trees_at old kids ≡ operands u → All (λ k. IsSome (result_at ks k.0)) kids → HaveResults new u ks
results-below old new ks u kids table grows nodes terms each ids same inside i d lt =
    let count : length ids ≡ length kids = sym (length-map ids (tree_in new.trees)) ∙ ap length (same ∙ sym terms) ∙ length-map kids (tree_in old.trees) in
    let among : i < length kids = omega (arith, count) in
    let k = get_or ids i d in
    let kid = get_or kids i d in
    let one : tree new k ≡ get_or (operands u) i no_tree = sym (get_or-map (tree_in new.trees) ids i d no_tree lt) ∙ ap (λ us. get_or us i no_tree) same in
    let other : tree old kid ≡ get_or (operands u) i no_tree = sym (get_or-map (tree_in old.trees) kids i d no_tree among) ∙ ap (λ us. get_or us i no_tree) terms in
    let number : kid.0 ≡ k.0 = table.one_tree kid.0 k.0 (within old new ks grows kid (nodes i d among)) (inside i d lt) (same_tree old new ks grows kid (nodes i d among) ∙ other ∙ sym one) in
    subst (λ (n : ℕ). IsSome (result_at ks n)) number (each i d among)

pub below-nodes : (t : Formulas) (id : NodeId) (kids : List NodeId) → id.0 < length t.trees → All (λ k. k.0 < id.0) kids → AreNodes t kids
below-nodes t id kids node below i d lt = let less = below i d lt in omega (arith, less)
