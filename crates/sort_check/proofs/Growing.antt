-- A table that grows: what its nodes name stays.
use Rattle.std.proofs.Common.{◌≡◌, ◌≤◌, List, [], ◌∷◌, length, refl, ap, ◌∙◌, arith}
use Rattle.std.proofs.lemmas.List.Elements.{All-head, All-tail, All-weaker}
use Rattle.smt_terms.specs.declared.ids.NodeId.{NodeId}
use Rattle.smt_terms.specs.Rank.{sort_of}
use Rattle.smt_terms.specs.Sorts.{Sort}
use Rattle.term_table.specs.Formulas.{Formulas, no_tree, tree, trees_at, AreNodes, IsNode}
use Rattle.sort_check.specs.Making.{Extends}
use Rattle.sort_check.specs.Operands.{IsOfSort}

pub extends-refl : (t : Formulas) → Extends t t
extends-refl t = record { trees = record { longer = omega arith; same = λ i d lt. refl }; symbols = refl; sorts = refl }

pub extends-trans : (s t u : Formulas) → Extends s t → Extends t u → Extends s u
extends-trans s t u a b =
    let first : length s.trees ≤ length t.trees = a.trees.longer in
    let then_on : length t.trees ≤ length u.trees = b.trees.longer in
    record {
      trees = record { longer = omega arith; same = λ i d lt. b.trees.same i d (omega arith) ∙ a.trees.same i d lt };
      symbols = b.symbols ∙ a.symbols;
      sorts = b.sorts ∙ a.sorts;
    }

module _ (old new : Formulas) (e : Extends old new) where
  pub tree-extends : (k : NodeId) → IsNode old k → tree new k ≡ tree old k
  tree-extends k node = e.trees.same k.0 no_tree node

  pub node-extends : (k : NodeId) → IsNode old k → IsNode new k
  node-extends k node = let longer : length old.trees ≤ length new.trees = e.trees.longer in omega arith

  pub nodes-extend : (ks : List NodeId) → AreNodes old ks → AreNodes new ks
  nodes-extend ks nodes = All-weaker (λ k. IsNode old k) (λ k. IsNode new k) node-extends ks nodes

  pub trees-extend : (ks : List NodeId) → AreNodes old ks → trees_at new ks ≡ trees_at old ks
  trees-extend [] nodes = refl
  trees-extend (k ∷ ks) nodes =
      (λ i. tree-extends k (All-head (λ k. IsNode old k) k ks nodes) i ∷ trees-extend ks (All-tail (λ k. IsNode old k) k ks nodes) i)

  pub sorted-extends : (k : NodeId) (s : Sort) → IsOfSort old k s → IsOfSort new k s
  sorted-extends k s is = record { node = node-extends k is.node; sort = ap sort_of (tree-extends k is.node) ∙ is.sort }
