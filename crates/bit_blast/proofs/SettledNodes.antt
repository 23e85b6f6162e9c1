-- Nodes that get their bits one after the other, each behind its operands.
use Rattle.std.proofs.Common.{◌≡◌, ℕ, ◌<◌, Bool, true, false, List, filter, length, get_or, take, All, Option, Some, None, is_some, refl, ap, sym, ◌∙◌, subst, arith}
use Rattle.std.proofs.lemmas.List.{get_or-map, length-map}
use Rattle.smt_terms.specs.declared.ids.NodeId.{NodeId}
use Rattle.smt_terms.specs.Groups.{Named, has_term}
use Rattle.smt_terms.specs.Term.{op, symbol, const_array, Term, apply, quantified}
use Rattle.smt_terms.proofs.Tests.{and_true}
use Rattle.term_table.specs.Formulas.{Formulas, no_tree, tree, tree_in, trees_at, operands, IsNode, AreNodes, IsTable}
use Rattle.term_walk.specs.FreeLists.{has_node}
use Rattle.term_walk.specs.Walking.{GrowsTo}
use Rattle.term_walk.proofs.Members.{has-at, has-filter}
use Rattle.term_subst.proofs.Growing.{tree-grows, node-grows, nodes-grow, trees-grow}
use Rattle.quantifier_forms.proofs.Stands.{term-among}
use Rattle.term_groups.specs.Parts.{operands_of}
use Rattle.bit_blast.specs.BitNodes.{AreBits}
use Rattle.bit_blast.specs.Blasted.{is_bits, bits}
use Rattle.bit_blast.specs.KeptBits.{Lists, list_of, HasBits, HaveBits, IsNoVector}
use Rattle.bit_blast.specs.Subterms.{is_open, is_vector_term, AreInOrder, IsKeptFor, AreKept, is_kept}
use Rattle.bit_blast.proofs.OrderedNodes.{All-among, operand-before}

-- ---- terms over bits

bits-open : (u : Term) → is_bits u ≡ true → is_open u ≡ true
bits-open (apply h ts) fine = refl
bits-open (quantified q xs body) fine = absurd cc

bits-operands : (u : Term) → is_bits u ≡ true → operands u ≡ operands_of u
bits-operands (apply h ts) fine = refl
bits-operands (quantified q xs body) fine = absurd cc

no-vector : (u : Term) → is_vector_term u ≡ false → IsNoVector u
no-vector (apply (symbol f) ts) e = e
no-vector (apply (op o) ts) e = tt
no-vector (apply (const_array s) ts) e = tt
no-vector (quantified q xs body) e = tt

-- ---- the bits of a node

some-list : (o : Option (List NodeId)) → is_some o ≡ true → (js : List NodeId) × (o ≡ Some js)
some-list (Some js) e = (js, refl)
some-list None e = absurd cc

pub has-bits : (t : Formulas) (ns : Named) (ls : Lists) (k : NodeId) → AreKept t ns ls → is_kept ls k ≡ true → HasBits t ns ls k
has-bits t ns ls k kept e =
    let found = some-list (list_of ls k) e in
    record { nodes = found.0; found = found.1; bits = (kept k found.0 found.1).bits }

-- as the table gains, the bits that were made are those of the node
pub made-bits : (old new : Formulas) (ns : Named) (k : NodeId) (js : List NodeId) → GrowsTo old new → IsNode old k → AreBits new js (bits ns (tree old k)) → IsKeptFor new ns k js
made-bits old new ns k js grows node made = record {
  node = node-grows old new grows k node;
  bits = subst (λ (u : Term). AreBits new js (bits ns u)) (sym (tree-grows old new grows k node)) made;
}

-- ---- the next node

-- an order of nodes stays one
pub order-stays : (old new : Formulas) (ks : List NodeId) → GrowsTo old new → AreInOrder old ks → AreInOrder new ks
order-stays old new ks grows order = record {
  nodes = nodes-grow old new grows ks order.nodes;
  behind = λ us u vs e opened. order.behind us u vs (sym (trees-grow old new grows ks order.nodes) ∙ e) opened;
}

-- old: the table with which these nodes stand in order; t: that with the bits of the first of them
module _ (old t : Formulas) (table : IsTable t) (grows : GrowsTo old t) (ks : List NodeId) (order : AreInOrder old ks) (fine : All (λ u. is_bits u ≡ true) (trees_at old ks)) (n : ℕ) (d : NodeId) (lt : n < length ks) where
  abbrev here : NodeId
  here = get_or ks n d

  stays : tree t here ≡ tree old here
  stays = tree-grows old t grows here (order.nodes n d lt)

  same-tree : get_or (trees_at old ks) n no_tree ≡ tree old here
  same-tree = get_or-map (tree_in old.trees) ks n d no_tree lt

  pub next-bits : is_bits (tree t here) ≡ true
  next-bits = let m = length-map ks (tree_in old.trees) in ap is_bits (stays ∙ sym same-tree) ∙ fine n no_tree (omega (arith, m))

  -- its operands have their bits
  pub next-ready : (ns : Named) (ls : Lists) → AreKept t ns ls → All (λ k. is_kept ls k ≡ true) (take n ks) → HaveBits t ns ls here
  next-ready ns ls kept done j node there =
      has-bits t ns ls j kept
      (All-among (λ k. is_kept ls k ≡ true) (take n ks) j done
      (operand-before t table ks (order-stays old t ks grows order) n d j lt (bits-open (tree t here) next-bits) node
      (ap (λ us. has_term us (tree t j)) (sym (bits-operands (tree t here) next-bits)) ∙ there)))

  -- and it is no constant of a bit vector, unless it has its own
  pub next-no_vector : (vs : List NodeId) (ls : Lists) → AreNodes old vs → trees_at old vs ≡ filter is_vector_term (trees_at old ks) → All (λ k. is_kept ls k ≡ true) vs → list_of ls here ≡ None → IsNoVector (tree t here)
  next-no_vector vs ls nodes are kept missing = no-vector (tree t here) (by (is_vector_term (tree t here)) refl)
    where
      among : has_term (trees_at old ks) (tree t here) ≡ true
      among =
          let m = length-map ks (tree_in old.trees) in
          ap (has_term (trees_at old ks)) (stays ∙ sym same-tree) ∙ has-at (trees_at old ks) n no_tree (omega (arith, m))

      there : is_vector_term (tree t here) ≡ true → has_node vs here ≡ true
      there vector =
          sym (term-among t table here (node-grows old t grows here (order.nodes n d lt)) vs (nodes-grow old t grows vs nodes))
          ∙ ap (λ us. has_term us (tree t here)) (trees-grow old t grows vs nodes ∙ are)
          ∙ has-filter is_vector_term (trees_at old ks) (tree t here)
          ∙ and_true (has_term (trees_at old ks) (tree t here)) (is_vector_term (tree t here)) among vector

      by : (b : Bool) → is_vector_term (tree t here) ≡ b → b ≡ false
      by true vector =
          let some : is_kept ls here ≡ true = All-among (λ k. is_kept ls k ≡ true) vs here kept (there vector) in
          let no : false ≡ true = ap is_some (sym missing) ∙ some in
          absurd cc
      by false other = refl
