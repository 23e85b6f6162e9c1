-- The parts of a formula as nodes of a table that gained since, and the constants that were drawn for some of them.
use Rattle.std.proofs.Common.{◌≡◌, Bool, true, List, [], ◌∷◌, ◌++◌, filter, get_or, map, All, ap, sym, ◌∙◌, subst}
use Rattle.std.proofs.lemmas.List.{get_or_default}
use Rattle.smt_terms.specs.declared.ids.NodeId.{NodeId}
use Rattle.smt_terms.specs.declared.ids.SymId.{SymId}
use Rattle.smt_terms.specs.Groups.{Named, has_term}
use Rattle.smt_terms.specs.Term.{Term, constant}
use Rattle.smt_terms.proofs.Tests.{both_true, right_true}
use Rattle.term_table.specs.Formulas.{Formulas, tree, trees_at, IsNode, AreNodes, IsTable}
use Rattle.term_walk.specs.Walking.{GrowsTo}
use Rattle.term_walk.proofs.Members.{has-append, has-filter, has-one, has-at}
use Rattle.term_subst.proofs.Growing.{tree-grows, nodes-grow, trees-grow}
use Rattle.quantifier_forms.specs.Memos.{Results}
use Rattle.quantifier_forms.specs.Rebuilding.{IsLike}
use Rattle.quantifier_forms.proofs.Stands.{term-among}
use Rattle.quantifier_forms.proofs.Sweeps.{at-number}
use Rattle.term_groups.specs.declared.constants.Constants.{Constants}
use Rattle.term_groups.specs.Grouping.{terms_of}
use Rattle.term_groups.specs.Parts.{AreParts}
use Rattle.term_groups.specs.Replacing.{is_open, AreInOrder, AreApart, AreConstantsFor, IsDone}
use Rattle.term_groups.specs.Seen.{named_at, ArePairs}
use Rattle.term_groups.proofs.NamedTerms.{All-of_terms}
use Rattle.term_groups.proofs.NodesDrawn.{pairs-grow, named-grow}
use Rattle.term_groups.proofs.ReplacedNodes.{of-pair}

-- ---- the constants under another table

pub constants-stay : (old new : Formulas) (wanted : Term → Bool) (c : Constants) → GrowsTo old new → AreConstantsFor old wanted c → AreConstantsFor new wanted c
constants-stay old new wanted c grows are =
    let named : named_at new c.symbols ≡ named_at old c.symbols = named-grow old new grows c.symbols are.pairs in
    record {
      pairs = pairs-grow old new grows c.symbols are.pairs;
      nodes = nodes-grow old new grows c.nodes are.nodes;
      terms = trees-grow old new grows c.nodes are.nodes ∙ are.terms ∙ ap (map (λ n. constant n.0)) (sym named);
      each = subst (All (λ n. wanted n.1 ≡ true)) (sym named) are.each;
      like = subst (All (λ n. IsLike n.1 (constant n.0))) (sym named) are.like;
      apart = subst (λ ns. AreApart (terms_of ns)) (sym named) are.apart;
    }

-- ---- nodes among the parts

-- what holds of all of these nodes holds of one whose term is among theirs
pub All-node : (t : Formulas) → IsTable t → (P : NodeId → Type 0) (ks : List NodeId) → AreNodes t ks → All P ks → (k : NodeId) → IsNode t k → has_term (trees_at t ks) (tree t k) ≡ true → P k
All-node t table P ks nodes all k node there =
    let place = at-number ks k (sym (term-among t table k node ks nodes) ∙ there) in
    let number : (get_or ks place.0 k).0 ≡ k.0 = place.2 k in
    subst P (λ i. record { 0 = number i }) (all place.0 k place.1)

last-among : (ts before : List Term) (u : Term) → ts ≡ before ++ u ∷ [] → has_term ts u ≡ true
last-among ts before u last = ap (λ us. has_term us u) last ∙ has-append before (u ∷ []) u ∙ right_true (has_term before u) (has_term (u ∷ []) u) (has-one u)

filtered-among : (wanted : Term → Bool) (ts : List Term) → All (λ u. has_term ts u ≡ true) (filter wanted ts)
filtered-among wanted ts k d lt =
    let u = get_or (filter wanted ts) k d in
    (both_true (has_term ts u) (wanted u) (sym (has-filter wanted ts u) ∙ has-at (filter wanted ts) k d lt)).0

-- the parts of a formula, as nodes of a table that gained since
module _ (old t : Formulas) (grows : GrowsTo old t) (root : NodeId) (node : IsNode old root) (listed order : List NodeId) (same : order ≡ listed) (nodes : AreNodes old listed) (parts : AreParts is_open (tree old root) (trees_at old listed)) where
  pub trees-same : trees_at t order ≡ trees_at old listed
  trees-same = ap (trees_at t) same ∙ trees-grow old t grows listed nodes

  pub parts-nodes : AreNodes t order
  parts-nodes = subst (AreNodes t) (sym same) (nodes-grow old t grows listed nodes)

  pub parts-in_order : AreInOrder (trees_at t order)
  parts-in_order = subst AreInOrder (sym trees-same) parts.behind

  pub root-among : has_term (trees_at t order) (tree t root) ≡ true
  root-among = (λ i. has_term (trees-same i) (tree-grows old t grows root node i)) ∙ last-among (trees_at old listed) parts.before (tree old root) parts.last

-- t: the table with the constants that were drawn for some of these nodes; now: that with the results
pub drawn-done : (t now : Formulas) → IsTable t → (order : List NodeId) → AreNodes t order → (c : Constants) → ArePairs t c.symbols → (ns : Named) (m : Results) → All (IsDone now ns m) order
    → (wanted : Term → Bool) → terms_of (named_at t c.symbols) ≡ filter wanted (trees_at t order) → All (λ (p : SymId × NodeId). IsDone now ns m p.1) c.symbols
drawn-done t now table order nodes c pairs ns m done wanted terms i d lt =
    let p = get_or c.symbols i d in
    let among : All (λ n. has_term (trees_at t order) n.1 ≡ true) (named_at t c.symbols) =
    All-of_terms (λ u. has_term (trees_at t order) u ≡ true) (named_at t c.symbols) (subst (All (λ u. has_term (trees_at t order) u ≡ true)) (sym terms) (filtered-among wanted (trees_at t order))) in
    let there : has_term (trees_at t order) (tree t p.1) ≡ true = of-pair t c.symbols i p lt (get_or_default c.symbols i p d lt) (λ n. has_term (trees_at t order) n.1 ≡ true) among in
    All-node t table (IsDone now ns m) order nodes done p.1 (pairs i d lt).1 there
