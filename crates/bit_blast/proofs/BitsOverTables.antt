-- Vectors of nodes stay what they are as the table gains.
use Rattle.std.proofs.Common.{◌≡◌, ℕ, suc, ◌<◌, List, [], ◌∷◌, length, get_or, drop, All, refl, ap, sym, ◌∙◌, subst, arith, add-one}
use Rattle.std.proofs.lemmas.List.{length-map, get_or-map, drop_more}
use Rattle.std.proofs.lemmas.List.Elements.{All-head, All-tail}
use Rattle.smt_terms.specs.declared.ids.NodeId.{NodeId}
use Rattle.smt_terms.specs.Term.{Term}
use Rattle.term_table.specs.Formulas.{Formulas, no_tree, tree, tree_in, trees_at}
use Rattle.term_walk.specs.Walking.{GrowsTo}
use Rattle.term_walk.proofs.Visits.{table-grows}
use Rattle.normal_forms.specs.Nodes.{IsFormula, formula_stays}
use Rattle.bit_blast.specs.BitNodes.{AreBits}
use Rattle.bit_blast.specs.VectorLoops.{OnlyGains}

pub only-gains-both : (s t u : Formulas) → OnlyGains s t → OnlyGains t u → OnlyGains s u
only-gains-both s t u g h = record { grows = table-grows s t u g.grows h.grows; symbols = h.symbols ∙ g.symbols; sorts = h.sorts ∙ g.sorts }

module _ (old new : Formulas) (grows : GrowsTo old new) where
  pub tree-kept : (k : NodeId) → IsFormula old k → tree new k ≡ tree old k
  tree-kept k formula = grows.trees.same k.0 no_tree formula.node

  pub formulas-kept : (ks : List NodeId) → All (IsFormula old) ks → All (IsFormula new) ks
  formulas-kept ks formulas i d lt = formula_stays old new (get_or ks i d) grows (formulas i d lt)

  pub trees-kept : (ks : List NodeId) → All (IsFormula old) ks → trees_at new ks ≡ trees_at old ks
  trees-kept [] formulas = refl
  trees-kept (k ∷ ks) formulas =
      let first = tree-kept k (All-head (IsFormula old) k ks formulas) in
      let rest = trees-kept ks (All-tail (IsFormula old) k ks formulas) in
      λ i. first i ∷ rest i

-- ---- bits

module _ {t : Formulas} {ks : List NodeId} {us : List Term} where
  pub bits-kept : {new : Formulas} → GrowsTo t new → AreBits t ks us → AreBits new ks us
  bits-kept {new = new} grows are = record { formulas = formulas-kept t new grows ks are.formulas; terms = trees-kept t new grows ks are.formulas ∙ are.terms }

  -- the same nodes under another name, and the same terms
  pub bits-read : {ls : List NodeId} → ls ≡ ks → AreBits t ks us → AreBits t ls us
  bits-read is are = record { formulas = subst (λ (js : List NodeId). All (IsFormula t) js) (sym is) are.formulas; terms = ap (trees_at t) is ∙ are.terms }

  pub bits-alike : {vs : List Term} → us ≡ vs → AreBits t ks us → AreBits t ks vs
  bits-alike same are = record { formulas = are.formulas; terms = are.terms ∙ same }

  -- as many nodes as terms
  pub bits-count : AreBits t ks us → length ks ≡ length us
  bits-count are = sym (length-map ks (tree_in t.trees)) ∙ ap length are.terms

pub trees-count : (t : Formulas) (ks : List NodeId) → length (trees_at t ks) ≡ length ks
trees-count t ks = length-map ks (tree_in t.trees)

-- the bit at a place, before those that follow
pub bit-first : (t : Formulas) (ks : List NodeId) (i : ℕ) (d : NodeId) → i < length ks → drop i (trees_at t ks) ≡ tree t (get_or ks i d) ∷ drop (suc i) (trees_at t ks)
bit-first t ks i d lt =
    let count = trees-count t ks in
    drop_more (trees_at t ks) i no_tree (omega arith)
    ∙ (λ j. get_or-map (tree_in t.trees) ks i d no_tree lt j ∷ drop (add-one i j) (trees_at t ks))
