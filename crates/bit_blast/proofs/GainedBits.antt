-- Bits as the table gains.
use Rattle.std.proofs.Common.{◌≡◌, List, [], ◌∷◌, get_or, All, refl}
use Rattle.std.proofs.lemmas.List.Elements.{All-head, All-tail}
use Rattle.smt_terms.specs.declared.ids.NodeId.{NodeId}
use Rattle.term_table.specs.Formulas.{Formulas, no_tree, tree, trees_at}
use Rattle.term_walk.specs.Walking.{GrowsTo}
use Rattle.normal_forms.specs.Nodes.{IsFormula, formula_stays}

pub formulas_stay : (old new : Formulas) (ks : List NodeId) → GrowsTo old new → All (IsFormula old) ks → All (IsFormula new) ks
formulas_stay old new ks grows formulas i d lt = formula_stays old new (get_or ks i d) grows (formulas i d lt)

pub trees_stay : (old new : Formulas) (ks : List NodeId) → GrowsTo old new → All (IsFormula old) ks → trees_at new ks ≡ trees_at old ks
trees_stay old new [] grows formulas = refl
trees_stay old new (k ∷ ks) grows formulas =
    let first : tree new k ≡ tree old k = grows.trees.same k.0 no_tree (All-head (IsFormula old) k ks formulas).node in
    let rest = trees_stay old new ks grows (All-tail (IsFormula old) k ks formulas) in
    λ i. first i ∷ rest i
