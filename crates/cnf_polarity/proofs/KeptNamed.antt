-- The nodes that get names, as more nodes are seen.
use Rattle.std.proofs.Common.{◌≡◌, ℕ, ◌+◌, ◌<◌, Bool, true, false, cond, List, [], ◌∷◌, ◌++◌, length, get_or, take, filter, All, ap, sym, ◌∙◌, subst, append-nil}
use Rattle.std.proofs.lemmas.List.{map-append, take_more}
use Rattle.std.proofs.lemmas.List.Elements.{All-nil, All-cons, All-append, filter-append}
use Rattle.smt_terms.specs.declared.ids.NodeId.{NodeId}
use Rattle.term_table.specs.Formulas.{Formulas, tree, tree_in, trees_at}
use Rattle.normal_forms.specs.Nodes.{IsFormula}
use Rattle.cnf_polarity.specs.Shapes.{is_named}

pub record AreNamed (t : Formulas) (order : List NodeId) (i : ℕ) (ks : List NodeId) : Type 0 where
  pub formulas : All (IsFormula t) ks
  pub terms : trees_at t ks ≡ filter is_named (trees_at t (take i order))

module _ (t : Formulas) (order ks : List NodeId) (i : ℕ) (d : NodeId) (lt : i < length order) (are : AreNamed t order i ks) where
  seen : (b : Bool) → is_named (tree t (get_or order i d)) ≡ b → filter is_named (trees_at t (take (i + 1) order)) ≡ filter is_named (trees_at t (take i order)) ++ cond b (tree t (get_or order i d) ∷ []) []
  seen b e =
      let k : NodeId = get_or order i d in
      ap (λ (js : List NodeId). filter is_named (trees_at t js)) (take_more order i d lt)
      ∙ ap (filter is_named) (map-append (tree_in t.trees) (take i order) (k ∷ []))
      ∙ filter-append is_named (trees_at t (take i order)) (tree t k ∷ [])
      ∙ ap (λ c. filter is_named (trees_at t (take i order)) ++ cond c (tree t k ∷ []) []) e

  pub named-more : (new : List NodeId) → IsFormula t (get_or order i d) → is_named (tree t (get_or order i d)) ≡ true → new ≡ ks ++ get_or order i d ∷ [] → AreNamed t order (i + 1) new
  named-more new formula named is = record {
    formulas = subst (λ (js : List NodeId). All (IsFormula t) js) (sym is) (All-append (IsFormula t) ks (get_or order i d ∷ []) are.formulas (All-cons (IsFormula t) (get_or order i d) [] formula (All-nil (IsFormula t))));
    terms =
        ap (trees_at t) is ∙ map-append (tree_in t.trees) ks (get_or order i d ∷ [])
        ∙ ap (λ us. us ++ tree t (get_or order i d) ∷ []) are.terms ∙ sym (seen true named);
  }

  pub named-same : is_named (tree t (get_or order i d)) ≡ false → AreNamed t order (i + 1) ks
  named-same other = record {
    formulas = are.formulas;
    terms = are.terms ∙ sym (append-nil (filter is_named (trees_at t (take i order)))) ∙ sym (seen false other);
  }
