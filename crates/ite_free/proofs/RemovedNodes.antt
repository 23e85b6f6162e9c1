-- The group in the place of a formula, over nodes.
use Rattle.std.proofs.Common.{◌≡◌, List, [], ◌∷◌, ◌++◌, ap, sym, ◌∙◌, subst}
use Rattle.std.specs.List.{flat_map}
use Rattle.std.proofs.lemmas.List.{map-append}
use Rattle.std.proofs.lemmas.List.Elements.{All-push}
use Rattle.smt_terms.specs.declared.ids.NodeId.{NodeId}
use Rattle.smt_terms.specs.Fresh.{Supply}
use Rattle.smt_terms.specs.Groups.{draw_each, with_constants}
use Rattle.smt_terms.specs.Term.{Term}
use Rattle.term_table.specs.Formulas.{Formulas, tree, tree_in, trees_at, IsNode, AreNodes}
use Rattle.term_walk.specs.Walking.{GrowsTo}
use Rattle.term_subst.proofs.Growing.{tree-grows, node-grows}
use Rattle.term_groups.specs.declared.constants.Constants.{Constants}
use Rattle.term_groups.specs.Seen.{named_at, ArePairs, IsGroup}
use Rattle.term_groups.proofs.NodesDrawn.{pairs-grow, named-grow}
use Rattle.ite_free.specs.Ite.{term_ites, defining, ite}

-- new: the last table
module _ (t now new : Formulas) (grows : GrowsTo t now) (more : GrowsTo now new) (c : Constants) (pairs : ArePairs t c.symbols) (u : Term) (s : Supply) (drawn : named_at t c.symbols ≡ (draw_each (term_ites u) s).symbols) where
  pub removed-group : (ks all : List NodeId) (r : NodeId) → AreNodes new ks → all ≡ ks ++ r ∷ [] → IsNode now r → tree now r ≡ with_constants (named_at t c.symbols) u
      → trees_at new ks ≡ flat_map (λ n. defining (named_at now c.symbols) n.0 n.1) (named_at now c.symbols) → IsGroup new (record { symbols = c.symbols; asserts = all }) (ite u s).group
  removed-group ks all r nodes put node root terms =
      let d = (draw_each (term_ites u) s).symbols in
      let now_named : named_at now c.symbols ≡ d = named-grow t now grows c.symbols pairs ∙ drawn in
      let now_pairs : ArePairs now c.symbols = pairs-grow t now grows c.symbols pairs in
      record {
        pairs = pairs-grow now new more c.symbols now_pairs;
        nodes = subst (AreNodes new) (sym put) (All-push (IsNode new) ks r nodes (node-grows now new more r node));
        symbols = named-grow now new more c.symbols now_pairs ∙ now_named;
        asserts =
            ap (trees_at new) put
            ∙ map-append (tree_in new.trees) ks (r ∷ [])
            ∙ (λ i. (terms ∙ ap (λ ns. flat_map (λ n. defining ns n.0 n.1) ns) now_named) i ++ (tree-grows now new more r node ∙ root ∙ ap (λ ns. with_constants ns u) drawn) i ∷ []);
      }
