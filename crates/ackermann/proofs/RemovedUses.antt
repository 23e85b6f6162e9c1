-- The group in the place of a formula, over nodes.
use Rattle.std.proofs.Common.{◌≡◌, List, [], ◌∷◌, ◌++◌, ap, sym, ◌∙◌, subst}
use Rattle.std.proofs.lemmas.List.{map-append}
use Rattle.std.proofs.lemmas.List.Elements.{All-push}
use Rattle.smt_terms.specs.declared.ids.NodeId.{NodeId}
use Rattle.smt_terms.specs.Fresh.{Supply}
use Rattle.smt_terms.specs.Groups.{Named, draw_each, with_constants}
use Rattle.smt_terms.specs.Term.{Term}
use Rattle.term_table.specs.Formulas.{Formulas, tree, tree_in, trees_at, IsNode, AreNodes}
use Rattle.term_walk.specs.Walking.{GrowsTo}
use Rattle.term_subst.proofs.Growing.{tree-grows, node-grows}
use Rattle.term_groups.specs.declared.constants.Constants.{Constants}
use Rattle.term_groups.specs.Seen.{named_at, ArePairs, IsGroup}
use Rattle.term_groups.proofs.NodesDrawn.{pairs-grow, named-grow}
use Rattle.ackermann.specs.Ackermann.{applications, without_constant, pairs, ack}

-- t: the table with the constants; now: that with the results; new: the last table
module _ (t now new : Formulas) (grows : GrowsTo t now) (more : GrowsTo now new) (c : Constants) (drawn : ArePairs t c.symbols) (u : Term) (before : Named) (s : Supply)
    (symbols : named_at t c.symbols ≡ (draw_each (without_constant before (applications u)) s).symbols) where
  pub removed-group : (ks all : List NodeId) (r : NodeId) → AreNodes new ks → all ≡ ks ++ r ∷ [] → IsNode now r → tree now r ≡ with_constants (before ++ named_at t c.symbols) u
      → trees_at new ks ≡ pairs (before ++ named_at now c.symbols) before (named_at now c.symbols) → IsGroup new (record { symbols = c.symbols; asserts = all }) (ack u (before ∷ []) s).group
  removed-group ks all r nodes put node root terms =
      let now_named : named_at now c.symbols ≡ (draw_each (without_constant before (applications u)) s).symbols = named-grow t now grows c.symbols drawn ∙ symbols in
      let now_pairs : ArePairs now c.symbols = pairs-grow t now grows c.symbols drawn in
      record {
        pairs = pairs-grow now new more c.symbols now_pairs;
        nodes = subst (AreNodes new) (sym put) (All-push (IsNode new) ks r nodes (node-grows now new more r node));
        symbols = named-grow now new more c.symbols now_pairs ∙ now_named;
        asserts =
            ap (trees_at new) put
            ∙ map-append (tree_in new.trees) ks (r ∷ [])
            ∙ (λ i. (terms ∙ ap (λ ms. pairs (before ++ ms) before ms) now_named) i ++ (tree-grows now new more r node ∙ root ∙ ap (λ ms. with_constants (before ++ ms) u) symbols) i ∷ []);
      }
