-- A formula's connective part and its names as the table gains, and the group over nodes that is made of them.
use Rattle.std.proofs.Common.{◌≡◌, Bool, true, false, List, [], ◌∷◌, ◌++◌, map, filter, All, Some, refl, ap, sym, ◌∙◌, subst}
use Rattle.std.proofs.lemmas.List.Elements.{All-head, All-tail, All-map, All-weaker}
use Rattle.smt_terms.specs.declared.ids.NodeId.{NodeId}
use Rattle.smt_terms.specs.declared.ids.SymId.{SymId}
use Rattle.smt_terms.specs.Fresh.{Supply}
use Rattle.smt_terms.specs.Groups.{Named, draw_each}
use Rattle.smt_terms.specs.Rank.{sort_of}
use Rattle.smt_terms.specs.Shapes.{is_clause}
use Rattle.smt_terms.specs.Sorts.{bool}
use Rattle.smt_terms.specs.Term.{constant}
use Rattle.term_table.specs.Formulas.{Formulas, tree, trees_at, IsNode, IsSymbol, AreNodes}
use Rattle.term_walk.specs.Walking.{GrowsTo}
use Rattle.term_subst.specs.declared.maps.Group.{Group as NodeGroup}
use Rattle.term_subst.proofs.Growing.{tree-grows, node-grows, symbol-grows, is_symbol-grows}
use Rattle.term_groups.specs.Parts.{AreParts, collected}
use Rattle.term_groups.specs.Seen.{named_at, ArePairs, IsGroup}
use Rattle.normal_forms.specs.Nodes.{IsFormula}
use Rattle.cnf_polarity.specs.Cnf.{occurrences, literal, named_connectives, unless_clause, cnf}
use Rattle.cnf_polarity.specs.Literals.{names_at}
use Rattle.cnf_polarity.specs.Naming.{IsOrderOf, AreNamed}
use Rattle.cnf_polarity.specs.Putting.{all_clauses}
use Rattle.cnf_polarity.specs.Shapes.{has_connective, is_named}
use Rattle.cnf_polarity.proofs.DrawnNames.{names-are, drawn-for, names-of, as-many}
use Rattle.cnf_polarity.proofs.PutFormulas.{formula-tree, formulas-stay, formula-trees}

module _ (t now : Formulas) (grows : GrowsTo t now) where
  pub order-stays : (root : NodeId) (ks : List NodeId) → IsFormula t root → IsOrderOf t root ks → IsOrderOf now root ks
  order-stays root ks formula o =
      let root_stays = sym (formula-tree t now grows root formula) in
      let terms_stay = sym (formula-trees t now grows ks o.formulas) in
      record {
        formulas = formulas-stay t now grows ks o.formulas;
        parts = subst (λ u. AreParts has_connective u (trees_at now ks)) root_stays (subst (AreParts has_connective (tree t root)) terms_stay o.parts);
        reached = sym terms_stay ∙ o.reached ∙ ap (collected has_connective (λ _. true)) root_stays;
      }

  -- names that were drawn for the named connectives
  pub drawn-named : (order named names : List NodeId) (s : Supply) → All (IsFormula t) order → All (IsFormula t) named → trees_at t named ≡ filter is_named (trees_at t order)
      → AreNodes now names → trees_at now names ≡ map (λ n. constant n.0) (draw_each (trees_at t named) s).symbols → AreNamed now order named names
  drawn-named order named names s formulas each terms nodes constants = record {
    nodes = λ i d lt. node-grows t now grows _ (each i d lt).node;
    terms = formula-trees t now grows named each ∙ terms ∙ ap (filter is_named) (sym (formula-trees t now grows order formulas));
    each = names-of (trees_at t named) s now names nodes (All-map (λ u. sort_of u ≡ Some bool) (tree t) named (All-weaker (IsFormula t) (λ k. sort_of (tree t k) ≡ Some bool) (λ k f. f.sort) named each)) constants;
    number = as-many (trees_at t named) s t now named names refl constants;
  }

  pairs-stay : (ps : List (SymId × NodeId)) → ArePairs t ps → ArePairs now ps
  pairs-stay ps pairs i d lt = let p = pairs i d lt in (is_symbol-grows t now grows _ p.0, node-grows t now grows _ p.1)

  named-stay : (ps : List (SymId × NodeId)) → ArePairs t ps → named_at now ps ≡ named_at t ps
  named-stay [] pairs = refl
  named-stay (p ∷ ps) pairs =
      let own = All-head (λ q. IsSymbol t q.0 × IsNode t q.1) p ps pairs in
      let name = symbol-grows t now grows p.0 own.0 in
      let term = tree-grows t now grows p.1 own.1 in
      let rest = named-stay ps (All-tail (λ q. IsSymbol t q.0 × IsNode t q.1) p ps pairs) in
      λ i. (name i, term i) ∷ rest i

-- the group of a formula that is no clause
module _ (t now new : Formulas) (first : GrowsTo t now) (second : GrowsTo now new) (root : NodeId) (order named names asserts : List NodeId) (pairs : List (SymId × NodeId)) (s : Supply) where
  abbrev drawn : Named
  drawn = (draw_each (trees_at t named) s).symbols

  pub made-group : (g : NodeGroup) → g.symbols ≡ pairs → g.asserts ≡ asserts → IsFormula t root → is_clause (tree t root) ≡ false → All (IsFormula t) named → trees_at t named ≡ named_connectives (tree t root)
      → ArePairs now pairs → named_at now pairs ≡ drawn → trees_at now names ≡ map (λ n. constant n.0) drawn → AreNodes new asserts
      → trees_at new asserts ≡ all_clauses (names_at now named names) (occurrences true (tree now root)) (names_at now named names) ++ literal (names_at now named names) (tree now root) ∷ []
      → IsGroup new g (cnf (tree t root) s).group
  made-group g symbols_are asserts_are formula other each terms are_pairs seen constants nodes clauses =
      let u = tree t root in
      let given : names_at now named names ≡ drawn =
      names-are now named names drawn (formula-trees t now first named each ∙ sym (drawn-for (trees_at t named) s)) constants in
      let root_is : tree now root ≡ u = formula-tree t now first root formula in
      let names_are : drawn ≡ (draw_each (named_connectives u) s).symbols = ap (λ us. (draw_each us s).symbols) terms in
      let plain : (b : Bool) → b ≡ false → IsGroup new g (unless_clause b u s).group = λ b e. subst (λ x. IsGroup new g (unless_clause x u s).group) (sym e) (record {
        pairs = subst (ArePairs new) (sym symbols_are) (pairs-stay now new second pairs are_pairs);
        nodes = subst (λ (ks : List NodeId). AreNodes new ks) (sym asserts_are) nodes;
        symbols = ap (named_at new) symbols_are ∙ named-stay now new second pairs are_pairs ∙ seen ∙ names_are;
        asserts =
            ap (trees_at new) asserts_are ∙ clauses
            ∙ ap (λ (ms : Named). all_clauses ms (occurrences true (tree now root)) ms ++ literal ms (tree now root) ∷ []) (given ∙ names_are)
            ∙ ap (λ v. all_clauses (draw_each (named_connectives u) s).symbols (occurrences true v) (draw_each (named_connectives u) s).symbols ++ literal (draw_each (named_connectives u) s).symbols v ∷ []) root_is;
      }) in
      plain (is_clause u) other
