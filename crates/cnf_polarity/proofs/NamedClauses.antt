-- The literals of a formula's parts, and all clauses of its names, as the table gains.
use Rattle.std.proofs.Common.{◌≡◌, ℕ, ◌<◌, true, List, [], ◌∷◌, ◌++◌, length, get_or, All, refl, ap, sym, ◌∙◌, subst, arith}
use Rattle.std.proofs.lemmas.List.{get_or-map, length-map, map-append}
use Rattle.std.proofs.lemmas.List.Elements.{All-head, All-tail, All-push, All-weaker}
use Rattle.smt_terms.specs.declared.ids.NodeId.{NodeId}
use Rattle.smt_terms.specs.Groups.{Named, has_term}
use Rattle.smt_terms.specs.Term.{Term, apply, quantified}
use Rattle.smt_terms.proofs.Tests.{both_true}
use Rattle.term_table.specs.Formulas.{Formulas, no_tree, tree_in, tree, trees_at, operands, IsNode, AreNodes, IsTable}
use Rattle.term_walk.specs.Walking.{GrowsTo}
use Rattle.term_walk.proofs.Members.{has-at, place-of, has-filter}
use Rattle.term_subst.proofs.Growing.{tree-grows}
use Rattle.term_groups.specs.Parts.{operands_of}
use Rattle.quantifier_forms.specs.Memos.{Results, known_in}
use Rattle.normal_forms.specs.Nodes.{IsFormula}
use Rattle.cnf_polarity.specs.Cnf.{occurrences, literal}
use Rattle.cnf_polarity.specs.Literals.{symbol_in, IsName, names_at, HasLiteral, HaveLiterals}
use Rattle.cnf_polarity.specs.Naming.{IsOrderOf, AreNamed}
use Rattle.cnf_polarity.specs.Putting.{Puts, all_clauses}
use Rattle.cnf_polarity.specs.Shapes.{has_connective, is_named}
use Rattle.cnf_polarity.proofs.GivenPolarities.{all-has, closed-parts, has-between}
use Rattle.cnf_polarity.proofs.PutFormulas.{formula-tree}

connective-operands : (u : Term) → has_connective u ≡ true → operands u ≡ operands_of u
connective-operands (apply h ts) c = refl
connective-operands (quantified q xs body) c = absurd cc

module _ (t now : Formulas) (grows : GrowsTo t now) where
  pub names-stay : (ks es : List NodeId) → AreNodes t ks → All (IsName t) es → names_at now ks es ≡ names_at t ks es
  names-stay [] es nodes names = refl
  names-stay (k ∷ ks) [] nodes names = refl
  names-stay (k ∷ ks) (e ∷ es) nodes names =
      let term = tree-grows t now grows k (All-head (IsNode t) k ks nodes) in
      let name = formula-tree t now grows e (All-head (IsName t) e es names).formula in
      let rest = names-stay ks es (All-tail (IsNode t) k ks nodes) (All-tail (IsName t) e es names) in
      λ i. (symbol_in (name i), term i) ∷ rest i

  module _ (table : IsTable t) (root : NodeId) (order named names : List NodeId) (o : IsOrderOf t root order) (n : AreNamed t order named names) (ps : Results) where
    abbrev given_names : Named
    given_names = names_at t named names

    pub given-stay : names_at now named names ≡ given_names
    given-stay = names-stay named names n.nodes n.each

    module _ (all : All (HasLiteral now given_names ps) order) where
      part-literal : (k : NodeId) → IsNode t k → has_term (trees_at t order) (tree t k) ≡ true → HasLiteral now given_names ps k
      part-literal k node has =
          let place = place-of (trees_at t order) (tree t k) no_tree has in
          let count = length-map order (tree_in t.trees) in
          let less : place.0 < length order = let within = place.1 in omega (arith, count, within) in
          let same : tree t (get_or order place.0 k) ≡ tree t k = sym (get_or-map (tree_in t.trees) order place.0 k no_tree less) ∙ place.2 in
          let number : (get_or order place.0 k).0 ≡ k.0 = table.one_tree (get_or order place.0 k).0 k.0 (o.formulas place.0 k less).node node same in
          let key : get_or order place.0 k ≡ k = λ i. record { 0 = number i } in
          subst (λ (j : NodeId). HasLiteral now given_names ps j) key (all place.0 k less)

      pub root-literal : IsNode t root → HasLiteral now given_names ps root
      root-literal node = part-literal root node (subst (λ us. has_term us (tree t root) ≡ true) (sym o.parts.last) (has-between o.parts.before (tree t root) []))

      named-there : (i : ℕ) (d : NodeId) → i < length named → has_term (trees_at t order) (tree t (get_or named i d)) ≡ true
      named-there i d lt =
          let u = tree t (get_or named i d) in
          let count = length-map named (tree_in t.trees) in
          let at : get_or (trees_at t named) i no_tree ≡ u = get_or-map (tree_in t.trees) named i d no_tree lt in
          let has : has_term (trees_at t named) u ≡ true = subst (λ v. has_term (trees_at t named) v ≡ true) at (has-at (trees_at t named) i no_tree (omega (arith, count, lt))) in
          (both_true (has_term (trees_at t order) u) (is_named u) (sym (has-filter is_named (trees_at t order) u) ∙ ap (λ us. has_term us u) (sym n.terms) ∙ has)).0

      pub operand-literals : All (λ k. has_connective (tree now k) ≡ true → HaveLiterals now (names_at now named names) ps k) named
      operand-literals i d lt connective j below there =
          let k : NodeId = get_or named i d in
          let node : IsNode t k = n.nodes i d lt in
          let inside : IsNode t j = omega (arith, node, below) in
          let first = tree-grows t now grows k node in
          let second = tree-grows t now grows j inside in
          let c : has_connective (tree t k) ≡ true = ap has_connective (sym first) ∙ connective in
          let operand : has_term (operands_of (tree t k)) (tree t j) ≡ true =
          ap (λ us. has_term us (tree t j)) (sym (connective-operands (tree t k) c)) ∙ ap (has_term (operands (tree t k))) (sym second) ∙ ap (λ u. has_term (operands u) (tree now j)) (sym first) ∙ there in
          let among = all-has (λ u. has_term (trees_at t order) u ≡ true) (operands_of (tree t k)) (tree t j) (closed-parts (tree t root) (trees_at t order) o.parts o.reached (tree t k) (named-there i d lt) c) operand in
          subst (λ (ms : Named). HasLiteral now ms ps j) (sym given-stay) (part-literal j inside among)

      -- all clauses, and the literal of the root last
      module _ (new : Formulas) (later : GrowsTo now new) (before asserts done : List NodeId) (formula : IsFormula t root) (none : before ≡ []) (last : done ≡ asserts ++ known_in ps 0 root ∷ []) where
        pub done-nodes : All (IsFormula new) asserts → AreNodes new done
        done-nodes formulas =
            subst (λ (ks : List NodeId). AreNodes new ks) (sym last)
            (All-push (IsNode new) asserts (known_in ps 0 root) (All-weaker (IsFormula new) (IsNode new) (λ k f. f.node) asserts formulas)
            (let node = (root-literal formula.node).formula.node in let longer = later.trees.longer in omega (arith, node, longer)))

        pub done-clauses : Puts now new before asserts (all_clauses (names_at now named names) (occurrences true (tree t root)) (names_at now named names))
            → trees_at new done ≡ all_clauses given_names (occurrences true (tree t root)) given_names ++ literal given_names (tree t root) ∷ []
        done-clauses puts =
            let root_literal = root-literal formula.node in
            let clauses_there : trees_at new asserts ≡ all_clauses given_names (occurrences true (tree t root)) given_names =
            puts.terms ∙ ap (λ (ks : List NodeId). trees_at now ks ++ all_clauses (names_at now named names) (occurrences true (tree t root)) (names_at now named names)) none
            ∙ ap (λ (ms : Named). all_clauses ms (occurrences true (tree t root)) ms) given-stay in
            let literal_there : tree new (known_in ps 0 root) ≡ literal given_names (tree t root) =
            tree-grows now new later (known_in ps 0 root) root_literal.formula.node ∙ root_literal.term ∙ ap (literal given_names) (tree-grows t now grows root formula.node) in
            ap (trees_at new) last ∙ map-append (tree_in new.trees) asserts (known_in ps 0 root ∷ []) ∙ (λ i. clauses_there i ++ literal_there i ∷ [])
