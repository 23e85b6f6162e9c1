-- The clauses of names, one after the other.
use Rattle.std.proofs.Common.{◌≡◌, ℕ, ◌+◌, ◌<◌, List, ◌∷◌, ◌++◌, append_assoc, drop, length, get_or, ap, sym, ◌∙◌, arith}
use Rattle.std.proofs.lemmas.List.{drop_more}
use Rattle.smt_terms.specs.declared.ids.NodeId.{NodeId}
use Rattle.smt_terms.specs.Groups.{Named, has_term}
use Rattle.smt_terms.specs.Term.{Term}
use Rattle.term_table.specs.Formulas.{Formulas, tree, trees_at, operands, IsNode}
use Rattle.term_walk.specs.Walking.{GrowsTo}
use Rattle.term_subst.proofs.Growing.{tree-grows}
use Rattle.quantifier_forms.specs.Memos.{Results, known_in}
use Rattle.normal_forms.specs.Nodes.{formula_stays}
use Rattle.cnf_polarity.specs.Cnf.{Occurrence, literal, clauses}
use Rattle.cnf_polarity.specs.Literals.{symbol_in, names_at, HasLiteral, HaveLiterals}
use Rattle.cnf_polarity.specs.Putting.{Puts, all_clauses}

-- ---- what was kept, as the table gains

module _ (old new : Formulas) (grows : GrowsTo old new) (ns : Named) (ps : Results) where
  pub literal-stays : (k : NodeId) → IsNode old k → HasLiteral old ns ps k → HasLiteral new ns ps k
  literal-stays k node has = record {
    formula = formula_stays old new (known_in ps 0 k) grows has.formula;
    term = tree-grows old new grows (known_in ps 0 k) has.formula.node ∙ has.term ∙ ap (literal ns) (sym (tree-grows old new grows k node));
  }

  pub literals-stay : (k : NodeId) → IsNode old k → HaveLiterals old ns ps k → HaveLiterals new ns ps k
  literals-stay k node have j below there =
      let inside : IsNode old j = omega (arith, node, below) in
      let same : has_term (operands (tree new k)) (tree new j) ≡ has_term (operands (tree old k)) (tree old j) =
      ap (λ u. has_term (operands u) (tree new j)) (tree-grows old new grows k node) ∙ ap (has_term (operands (tree old k))) (tree-grows old new grows j inside) in
      literal-stays j inside (have j below (sym same ∙ there))

-- ---- one name more

module _ (t : Formulas) (ks es : List NodeId) where
  names-next : (i : ℕ) (d : NodeId) → i < length ks → i < length es → names_at t (drop i ks) (drop i es) ≡ (symbol_in (tree t (get_or es i d)), tree t (get_or ks i d)) ∷ names_at t (drop (i + 1) ks) (drop (i + 1) es)
  names-next i d lt less =
      let first = drop_more ks i d lt in
      let second = drop_more es i d less in
      λ j. names_at t (first j) (second j)

  pub clauses-next : (ns : Named) (os : List Occurrence) (now new : Formulas) (a b : List NodeId) (whole : List Term) (i : ℕ) (d : NodeId) → i < length ks → i < length es
      → tree now (get_or ks i d) ≡ tree t (get_or ks i d) → Puts now new a b (clauses ns os (symbol_in (tree t (get_or es i d))) (tree now (get_or ks i d)))
      → trees_at now a ++ all_clauses ns os (names_at t (drop i ks) (drop i es)) ≡ whole → trees_at new b ++ all_clauses ns os (names_at t (drop (i + 1) ks) (drop (i + 1) es)) ≡ whole
  clauses-next ns os now new a b whole i d lt less stays puts so_far =
      let f = symbol_in (tree t (get_or es i d)) in
      let later = all_clauses ns os (names_at t (drop (i + 1) ks) (drop (i + 1) es)) in
      ap (λ us. us ++ later) (puts.terms ∙ ap (λ u. trees_at now a ++ clauses ns os f u) stays)
      ∙ append_assoc (trees_at now a) (clauses ns os f (tree t (get_or ks i d))) later
      ∙ ap (λ ms. trees_at now a ++ all_clauses ns os ms) (sym (names-next i d lt less))
      ∙ so_far
