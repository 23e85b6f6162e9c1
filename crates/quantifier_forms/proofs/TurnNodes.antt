-- One turn over nodes: the leftmost quantified formula goes in front, and what becomes of its body takes its place.
use Rattle.std.proofs.Common.{◌≡◌, suc, ◌<◌, ◌≤◌, List, [], ◌∷◌, ◌++◌, Some, ap, sym, ◌∙◌, subst, arith}
use Rattle.smt_terms.specs.declared.ids.NodeId.{NodeId}
use Rattle.smt_terms.specs.Fresh.{Supply}
use Rattle.smt_terms.specs.Rank.{sort_of}
use Rattle.smt_terms.specs.Sorts.{bool}
use Rattle.smt_terms.specs.SubstLaws.{GivesNone, names_within}
use Rattle.smt_terms.specs.Term.{Term}
use Rattle.term_table.specs.Formulas.{Formulas, tree, trees_at}
use Rattle.term_walk.specs.Walking.{GrowsTo}
use Rattle.normal_forms.specs.Nodes.{IsFormula, formula_stays}
use Rattle.normal_forms.specs.Prenex.{whole, leftmost, replaced, quantifiers}
use Rattle.term_walk.specs.Binders.{is_quantified}
use Rattle.quantifier_forms.specs.declared.pulling.Bound.{Bound}
use Rattle.quantifier_forms.specs.Exchanging.{IsExchange, IsExchanged}
use Rattle.quantifier_forms.specs.Pulling.{all_fresh, fresh_body, Front, fronts_at, AreFronts}
use Rattle.quantifier_forms.specs.Reaching.{parts_of, first_quantified, IsBinder, AreReached}
use Rattle.quantifier_forms.proofs.Exchanged.{exchange-stays, exchanged-formula}
use Rattle.quantifier_forms.proofs.Pulled.{parts-whole, fronts-stay}
use Rattle.quantifier_forms.proofs.Sweeps.{tree-stays, node-stays}
use Rattle.quantifier_forms.proofs.Turned.{next, next-less, LeadsOn, leads-next, found-spared, next-spared}

-- from: the first quantified node of those that are reached from the matrix
module _ (t : Formulas) (bs ks js : List NodeId) (matrix from : NodeId) (s : Supply) (is : IsBinder t from) (order : AreReached t bs matrix ks) (same : js ≡ ks) (first : first_quantified (trees_at t js) ≡ Some (parts_of (tree t from))) where
  pub leftmost-found : leftmost (tree t matrix) ≡ Some (parts_of (tree t from))
  leftmost-found = sym order.first ∙ ap (λ is. first_quantified (trees_at t is)) (sym same) ∙ first

  pub found-names : GivesNone s (names_within (tree t matrix)) → GivesNone s (names_within (tree t from))
  found-names given = subst (λ u. GivesNone s (names_within u)) (parts-whole (tree t from) is.quantified) (found-spared (tree t matrix) (parts_of (tree t from)) s leftmost-found given)

pub is-exchange : (t0 t1 : Formulas) (from to : NodeId) → IsBinder t0 from → GrowsTo t0 t1 → IsFormula t1 to → IsExchange t1 (record { from = from; to = to })
is-exchange t0 t1 from to is grows image = record {
  from = record { formula = formula_stays t0 t1 from grows is.formula; quantified = ap is_quantified (tree-stays t0 t1 from grows is.formula.node) ∙ is.quantified };
  to = image;
}

module _ (t0 t1 t2 : Formulas) (matrix from to r : NodeId) (s0 s1 : Supply) (is : IsBinder t0 from) (formula : IsFormula t0 matrix) (found : leftmost (tree t0 matrix) ≡ Some (parts_of (tree t0 from))) (first : GrowsTo t0 t1) (then : GrowsTo t1 t2)
    (image : IsFormula t1 to) (term : tree t1 to ≡ (fresh_body (parts_of (tree t0 from)) s0).0) (left : s1 ≡ (fresh_body (parts_of (tree t0 from)) s0).1) (exchanged : IsExchanged t2 (record { from = from; to = to }) matrix r) where
  pub next-formula : IsFormula t2 r
  next-formula = exchanged-formula t2 (record { from = from; to = to }) matrix r (exchange-stays t1 t2 (record { from = from; to = to }) then (is-exchange t0 t1 from to is first image)) exchanged (formula_stays t1 t2 matrix then (formula_stays t0 t1 matrix first formula))

  pub next-tree : tree t2 r ≡ next (tree t0 matrix) (parts_of (tree t0 from)) s0
  next-tree =
      let f_same : tree t2 from ≡ whole (parts_of (tree t0 from)) =
      tree-stays t1 t2 from then (node-stays t0 t1 from first is.formula.node) ∙ tree-stays t0 t1 from first is.formula.node ∙ sym (parts-whole (tree t0 from) is.quantified) in
      let by_same : tree t2 to ≡ (fresh_body (parts_of (tree t0 from)) s0).0 = tree-stays t1 t2 to then image.node ∙ term in
      let matrix_same : tree t2 matrix ≡ tree t0 matrix = tree-stays t1 t2 matrix then (node-stays t0 t1 matrix first formula.node) ∙ tree-stays t0 t1 matrix first formula.node in
      exchanged.term ∙ (λ i. replaced (f_same i) (by_same i) (matrix_same i))

  pub next-names : GivesNone s0 (names_within (tree t0 matrix)) → GivesNone s1 (names_within (tree t2 r))
  next-names given =
      let f = parts_of (tree t0 from) in
      let sort : sort_of (whole f) ≡ Some bool = ap sort_of (parts-whole (tree t0 from) is.quantified) ∙ is.formula.sort in
      let now : GivesNone (fresh_body f s0).1 (names_within (next (tree t0 matrix) f s0)) = next-spared (tree t0 matrix) f s0 found given sort in
      subst (λ (s : Supply). GivesNone s (names_within (tree t2 r))) (sym left) (subst (λ (u : Term). GivesNone (fresh_body f s0).1 (names_within u)) (sym next-tree) now)

  pub next-smaller : quantifiers (tree t2 r) < quantifiers (tree t0 matrix)
  next-smaller =
      let f = parts_of (tree t0 from) in
      let less : suc (quantifiers (next (tree t0 matrix) f s0)) ≤ quantifiers (tree t0 matrix) = next-less (tree t0 matrix) f s0 found in
      let same : quantifiers (tree t2 r) ≡ quantifiers (next (tree t0 matrix) f s0) = ap quantifiers next-tree in
      omega (arith, less, same)

  pub next-leads : (u : Term) (s : Supply) (old new : List Bound) → LeadsOn u s (fronts_at t0 old) (tree t0 matrix) s0 → AreFronts t1 new
      → fronts_at t1 new ≡ fronts_at t0 old ++ record { quantifier = (parts_of (tree t0 from)).quantifier; variables = (all_fresh (parts_of (tree t0 from)).variables s0).variables } ∷ []
      → LeadsOn u s (fronts_at t2 new) (tree t2 r) s1
  next-leads u s old new leads are pushed =
      let f = parts_of (tree t0 from) in
      let fronts = fronts-stay t1 t2 new then are ∙ pushed in
      let now = leads-next u (tree t0 matrix) s s0 (fronts_at t0 old) f found leads in
      subst (λ (fs : List Front). LeadsOn u s fs (tree t2 r) s1) (sym fronts)
      (subst (λ (v : Term). LeadsOn u s (fronts_at t0 old ++ record { quantifier = f.quantifier; variables = (all_fresh f.variables s0).variables } ∷ []) v s1) (sym next-tree)
      (subst (λ (rest : Supply). LeadsOn u s (fronts_at t0 old ++ record { quantifier = f.quantifier; variables = (all_fresh f.variables s0).variables } ∷ []) (next (tree t0 matrix) f s0) rest) (sym left) now))
