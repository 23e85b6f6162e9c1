-- Results that are and-inverter forms, as the terms that they name.
use Rattle.std.proofs.Common.{◌≡◌, ℕ, suc, ◌+◌, ◌<◌, inl, inr, true, List, [], ◌∷◌, ◌++◌, map, length, get_or, All, Some, refl, ap, sym, ◌∙◌, subst, arith}
use Rattle.std.proofs.Math.ListN.{get_or-append}
use Rattle.std.proofs.Math.Seq.{get_or-append_seam}
use Rattle.std.proofs.lemmas.Bool.Decides.{eqb_tells}
use Rattle.std.proofs.lemmas.List.{get_or-map, length-map, get_or_default, ext_get_or}
use Rattle.smt_terms.specs.declared.ids.NodeId.{NodeId}
use Rattle.smt_terms.specs.declared.op.Op.TheVariants.{Not as NotOp}
use Rattle.smt_terms.specs.Sorts.{bool}
use Rattle.smt_terms.specs.Rank.{sort_of}
use Rattle.smt_terms.specs.Connectives.{Kind, negation, operator_kind, opposite}
use Rattle.smt_terms.specs.Term.{universal, existential, op, Term, apply, quantified, Terms, none, ◌⨾◌, list, over}
use Rattle.term_table.specs.Formulas.{Formulas, no_tree, tree, tree_in, trees_at, operands, AreNodes}
use Rattle.term_walk.specs.declared.kept.Place.{Place}
use Rattle.term_walk.specs.Walking.{GrowsTo, AreRelated}
use Rattle.normal_forms.specs.declared.connective.Connective.TheVariants.{Not}
use Rattle.normal_forms.specs.Aig.{inverted, aig, aig_each}
use Rattle.normal_forms.specs.InvertedNodes.{IsInverted, HasInverted}
use Rattle.normal_forms.specs.Nodes.{IsFormula, formula_stays}
use Rattle.normal_forms.specs.Shape.{IsOfKind, is_universally_quantified, quantifier_seen, variables_of, body_in, term_kind}
use Rattle.term_walk.specs.Binders.{is_quantified}
use Rattle.normal_forms.specs.Results.{AreResults}
use Rattle.normal_forms.proofs.KeptResults.{kids-count, kid-term, each-related, terms-of-results}
use Rattle.normal_forms.proofs.NodeShapes.{AreOperands, connective-operands}

-- ---- what stands under a `not`

of-not : (u : Term) (us : List Term) → u ≡ over (op NotOp) us → IsOfKind u negation
unfolding operator_kind
of-not u us e = (ap is_quantified e, ap term_kind e)

only-kid : (t : Formulas) (u : Term) (kids : List NodeId) (d : NodeId) → u ≡ over (op NotOp) (operands u) → trees_at t kids ≡ operands u → length (operands u) ≡ 1 → tree t (get_or kids 0 d) ≡ opposite u
only-kid t u [] d e terms_are one = let none_there : 0 ≡ length (operands u) = ap length terms_are in absurd (omega (arith, one))
only-kid t u (k ∷ []) d e terms_are one = ap opposite (sym (e ∙ ap (over (op NotOp)) (sym terms_are)))
only-kid t u (k ∷ j ∷ kids) d e terms_are one = let more : suc (suc (length (trees_at t kids))) ≡ length (operands u) = ap length terms_are in absurd (omega (arith, one))

pub one-kid : (t : Formulas) (u : Term) (kids : List NodeId) → u ≡ over (op NotOp) (operands u) → sort_of u ≡ Some bool → trees_at t kids ≡ operands u → length kids ≡ 1
one-kid t u kids e has terms_are =
    let some : AreOperands u Not = connective-operands u Not has (of-not u (operands u) e) in
    sym (length-map kids (tree_in t.trees)) ∙ ap length terms_are ∙ some.number

pub under-not : (t : Formulas) (u : Term) (kids : List NodeId) (d : NodeId) → u ≡ over (op NotOp) (operands u) → sort_of u ≡ Some bool → trees_at t kids ≡ operands u → AreNodes t kids → IsFormula t (get_or kids 0 d) × (tree t (get_or kids 0 d) ≡ opposite u)
under-not t u kids d e has terms_are nodes =
    let some : AreOperands u Not = connective-operands u Not has (of-not u (operands u) e) in
    let one = one-kid t u kids e has terms_are in
    let number : length (operands u) ≡ 1 = some.number in
    let first : tree t (get_or kids 0 d) ≡ get_or (operands u) 0 no_tree = sym (get_or-map (tree_in t.trees) kids 0 d no_tree (omega (arith, one))) ∙ ap (λ us. get_or us 0 no_tree) terms_are in
    (record { node = nodes 0 d (omega (arith, one)); sort = ap sort_of first ∙ some.formulas 0 no_tree (omega (arith, number)) }, only-kid t u kids d e terms_are number)

-- ---- opposites, one for each

pub record IsOpposite (old new : Formulas) (k o : NodeId) : Type 0 where
  pub formula : IsFormula new o
  pub term : tree new o ≡ opposite (tree old k)

opposite-stays : (t0 t1 t2 : Formulas) (k o : NodeId) → GrowsTo t1 t2 → IsOpposite t0 t1 k o → IsOpposite t0 t2 k o
opposite-stays t0 t1 t2 k o grows h = record {
  formula = formula_stays t1 t2 o grows h.formula;
  term = grows.trees.same o.0 no_tree h.formula.node ∙ h.term;
}

pub opposites-push : (t0 t1 t2 : Formulas) (kids ids new : List NodeId) (n : ℕ) (e r : NodeId) → GrowsTo t1 t2 → length ids ≡ n → n < length kids → ((i : ℕ) (d : NodeId) → i < n → IsOpposite t0 t1 (get_or kids i d) (get_or ids i d)) → IsOpposite t0 t2 (get_or kids n e) r → new ≡ ids ++ r ∷ [] → (i : ℕ) (d : NodeId) → i < n + 1 → IsOpposite t0 t2 (get_or kids i d) (get_or new i d)
opposites-push t0 t1 t2 kids ids new n e r grows count within each found is i d lt =
    elim (eqb_tells i n) [
      | inl same ↦
          let kid : get_or kids i d ≡ get_or kids n e = ap (λ j. get_or kids j d) same.1 ∙ get_or_default kids n d e within in
          let last : get_or new i d ≡ r = ap (λ xs. get_or xs i d) is ∙ ap (λ j. get_or (ids ++ r ∷ []) j d) (same.1 ∙ sym count) ∙ get_or-append_seam ids r [] d in
          subst (λ (o : NodeId). IsOpposite t0 t2 (get_or kids i d) o) (sym last) (subst (λ (k : NodeId). IsOpposite t0 t2 k r) (sym kid) found)
      | inr apart ↦
          let below : i < n = let a = apart.1 in omega arith in
          let there : get_or new i d ≡ get_or ids i d = ap (λ xs. get_or xs i d) is ∙ get_or-append ids (r ∷ []) d i (omega (arith, count)) in
          subst (λ (o : NodeId). IsOpposite t0 t2 (get_or kids i d) o) (sym there) (opposite-stays t0 t1 t2 (get_or kids i d) (get_or ids i d) grows (each i d below))
    ]

pub opposite-terms : (old new : Formulas) (kids ids : List NodeId) → length ids ≡ length kids → ((i : ℕ) (d : NodeId) → i < length kids → IsOpposite old new (get_or kids i d) (get_or ids i d)) → trees_at new ids ≡ map opposite (trees_at old kids)
opposite-terms old new kids ids count each =
    let zero_node : NodeId = record { 0 = 0 } in
    let ids_count : length (trees_at new ids) ≡ length ids = length-map ids (tree_in new.trees) in
    let kids_count : length (trees_at old kids) ≡ length kids = length-map kids (tree_in old.trees) in
    let forms_count : length (map opposite (trees_at old kids)) ≡ length (trees_at old kids) = length-map (trees_at old kids) opposite in
    ext_get_or no_tree (trees_at new ids) (map opposite (trees_at old kids)) (omega (arith, count, ids_count, kids_count, forms_count))
    (λ i lt. get_or-map (tree_in new.trees) ids i zero_node no_tree (omega (arith, ids_count)) ∙ (each i zero_node (omega (arith, count, ids_count))).term ∙ sym (ap opposite (get_or-map (tree_in old.trees) kids i zero_node no_tree (omega (arith, count, ids_count)))) ∙ sym (get_or-map opposite (trees_at old kids) i no_tree no_tree (omega (arith, count, ids_count, kids_count))))

-- ---- results, one for each

module _ (t : Formulas) (u : Term) (ks : List (Place NodeId)) (kids ids : List NodeId) (related : AreRelated HasInverted t ks) (terms_are : trees_at t kids ≡ operands u) (bools : All (λ v. sort_of v ≡ Some bool) (operands u)) (found : AreResults ks kids ids) where
  kids-bool : (i : ℕ) (d : NodeId) → i < length kids → sort_of (tree t (get_or kids i d)) ≡ Some bool
  kids-bool i d lt =
      let count = kids-count t u kids terms_are in
      ap sort_of (kid-term t u kids terms_are i d lt) ∙ bools i no_tree (omega (arith, count))

  each-inverted : (i : ℕ) (d : NodeId) → i < length kids → IsInverted t (tree t (get_or kids i d)) (get_or ids i d)
  each-inverted i d lt = each-related HasInverted t ks kids ids related found i d lt (kids-bool i d lt)

  pub inverted-formulas : All (IsFormula t) ids
  inverted-formulas i d lt = let n = found.number in (each-inverted i d (omega (arith, n))).formula

  pub inverted-terms : trees_at t ids ≡ map aig (operands u)
  inverted-terms = terms-of-results t u kids ids terms_are found.number aig (λ i d lt. (each-inverted i d lt).term)

-- ---- the definition, by a term's kind

each-aig : (ts : Terms) → aig_each ts ≡ map aig (list ts)
each-aig none = refl
each-aig (t ⨾ ts) = ap (λ us. aig t ∷ us) (each-aig ts)

pub aig-kind : (u : Term) (k : Kind) → IsOfKind u k → aig u ≡ inverted k u (map aig (operands u))
aig-kind (quantified q xs t) k is = let h = is.0 in absurd cc
aig-kind (apply h ts) k is = ap (λ j. inverted j (apply h ts) (aig_each ts)) is.1 ∙ ap (inverted k (apply h ts)) (each-aig ts)

pub aig-quantified : (u : Term) → is_quantified u ≡ true → aig u ≡ quantified (quantifier_seen (is_universally_quantified u)) (variables_of u) (aig (body_in u))
aig-quantified (quantified universal xs t) e = refl
aig-quantified (quantified existential xs t) e = refl
aig-quantified (apply h ts) e = absurd cc
