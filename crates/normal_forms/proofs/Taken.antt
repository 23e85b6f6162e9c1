-- Parts of kept results, as the terms that they name.
use Rattle.std.proofs.Common.{◌≡◌, ℕ, ◌+◌, ◌<◌, inl, inr, Bool, true, not, List, [], ◌∷◌, ◌++◌, map, length, get_or, All, Option, Some, None, option_map, option_copied, is_some, Bor, refl, ap, sym, ◌∙◌, subst, arith}
use Rattle.std.proofs.Math.ListN.{get_or-append}
use Rattle.std.proofs.Math.Seq.{get_or-append_seam}
use Rattle.std.proofs.lemmas.Bool.Decides.{eqb_tells}
use Rattle.std.proofs.lemmas.List.Elements.{All-head, All-tail}
use Rattle.std.proofs.lemmas.List.{get_or-map, length-map, get_or_default, ext_get_or}
use Rattle.smt_terms.specs.declared.ids.NodeId.{NodeId}
use Rattle.smt_terms.specs.Sorts.{bool}
use Rattle.smt_terms.specs.Rank.{sort_of}
use Rattle.smt_terms.specs.Connectives.{Kind}
use Rattle.smt_terms.specs.Term.{universal, existential, Term, apply, quantified, Terms, none, ◌⨾◌, list}
use Rattle.smt_terms.proofs.Sorted.{quantified_sort}
use Rattle.term_table.specs.Formulas.{Formulas, no_tree, tree, tree_in, trees_at, operands}
use Rattle.term_walk.specs.declared.kept.Place.{Place}
use Rattle.term_walk.specs.Places.{result_at}
use Rattle.term_walk.specs.Walking.{GrowsTo, AreRelated}
use Rattle.normal_forms.specs.declared.node_forms.Forms.{Forms}
use Rattle.normal_forms.specs.FormNodes.{AreForms, HasForms, AreTaken, positive_of, negative_of}
use Rattle.normal_forms.specs.Nodes.{IsFormula, formula_stays}
use Rattle.normal_forms.specs.Nnf.{positive, negative, nnf, nnf_not, nnf_each, nnf_not_each}
use Rattle.normal_forms.specs.Shape.{IsOfKind, is_universally_quantified, quantifier_seen, variables_of, body_in}
use Rattle.term_walk.specs.Binders.{is_quantified}

-- one part more
pub taken-push : (part : Forms → NodeId) (ks : List (Place Forms)) (kids ids new : List NodeId) (n : ℕ) (e : NodeId) (f : Forms) → length ids ≡ n → n < length kids → ((i : ℕ) (d : NodeId) → i < n → option_map part (result_at ks (get_or kids i d).0) ≡ Some (get_or ids i d)) → result_at ks (get_or kids n e).0 ≡ Some f → new ≡ ids ++ part f ∷ [] → (i : ℕ) (d : NodeId) → i < n + 1 → option_map part (result_at ks (get_or kids i d).0) ≡ Some (get_or new i d)
taken-push part ks kids ids new n e f count within each found is i d lt =
    elim (eqb_tells i n) [
      | inl same ↦
          let kid : get_or kids i d ≡ get_or kids n e = ap (λ j. get_or kids j d) same.1 ∙ get_or_default kids n d e within in
          let last : get_or new i d ≡ part f = ap (λ xs. get_or xs i d) is ∙ ap (λ j. get_or (ids ++ part f ∷ []) j d) (same.1 ∙ sym count) ∙ get_or-append_seam ids (part f) [] d in
          ap (λ (k : NodeId). option_map part (result_at ks k.0)) kid ∙ ap (option_map part) found ∙ ap Some (sym last)
      | inr apart ↦
          let below : i < n = let a = apart.1 in omega arith in
          each i d below ∙ ap Some (sym (ap (λ xs. get_or xs i d) is ∙ get_or-append ids (part f ∷ []) d i (omega arith)))
    ]

some-part : (part : Forms → NodeId) (o : Option Forms) (k : NodeId) → option_map part o ≡ Some k → (f : Forms) × (o ≡ Some f) × (part f ≡ k)
some-part part (Some f) k e = (f, refl, cc)
some-part part None k e = absurd cc

module _ (t : Formulas) (u : Term) (ks : List (Place Forms)) (kids ids : List NodeId) (related : AreRelated HasForms t ks) (terms_are : trees_at t kids ≡ operands u) (bools : All (λ v. sort_of v ≡ Some bool) (operands u))
    (part : Forms → NodeId) (form : Term → Term) (good : (v : Term) (f : Forms) → AreForms t v f → IsFormula t (part f) × (tree t (part f) ≡ form v)) (taken : AreTaken part ks kids ids) where
  kid-term : (i : ℕ) (d : NodeId) → i < length kids → tree t (get_or kids i d) ≡ get_or (operands u) i no_tree
  kid-term i d lt = sym (get_or-map (tree_in t.trees) kids i d no_tree lt) ∙ ap (λ us. get_or us i no_tree) terms_are

  kids-count : length kids ≡ length (operands u)
  kids-count = sym (length-map kids (tree_in t.trees)) ∙ ap length terms_are

  pub each-taken : (i : ℕ) (d : NodeId) → i < length kids → IsFormula t (get_or ids i d) × (tree t (get_or ids i d) ≡ form (get_or (operands u) i no_tree))
  each-taken i d lt =
      let count = kids-count in
      let p = some-part part (result_at ks (get_or kids i d).0) (get_or ids i d) (taken.each i d lt) in
      let sort : sort_of (tree t (get_or kids i d)) ≡ Some bool = ap sort_of (kid-term i d lt) ∙ bools i no_tree (omega (arith, count)) in
      let forms = related.related (get_or kids i d) p.0 p.1 sort in
      let h = good (tree t (get_or kids i d)) p.0 forms in
      (subst (IsFormula t) p.2 h.0, ap (tree t) (sym p.2) ∙ h.1 ∙ ap form (kid-term i d lt))

  pub taken-formulas : All (IsFormula t) ids
  taken-formulas i d lt = let n = taken.number in (each-taken i d (omega arith)).0

  pub taken-terms : trees_at t ids ≡ map form (operands u)
  taken-terms =
      let n = taken.number in
      let count = kids-count in
      let zero_node : NodeId = record { 0 = 0 } in
      let ids_count : length (trees_at t ids) ≡ length ids = length-map ids (tree_in t.trees) in
      let forms_count : length (map form (operands u)) ≡ length (operands u) = length-map (operands u) form in
      ext_get_or no_tree (trees_at t ids) (map form (operands u)) (omega (arith, n, count, ids_count, forms_count))
      (λ i lt. get_or-map (tree_in t.trees) ids i zero_node no_tree (omega (arith, ids_count)) ∙ (each-taken i zero_node (omega (arith, n, ids_count))).1 ∙ sym (get_or-map form (operands u) i no_tree no_tree (omega (arith, n, count, ids_count))))

pub positive-good : (t : Formulas) (v : Term) (f : Forms) → AreForms t v f → IsFormula t (positive_of f) × (tree t (positive_of f) ≡ nnf v)
positive-good t v f h = (h.positive, h.yes)

pub negative-good : (t : Formulas) (v : Term) (f : Forms) → AreForms t v f → IsFormula t (negative_of f) × (tree t (negative_of f) ≡ nnf_not v)
negative-good t v f h = (h.negative, h.no)

-- forms that were kept of these two nodes
forms-are : (t : Formulas) (u : Term) (f : Forms) (p n : NodeId) → positive_of f ≡ p → negative_of f ≡ n → IsFormula t p → IsFormula t n → tree t p ≡ nnf u → tree t n ≡ nnf_not u → AreForms t u f
forms-are t u f p n is_positive is_negative p_formula n_formula p_term n_term = record {
  positive = subst (IsFormula t) (sym is_positive) p_formula;
  negative = subst (IsFormula t) (sym is_negative) n_formula;
  yes = ap (tree t) is_positive ∙ p_term;
  no = ap (tree t) is_negative ∙ n_term;
}

-- ---- the definitions, by a term's kind

each-nnf : (ts : Terms) → nnf_each ts ≡ map nnf (list ts)
each-nnf none = refl
each-nnf (t ⨾ ts) = ap (λ us. nnf t ∷ us) (each-nnf ts)

each-not : (ts : Terms) → nnf_not_each ts ≡ map nnf_not (list ts)
each-not none = refl
each-not (t ⨾ ts) = ap (λ us. nnf_not t ∷ us) (each-not ts)

pub nnf-kind : (u : Term) (k : Kind) → IsOfKind u k → nnf u ≡ positive k u (map nnf (operands u)) (map nnf_not (operands u))
nnf-kind (quantified q xs t) k is = let h = is.0 in absurd cc
nnf-kind (apply h ts) k is = ap (λ j. positive j (apply h ts) (nnf_each ts) (nnf_not_each ts)) is.1 ∙ (λ i. positive k (apply h ts) (each-nnf ts i) (each-not ts i))

pub not-kind : (u : Term) (k : Kind) → IsOfKind u k → nnf_not u ≡ negative k u (map nnf (operands u)) (map nnf_not (operands u))
not-kind (quantified q xs t) k is = let h = is.0 in absurd cc
not-kind (apply h ts) k is = ap (λ j. negative j (apply h ts) (nnf_each ts) (nnf_not_each ts)) is.1 ∙ (λ i. negative k (apply h ts) (each-nnf ts i) (each-not ts i))

pub nnf-quantified : (u : Term) → is_quantified u ≡ true → nnf u ≡ quantified (quantifier_seen (is_universally_quantified u)) (variables_of u) (nnf (body_in u))
nnf-quantified (quantified universal xs t) e = refl
nnf-quantified (quantified existential xs t) e = refl
nnf-quantified (apply h ts) e = absurd cc

pub not-quantified : (u : Term) → is_quantified u ≡ true → nnf_not u ≡ quantified (quantifier_seen (not (is_universally_quantified u))) (variables_of u) (nnf_not (body_in u))
not-quantified (quantified universal xs t) e = refl
not-quantified (quantified existential xs t) e = refl
not-quantified (apply h ts) e = absurd cc

pub body-bool : (u : Term) → is_quantified u ≡ true → sort_of u ≡ Some bool → sort_of (body_in u) ≡ Some bool
body-bool (quantified q xs t) e has = (quantified_sort q xs t bool has).body
body-bool (apply h ts) e has = absurd cc

-- what is kept of the body of a quantified formula
pub body-forms : (t : Formulas) (ks : List (Place Forms)) (id k : NodeId) (f : Forms) → IsFormula t id → is_quantified (tree t id) ≡ true → AreRelated HasForms t ks → tree t k ≡ body_in (tree t id) → result_at ks k.0 ≡ Some f → AreForms t (body_in (tree t id)) f
body-forms t ks id k f formula seen related term found =
    subst (λ u. AreForms t u f) term (related.related k f found (ap sort_of term ∙ body-bool (tree t id) seen formula.sort))

-- ---- a list of formulas as the table gains

module _ (old new : Formulas) (ks : List NodeId) (grows : GrowsTo old new) (formulas : All (IsFormula old) ks) where
  pub formulas-stay : All (IsFormula new) ks
  formulas-stay i d lt = formula_stays old new (get_or ks i d) grows (formulas i d lt)

pub trees-stay : (old new : Formulas) (ks : List NodeId) → GrowsTo old new → All (IsFormula old) ks → trees_at new ks ≡ trees_at old ks
trees-stay old new [] grows formulas = refl
trees-stay old new (k ∷ ks) grows formulas =
    let first : tree new k ≡ tree old k = grows.trees.same k.0 no_tree (All-head (IsFormula old) k ks formulas).node in
    let rest = trees-stay old new ks grows (All-tail (IsFormula old) k ks formulas) in
    λ i. first i ∷ rest i

pub copied-some : {T : Type 0} (o : Option (Bor T)) → is_some (option_copied o) ≡ true → is_some o ≡ true
copied-some (Some r) h = refl
copied-some None h = h

-- ---- the two forms of a connective, made one after the other

pub connected-forms : (t0 t1 t2 : Formulas) (u : Term) (k : Kind) (ps ns : List NodeId) (p n : NodeId) (f : Forms)
    → positive_of f ≡ p → negative_of f ≡ n
    → IsOfKind u k
    → All (IsFormula t0) ps → All (IsFormula t0) ns
    → trees_at t0 ps ≡ map nnf (operands u) → trees_at t0 ns ≡ map nnf_not (operands u)
    → GrowsTo t0 t1 → GrowsTo t1 t2
    → IsFormula t1 p → tree t1 p ≡ positive k u (trees_at t0 ps) (trees_at t0 ns)
    → IsFormula t2 n → tree t2 n ≡ negative k u (trees_at t1 ps) (trees_at t1 ns)
    → AreForms t2 u f
connected-forms t0 t1 t2 u k ps ns p n f is_positive is_negative kind ps_formulas ns_formulas ps_terms ns_terms grows grows_on p_formula p_term n_formula n_term =
    forms-are t2 u f p n is_positive is_negative (formula_stays t1 t2 p grows_on p_formula) n_formula
    (grows_on.trees.same p.0 no_tree p_formula.node
    ∙ p_term
    ∙ (λ i. positive k u (ps_terms i) (ns_terms i))
    ∙ sym (nnf-kind u k kind))
    (n_term
    ∙ (λ i. negative k u (trees-stay t0 t1 ps grows ps_formulas i) (trees-stay t0 t1 ns grows ns_formulas i))
    ∙ (λ i. negative k u (ps_terms i) (ns_terms i))
    ∙ sym (not-kind u k kind))

-- ---- the two forms of a quantified formula, bound one after the other

pub bound-forms : (t0 t1 t2 : Formulas) (id : NodeId) (body f : Forms) (p n : NodeId) (b : Bool)
    → positive_of f ≡ p → negative_of f ≡ n
    → IsFormula t0 id → is_quantified (tree t0 id) ≡ true → b ≡ is_universally_quantified (tree t0 id)
    → AreForms t0 (body_in (tree t0 id)) body
    → GrowsTo t0 t1 → GrowsTo t1 t2
    → IsFormula t1 p → tree t1 p ≡ quantified (quantifier_seen b) (variables_of (tree t0 id)) (tree t0 (positive_of body))
    → IsFormula t2 n → tree t2 n ≡ quantified (quantifier_seen (not b)) (variables_of (tree t1 id)) (tree t1 (negative_of body))
    → AreForms t2 (tree t0 id) f
bound-forms t0 t1 t2 id body f p n b is_positive is_negative formula seen universal_is forms grows grows_on p_formula p_term n_formula n_term =
    let same : tree t1 id ≡ tree t0 id = grows.trees.same id.0 no_tree formula.node in
    let no : tree t1 (negative_of body) ≡ nnf_not (body_in (tree t0 id)) = grows.trees.same (negative_of body).0 no_tree forms.negative.node ∙ forms.no in
    forms-are t2 (tree t0 id) f p n is_positive is_negative (formula_stays t1 t2 p grows_on p_formula) n_formula
    (grows_on.trees.same p.0 no_tree p_formula.node
    ∙ p_term
    ∙ (λ i. quantified (quantifier_seen (universal_is i)) (variables_of (tree t0 id)) (forms.yes i))
    ∙ sym (nnf-quantified (tree t0 id) seen))
    (n_term
    ∙ (λ i. quantified (quantifier_seen (not (universal_is i))) (variables_of (same i)) (no i))
    ∙ sym (not-quantified (tree t0 id) seen))
