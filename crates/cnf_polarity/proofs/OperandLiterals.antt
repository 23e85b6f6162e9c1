-- The literals that are kept of a connective's operands, and its clauses of them.
use Rattle.std.proofs.Common.{◌≡◌, ◌<◌, Bool, true, false, List, [], ◌∷◌, ◌++◌, map, get_or, All, refl, ap, ◌∙◌, subst}
use Rattle.std.proofs.lemmas.List.Elements.{All-nil, All-cons, All-head, All-tail, All-map}
use Rattle.smt_terms.specs.declared.ids.NodeId.{NodeId}
use Rattle.smt_terms.specs.Connectives.{Kind, truth_value, atom, is_connective, kind_of}
use Rattle.smt_terms.specs.Equal.{term_eq}
use Rattle.smt_terms.specs.Groups.{Named, has_term, where_so}
use Rattle.smt_terms.specs.Sorts.{Symbol}
use Rattle.smt_terms.specs.Term.{Term, apply, quantified, Terms, none, ◌⨾◌, list, constant}
use Rattle.smt_terms.proofs.Tests.{left_true, right_true}
use Rattle.term_table.specs.Formulas.{Formulas, tree, trees_at, operands}
use Rattle.quantifier_forms.specs.Memos.{Results, known_in}
use Rattle.normal_forms.specs.Nodes.{IsFormula}
use Rattle.normal_forms.specs.Shape.{IsOfKind}
use Rattle.cnf_polarity.specs.Cnf.{Occurrence, occurs, literal, literals, positive_clauses, negative_clauses, clauses}
use Rattle.cnf_polarity.specs.Literals.{HasLiteral, HaveFormulas, HaveLiterals}
use Rattle.cnf_polarity.specs.Shapes.{has_connective}
use Rattle.cnf_polarity.proofs.TermLists.{term_itself}

-- ---- the operands' nodes

each-there : (t : Formulas) (ks : List NodeId) → All (λ k. has_term (trees_at t ks) (tree t k) ≡ true) ks
each-there t [] = All-nil (λ k. has_term [] (tree t k) ≡ true)
each-there t (k ∷ ks) =
    All-cons (λ j. has_term (trees_at t (k ∷ ks)) (tree t j) ≡ true) k ks
    (left_true (term_eq (tree t k) (tree t k)) (has_term (trees_at t ks) (tree t k)) (term_itself (tree t k)))
    (λ i d lt. right_true (term_eq (tree t k) (tree t (get_or ks i d))) (has_term (trees_at t ks) (tree t (get_or ks i d))) (each-there t ks i d lt))

literals-known : (t : Formulas) (ns : Named) (ps : Results) (ks : List NodeId) → All (HasLiteral t ns ps) ks → trees_at t (map (known_in ps 0) ks) ≡ map (literal ns) (trees_at t ks)
literals-known t ns ps [] all = refl
literals-known t ns ps (k ∷ ks) all =
    let first = (All-head (HasLiteral t ns ps) k ks all).term in
    let rest = literals-known t ns ps ks (All-tail (HasLiteral t ns ps) k ks all) in
    λ i. first i ∷ rest i

module _ (t : Formulas) (ps : Results) (k : NodeId) (kids : List NodeId) (terms_are : trees_at t kids ≡ operands (tree t k)) (below : All (λ j. j.0 < k.0) kids) where
  operand-there : All (λ j. has_term (operands (tree t k)) (tree t j) ≡ true) kids
  operand-there i d lt = subst (λ us. has_term us (tree t (get_or kids i d)) ≡ true) terms_are (each-there t kids i d lt)

  pub known-formulas : HaveFormulas t ps k → All (IsFormula t) (map (known_in ps 0) kids)
  known-formulas have = All-map (IsFormula t) (known_in ps 0) kids (λ i d lt. have (get_or kids i d) (below i d lt) (operand-there i d lt))

  pub known-terms : (ns : Named) → HaveLiterals t ns ps k → trees_at t (map (known_in ps 0) kids) ≡ map (literal ns) (operands (tree t k))
  known-terms ns have =
      literals-known t ns ps kids (λ i d lt. have (get_or kids i d) (below i d lt) (operand-there i d lt))
      ∙ ap (map (literal ns)) terms_are

-- ---- the clauses of a term, by its kind

pub each-literal : (ns : Named) (ts : Terms) → literals ns ts ≡ map (literal ns) (list ts)
each-literal ns none = refl
each-literal ns (t ⨾ ts) = ap (λ us. literal ns t ∷ us) (each-literal ns ts)

pub clauses-by : (ns : Named) (os : List Occurrence) (f : Symbol) (u : Term) (k : Kind) → IsOfKind u k
    → clauses ns os f u ≡ where_so (occurs true u os) (positive_clauses k (constant f) (map (literal ns) (operands u))) ++ where_so (occurs false u os) (negative_clauses k (constant f) (map (literal ns) (operands u)))
clauses-by ns os f (quantified q xs body) k is = let h = is.0 in absurd cc
clauses-by ns os f (apply h ts) k is =
    ap (λ j. where_so (occurs true (apply h ts) os) (positive_clauses j (constant f) (literals ns ts)) ++ where_so (occurs false (apply h ts) os) (negative_clauses j (constant f) (literals ns ts))) is.1
    ∙ ap (λ ls. where_so (occurs true (apply h ts) os) (positive_clauses k (constant f) ls) ++ where_so (occurs false (apply h ts) os) (negative_clauses k (constant f) ls)) (each-literal ns ts)

where-nothing : (b : Bool) → where_so b [] ≡ []
where-nothing true = refl
where-nothing false = refl

pub no-clauses : (ns : Named) (os : List Occurrence) (f : Symbol) (u : Term) → has_connective u ≡ false → clauses ns os f u ≡ []
no-clauses ns os f (quantified q xs body) e = refl
no-clauses ns os f (apply h ts) e = by (kind_of h ts) e
  where
    by : (k : Kind) → is_connective k ≡ false → where_so (occurs true (apply h ts) os) (positive_clauses k (constant f) (literals ns ts)) ++ where_so (occurs false (apply h ts) os) (negative_clauses k (constant f) (literals ns ts)) ≡ []
    by (truth_value b) e = λ i. where-nothing (occurs true (apply h ts) os) i ++ where-nothing (occurs false (apply h ts) os) i
    by atom e = λ i. where-nothing (occurs true (apply h ts) os) i ++ where-nothing (occurs false (apply h ts) os) i
    by _ e = absurd cc
