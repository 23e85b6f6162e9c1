-- The parts of a formula's connective part, and those among them that get names.
use Rattle.std.proofs.Common.{◌≡◌, Bool, true, false, cond, List, [], ◌∷◌, append-nil, All, filter, Some, refl, ap, sym, ◌∙◌, subst}
use Rattle.std.proofs.lemmas.List.Elements.{All-nil, All-cons, All-head, All-tail}
use Rattle.smt_terms.specs.declared.ids.NodeId.{NodeId}
use Rattle.smt_terms.specs.Connectives.{Kind, truth_value, negation, atom, is_connective, kind_of}
use Rattle.smt_terms.specs.Groups.{with_new, where_so}
use Rattle.smt_terms.specs.Rank.{sort_of}
use Rattle.smt_terms.specs.Sorts.{bool}
use Rattle.smt_terms.specs.Term.{Term, apply, quantified, Terms, none, ◌⨾◌, list}
use Rattle.term_table.specs.Formulas.{Formulas, tree, trees_at, AreNodes}
use Rattle.term_groups.specs.Parts.{collected, collected_of}
use Rattle.normal_forms.specs.Nodes.{IsFormula}
use Rattle.cnf_polarity.specs.Cnf.{named_at, named_connectives, named_connectives_of}
use Rattle.cnf_polarity.specs.Shapes.{has_connective, gets_name, is_named}
use Rattle.cnf_polarity.proofs.NodeConnectives.{operands-bool}
use Rattle.cnf_polarity.proofs.TermLists.{all-with_new, all-from-map}

pub filter-all : (ts : List Term) → filter (λ _. true) ts ≡ ts
filter-all [] = refl
filter-all (t ∷ ts) = ap (λ us. t ∷ us) (filter-all ts)

-- ---- they are formulas

all-opened : (P : Term → Type 0) (b : Bool) (ts : List Term) → (b ≡ true → All P ts) → All P (cond b ts [])
all-opened P true ts all = all refl
all-opened P false ts all = All-nil P

mutual
  pub parts-bool : (t : Term) → sort_of t ≡ Some bool → All (λ u. sort_of u ≡ Some bool) (collected has_connective (λ _. true) t)
  parts-bool (apply h ts) has =
      all-with_new (λ u. sort_of u ≡ Some bool) (cond (is_connective (kind_of h ts)) (collected_of has_connective (λ _. true) ts) []) (apply h ts ∷ [])
      (all-opened (λ u. sort_of u ≡ Some bool) (is_connective (kind_of h ts)) (collected_of has_connective (λ _. true) ts) (λ c. each-parts-bool ts (operands-bool (apply h ts) has c)))
      (All-cons (λ u. sort_of u ≡ Some bool) (apply h ts) [] has (All-nil (λ u. sort_of u ≡ Some bool)))
  parts-bool (quantified q xs body) has = All-cons (λ u. sort_of u ≡ Some bool) (quantified q xs body) [] has (All-nil (λ u. sort_of u ≡ Some bool))

  each-parts-bool : (ts : Terms) → All (λ u. sort_of u ≡ Some bool) (list ts) → All (λ u. sort_of u ≡ Some bool) (collected_of has_connective (λ _. true) ts)
  each-parts-bool none all = All-nil (λ u. sort_of u ≡ Some bool)
  each-parts-bool (t ⨾ ts) all =
      all-with_new (λ u. sort_of u ≡ Some bool) (collected has_connective (λ _. true) t) (collected_of has_connective (λ _. true) ts)
      (parts-bool t (All-head (λ u. sort_of u ≡ Some bool) t (list ts) all)) (each-parts-bool ts (All-tail (λ u. sort_of u ≡ Some bool) t (list ts) all))

pub formulas-in : (t : Formulas) (u : Term) (ks : List NodeId) → sort_of u ≡ Some bool → AreNodes t ks → trees_at t ks ≡ collected has_connective (λ _. true) u → All (IsFormula t) ks
formulas-in t u ks has nodes reached i d lt = record {
  node = nodes i d lt;
  sort = all-from-map (λ v. sort_of v ≡ Some bool) (tree t) ks (subst (All (λ v. sort_of v ≡ Some bool)) (sym reached) (parts-bool u has)) i d lt;
}

-- ---- those that get names are the named connectives

at-kind : (k : Kind) (u : Term) (inner : List Term) → with_new (cond (is_connective k) inner []) (where_so (gets_name k) (u ∷ [])) ≡ named_at k u inner
at-kind (truth_value b) u inner = refl
at-kind atom u inner = refl
at-kind negation u inner = append-nil inner
at-kind _ u inner = refl

mutual
  pub named-parts : (t : Term) → collected has_connective is_named t ≡ named_connectives t
  named-parts (apply h ts) =
      at-kind (kind_of h ts) (apply h ts) (collected_of has_connective is_named ts)
      ∙ ap (named_at (kind_of h ts) (apply h ts)) (each-named-parts ts)
  named-parts (quantified q xs body) = refl

  each-named-parts : (ts : Terms) → collected_of has_connective is_named ts ≡ named_connectives_of ts
  each-named-parts none = refl
  each-named-parts (t ⨾ ts) =
      let first = named-parts t in
      let rest = each-named-parts ts in
      λ i. with_new (first i) (rest i)
