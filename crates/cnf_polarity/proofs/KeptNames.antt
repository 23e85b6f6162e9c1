-- Names that are kept of the nodes that have them, as their literals.
use Rattle.std.proofs.Common.{◌≡◌, ℕ, zero, suc, ◌+◌, ◌<◌, inl, inr, Bool, true, false, cond, List, [], ◌∷◌, length, get_or, filter, All, Some, None, refl, ap, sym, ◌∙◌, subst, arith}
use Rattle.std.specs.Prelude.{unwrap_or, slice_get}
use Rattle.std.proofs.lemmas.Bool.Decides.{eqb_tells}
use Rattle.std.proofs.lemmas.List.{get_or-map, length-map, get_or_default}
use Rattle.std.proofs.lemmas.Option.{get_or_from_slice_get}
use Rattle.smt_terms.specs.declared.ids.NodeId.{NodeId}
use Rattle.smt_terms.specs.Connectives.{Kind, truth_value, negation, atom, kind_of}
use Rattle.smt_terms.specs.Equal.{term_eq}
use Rattle.smt_terms.specs.Groups.{Named, constant_for, constant_or, has_term}
use Rattle.smt_terms.specs.Shapes.{is_negation, is_negation_kind}
use Rattle.smt_terms.specs.Sorts.{Symbol}
use Rattle.smt_terms.specs.Term.{Term, apply, quantified, constant}
use Rattle.smt_terms.proofs.Equal.{Decides-term_eq}
use Rattle.smt_terms.proofs.Tests.{both_true, and_true}
use Rattle.term_table.specs.Formulas.{Formulas, no_tree, tree, tree_in, trees_at, IsNode, AreNodes, IsTable}
use Rattle.term_walk.proofs.Members.{has-at, has-filter, place-of}
use Rattle.normal_forms.specs.Nodes.{IsFormula}
use Rattle.quantifier_forms.specs.Memos.{Results, result_in, known_in, Sets}
use Rattle.cnf_polarity.specs.Cnf.{literal_at, literal, literals}
use Rattle.cnf_polarity.specs.Literals.{symbol_in, IsName, names_at, HasLiteral}
use Rattle.cnf_polarity.specs.Shapes.{gets_name, is_named}
use Rattle.cnf_polarity.proofs.KeptOrders.{Apart, apart-places}

none_yet : NodeId
none_yet = record { 0 = 0 }

same-node : (j k : NodeId) → j.0 ≡ k.0 → j ≡ k
same-node j k same = λ i. record { 0 = same i }

-- ---- the names of the nodes before a place are kept, and no more

pub record KeepsNames (named names : List NodeId) (i : ℕ) (ps : Results) : Type 0 where
  pub each : (j : ℕ) (d : NodeId) → j < i → result_in ps 0 (get_or named j d) ≡ Some (get_or names j d)
  pub others : (k : NodeId) → ((j : ℕ) (d : NodeId) → j < i → k.0 ≡ (get_or named j d).0 → ⊥) → result_in ps 0 k ≡ None

pub none-kept : (named names : List NodeId) → KeepsNames named names 0 []
none-kept named names = record {
  each = λ j d lt. absurd (omega arith);
  others = λ k apart. refl;
}

-- nodes of terms that each stand once have numbers of their own
pub numbers-apart : (t : Formulas) (ks : List NodeId) (i j : ℕ) (d : NodeId) → Apart (trees_at t ks) → i < j → j < length ks → (get_or ks i d).0 ≡ (get_or ks j d).0 → ⊥
numbers-apart t ks i j d apart less lt same =
    let count = length-map ks (tree_in t.trees) in
    apart-places (trees_at t ks) i j no_tree apart less (omega (arith, count, lt))
    (get_or-map (tree_in t.trees) ks i d no_tree (omega (arith, less, lt)) ∙ ap (λ n. get_or t.trees n no_tree) same ∙ sym (get_or-map (tree_in t.trees) ks j d no_tree lt))

module _ (t : Formulas) (named names : List NodeId) (apart : Apart (trees_at t named)) where
  pub one-more : (i : ℕ) (d r : NodeId) (ps qs : Results) → i < length named → slice_get names i ≡ Some r → KeepsNames named names i ps → Sets ps qs 0 (get_or named i d) r → KeepsNames named names (i + 1) qs
  one-more i d r ps qs lt found kept sets = record {
    each = λ j e less. elim (eqb_tells j i) [
      | inl same ↦
          let here : get_or named j e ≡ get_or named i d = ap (λ n. get_or named n e) same.1 ∙ get_or_default named i e d lt in
          let value : get_or names j e ≡ r = ap (λ n. get_or names n e) same.1 ∙ get_or_from_slice_get names i r e found in
          sets.here (get_or named j e) (ap (λ (k : NodeId). k.0) here) ∙ ap Some (sym value)
      | inr other ↦
          let before : j < i = let a = other.1 in omega arith in
          sets.others 0 (get_or named j e) (λ v same. numbers-apart t named j i d apart before lt (ap (λ (k : NodeId). k.0) (get_or_default named j d e (omega (arith, before, lt))) ∙ same)) ∙ kept.each j e before
    ];
    others = λ k out.
        sets.others 0 k (λ v same. out i d (omega arith) same) ∙ kept.others k (λ j e less same. out j e (omega (arith, less)) same);
  }

-- ---- the name of a term

pub name-at : (t : Formulas) (ks ns : List NodeId) (j : ℕ) (d e : NodeId) → Apart (trees_at t ks) → length ns ≡ length ks → j < length ks
    → constant_for (names_at t ks ns) (tree t (get_or ks j d)) ≡ Some (symbol_in (tree t (get_or ns j e)))
name-at t [] ns j d e apart count lt = absurd (omega arith)
name-at t (k ∷ ks) [] j d e apart count lt = absurd (omega arith)
name-at t (k ∷ ks) (n ∷ ns) zero d e apart count lt =
    ap (λ b. cond b (Some (symbol_in (tree t n))) (constant_for (names_at t ks ns) (tree t k))) ((Decides-term_eq (tree t k) (tree t k)).1 refl)
name-at t (k ∷ ks) (n ∷ ns) (suc j) d e apart count lt =
    by (term_eq (tree t k) (tree t (get_or ks j d))) refl ∙ name-at t ks ns j d e apart.1 (omega arith) (omega arith)
  where
    by : (b : Bool) → term_eq (tree t k) (tree t (get_or ks j d)) ≡ b → cond b (Some (symbol_in (tree t n))) (constant_for (names_at t ks ns) (tree t (get_or ks j d))) ≡ constant_for (names_at t ks ns) (tree t (get_or ks j d))
    by false h = refl
    by true h =
        let within : j < length ks = omega arith in
        let counted = length-map ks (tree_in t.trees) in
        let same : tree t k ≡ get_or (trees_at t ks) j no_tree = (Decides-term_eq (tree t k) (tree t (get_or ks j d))).0 h ∙ sym (get_or-map (tree_in t.trees) ks j d no_tree within) in
        let there : has_term (trees_at t ks) (tree t k) ≡ true = ap (has_term (trees_at t ks)) same ∙ has-at (trees_at t ks) j no_tree (omega (arith, counted, within)) in
        let never : true ≡ false = sym there ∙ apart.0 in
        absurd cc

-- ---- literals that are names, and those of atoms and truth values

pub literal-named : (ns : Named) (u : Term) (f : Symbol) → is_named u ≡ true → constant_for ns u ≡ Some f → literal ns u ≡ constant f
literal-named ns (quantified q xs body) f named found = absurd cc
literal-named ns (apply h ts) f named found = by (kind_of h ts) named ∙ ap (λ o. constant_or o (apply h ts)) found
  where
    by : (k : Kind) → gets_name k ≡ true → literal_at k (constant_for ns (apply h ts)) (apply h ts) (literals ns ts) ≡ constant_or (constant_for ns (apply h ts)) (apply h ts)
    by (truth_value b) e = absurd cc
    by negation e = absurd cc
    by atom e = absurd cc
    by _ e = refl

pub literal-plain : (ns : Named) (u : Term) → is_named u ≡ false → is_negation u ≡ false → literal ns u ≡ u
literal-plain ns (quantified q xs body) named negative = refl
literal-plain ns (apply h ts) named negative = by (kind_of h ts) named negative
  where
    by : (k : Kind) → gets_name k ≡ false → is_negation_kind k ≡ false → literal_at k (constant_for ns (apply h ts)) (apply h ts) (literals ns ts) ≡ apply h ts
    by (truth_value b) e f = refl
    by atom e f = refl
    by negation e f = absurd cc
    by _ e f = absurd cc

-- ---- a node that is no `not` has its literal

module _ (t : Formulas) (us : List Term) (named names : List NodeId) (table : IsTable t) (nodes : AreNodes t named) (terms : trees_at t named ≡ filter is_named us) (apart : Apart (trees_at t named)) (are : All (IsName t) names) (number : length names ≡ length named) (ps : Results) (kept : KeepsNames named names (length named) ps) where
  named-count : length (trees_at t named) ≡ length named
  named-count = length-map named (tree_in t.trees)

  term-at : (j : ℕ) → j < length named → get_or (trees_at t named) j no_tree ≡ tree t (get_or named j none_yet)
  term-at j lt = get_or-map (tree_in t.trees) named j none_yet no_tree lt

  is-named : (j : ℕ) (d : NodeId) → j < length named → is_named (tree t (get_or named j d)) ≡ true
  is-named j d lt =
      let count = named-count in
      let there : has_term (trees_at t named) (tree t (get_or named j d)) ≡ true =
      ap (has_term (trees_at t named)) (sym (get_or-map (tree_in t.trees) named j d no_tree lt)) ∙ has-at (trees_at t named) j no_tree (omega (arith, count, lt)) in
      (both_true (has_term us (tree t (get_or named j d))) (is_named (tree t (get_or named j d)))
      (sym (has-filter is_named us (tree t (get_or named j d))) ∙ ap (λ vs. has_term vs (tree t (get_or named j d))) (sym terms) ∙ there)).1

  with-name : (k : NodeId) → IsNode t k → has_term us (tree t k) ≡ true → is_named (tree t k) ≡ true → HasLiteral t (names_at t named names) ps k
  with-name k node among gets =
      let count = named-count in
      let there : has_term (trees_at t named) (tree t k) ≡ true = ap (λ vs. has_term vs (tree t k)) terms ∙ has-filter is_named us (tree t k) ∙ and_true (has_term us (tree t k)) (is_named (tree t k)) among gets in
      let found = place-of (trees_at t named) (tree t k) no_tree there in
      let j = found.0 in
      let lt : j < length named = omega (arith, count, found.1) in
      let same : tree t (get_or named j none_yet) ≡ tree t k = sym (term-at j lt) ∙ found.2 in
      let one : get_or named j none_yet ≡ k = same-node (get_or named j none_yet) k (table.one_tree (get_or named j none_yet).0 k.0 (nodes j none_yet lt) node same) in
      let name = get_or names j none_yet in
      let kept_name : known_in ps 0 k ≡ name = ap (λ (i : NodeId). unwrap_or (result_in ps 0 i) k) (sym one) ∙ ap (λ o. unwrap_or o k) (kept.each j none_yet lt) in
      let is = are j none_yet (omega (arith, number, lt)) in
      let symbol : constant_for (names_at t named names) (tree t k) ≡ Some (symbol_in (tree t name)) = ap (constant_for (names_at t named names)) (sym same) ∙ name-at t named names j none_yet none_yet apart number lt in
      record {
        formula = subst (λ (i : NodeId). IsFormula t i) (sym kept_name) is.formula;
        term = ap (tree t) kept_name ∙ is.constant ∙ sym (literal-named (names_at t named names) (tree t k) (symbol_in (tree t name)) gets symbol);
      }

  without-name : (k : NodeId) → IsFormula t k → is_named (tree t k) ≡ false → is_negation (tree t k) ≡ false → HasLiteral t (names_at t named names) ps k
  without-name k formula plain positive =
      let itself : known_in ps 0 k ≡ k = ap (λ o. unwrap_or o k) (kept.others k never) in
      record {
        formula = subst (λ (i : NodeId). IsFormula t i) (sym itself) formula;
        term = ap (tree t) itself ∙ sym (literal-plain (names_at t named names) (tree t k) plain positive);
      }
    where
      never : (j : ℕ) (d : NodeId) → j < length named → k.0 ≡ (get_or named j d).0 → ⊥
      never j d lt same =
          let yes : is_named (tree t k) ≡ true = ap (λ n. is_named (get_or t.trees n no_tree)) same ∙ is-named j d lt in
          let both : true ≡ false = sym yes ∙ plain in
          absurd cc

  pub literal-there : (k : NodeId) → IsFormula t k → has_term us (tree t k) ≡ true → is_negation (tree t k) ≡ false → HasLiteral t (names_at t named names) ps k
  literal-there k formula among positive = by (is_named (tree t k)) refl
    where
      by : (b : Bool) → is_named (tree t k) ≡ b → HasLiteral t (names_at t named names) ps k
      by true e = with-name k formula.node among e
      by false e = without-name k formula e positive
