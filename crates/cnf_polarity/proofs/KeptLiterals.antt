-- The literals of the nodes of a connective part, which are kept one after another.
use Rattle.std.proofs.Common.{◌≡◌, ℕ, ◌+◌, ◌<◌, inl, inr, true, false, List, length, get_or, All, refl, ap, sym, ◌∙◌, subst, arith}
use Rattle.std.specs.Prelude.{unwrap_or}
use Rattle.std.proofs.lemmas.Bool.Decides.{eqb_tells}
use Rattle.std.proofs.lemmas.List.{get_or-map, length-map, get_or_default}
use Rattle.smt_terms.specs.declared.ids.NodeId.{NodeId}
use Rattle.smt_terms.specs.Connectives.{Kind, negation, is_connective, kind_of}
use Rattle.smt_terms.specs.Groups.{Named, has_term}
use Rattle.smt_terms.specs.Shapes.{is_negation, is_negation_kind}
use Rattle.smt_terms.specs.Term.{Term, apply, quantified}
use Rattle.term_table.specs.Formulas.{Formulas, no_tree, tree, tree_in, trees_at, operands, IsNode, IsTable, Grows}
use Rattle.term_walk.specs.Walking.{GrowsTo}
use Rattle.term_walk.proofs.Members.{has-at}
use Rattle.normal_forms.specs.Nodes.{IsFormula, formula_stays}
use Rattle.quantifier_forms.specs.Memos.{Results, result_in, known_in}
use Rattle.cnf_polarity.specs.Cnf.{literal}
use Rattle.cnf_polarity.specs.Literals.{IsPartOrder, HasLiteral, IsReady}
use Rattle.cnf_polarity.specs.Shapes.{has_connective}
use Rattle.cnf_polarity.proofs.KeptOrders.{stands-before}

-- the nodes before this place have their literals, and so has each that is no `not`
pub record KeepsLiterals (t now : Formulas) (ns : Named) (order : List NodeId) (i : ℕ) (ps : Results) : Type 0 where
  pub done : (j : ℕ) (d : NodeId) → j < i → HasLiteral now ns ps (get_or order j d)
  pub plain : (j : ℕ) (d : NodeId) → j < length order → is_negation (tree t (get_or order j d)) ≡ false → HasLiteral now ns ps (get_or order j d)

negation-connective : (u : Term) → is_negation u ≡ true → has_connective u ≡ true
negation-connective (quantified q xs body) e = absurd cc
negation-connective (apply h ts) e = by (kind_of h ts) e
  where
    by : (k : Kind) → is_negation_kind k ≡ true → is_connective k ≡ true
    by negation f = refl
    by _ f = absurd cc

-- a literal stays where another is kept
literal-stays : (now new : Formulas) (ns : Named) (ps qs : Results) (id k : NodeId) → GrowsTo now new → IsNode now k → ((j : NodeId) → (j.0 ≡ id.0 → ⊥) → result_in qs 0 j ≡ result_in ps 0 j) → HasLiteral new ns qs id → HasLiteral now ns ps k → HasLiteral new ns qs k
literal-stays now new ns ps qs id k grows node others one had =
    elim (eqb_tells k.0 id.0) [
      | inl same ↦ subst (λ (j : NodeId). HasLiteral new ns qs j) (λ i. record { 0 = sym same.1 i }) one
      | inr apart ↦
          let known : known_in qs 0 k ≡ known_in ps 0 k = ap (λ o. unwrap_or o k) (others k apart.1) in
          record {
            formula = subst (λ (j : NodeId). IsFormula new j) (sym known) (formula_stays now new (known_in ps 0 k) grows had.formula);
            term =
                ap (tree new) known ∙ grows.trees.same (known_in ps 0 k).0 no_tree had.formula.node ∙ had.term
                ∙ ap (literal ns) (sym (grows.trees.same k.0 no_tree node));
          }
    ]

module _ (t now : Formulas) (ns : Named) (order : List NodeId) (formulas : All (IsFormula t) order) (grows : GrowsTo t now) (i : ℕ) (d : NodeId) (lt : i < length order) (ps : Results) (kept : KeepsLiterals t now ns order i ps) where
  same-tree : (k : NodeId) → IsNode t k → tree now k ≡ tree t k
  same-tree k node = grows.trees.same k.0 no_tree node

  stays-node : (k : NodeId) → IsNode t k → IsNode now k
  stays-node k node = let longer = grows.trees.longer in omega arith

  -- the next is ready
  pub ready-next : IsTable t → IsPartOrder (trees_at t order) → IsReady now ns ps (get_or order i d)
  ready-next table parts = record {
    below = λ negative j less among.
        let id : NodeId = get_or order i d in
        let node : id.0 < length t.trees = (formulas i d lt).node in
        let inside : j.0 < length t.trees = omega (arith, node, less) in
        let count = length-map order (tree_in t.trees) in
        let place : i < length (trees_at t order) = omega (arith, count, lt) in
        let is : get_or (trees_at t order) i no_tree ≡ tree now id = get_or-map (tree_in t.trees) order i d no_tree lt ∙ sym (same-tree id node) in
        let connective : has_connective (get_or (trees_at t order) i no_tree) ≡ true = negation-connective (get_or (trees_at t order) i no_tree) (ap is_negation is ∙ negative) in
        let operand : has_term (operands (get_or (trees_at t order) i no_tree)) (tree t j) ≡ true = ap (λ u. has_term (operands u) (tree t j)) is ∙ ap (has_term (operands (tree now id))) (sym (same-tree j inside)) ∙ among in
        let found = stands-before parts.0 (trees_at t order) i no_tree parts.1 place connective (tree t j) operand in
        let before : found.0 < i = found.1 in
        let within : found.0 < length order = omega (arith, before, lt) in
        let same : tree t (get_or order found.0 d) ≡ tree t j = sym (get_or-map (tree_in t.trees) order found.0 d no_tree within) ∙ found.2 in
        let number : (get_or order found.0 d).0 ≡ j.0 = table.one_tree (get_or order found.0 d).0 j.0 (formulas found.0 d within).node inside same in
        subst (λ (k : NodeId). HasLiteral now ns ps k) (λ h. record { 0 = number h }) (kept.done found.0 d before);
    here = λ positive. kept.plain i d lt (ap is_negation (sym (same-tree (get_or order i d) (formulas i d lt).node)) ∙ positive);
  }

  -- and after it all that had literals have them, as the next has
  pub keeps-next : (new : Formulas) (qs : Results) → GrowsTo now new → ((j : NodeId) → (j.0 ≡ (get_or order i d).0 → ⊥) → result_in qs 0 j ≡ result_in ps 0 j) → HasLiteral new ns qs (get_or order i d) → KeepsLiterals t new ns order (i + 1) qs
  keeps-next new qs more others one = record {
    done = λ j e less. elim (eqb_tells j i) [
      | inl same ↦ subst (λ (k : NodeId). HasLiteral new ns qs k) (sym (ap (λ n. get_or order n e) same.1 ∙ get_or_default order i e d lt)) one
      | inr apart ↦
          let before : j < i = let a = apart.1 in omega arith in
          stays (get_or order j e) (formulas j e (omega (arith, before, lt))).node (kept.done j e before)
    ];
    plain = λ j e within positive. stays (get_or order j e) (formulas j e within).node (kept.plain j e within positive);
  }
    where
      stays : (k : NodeId) → IsNode t k → HasLiteral now ns ps k → HasLiteral new ns qs k
      stays k node had = literal-stays now new ns ps qs (get_or order i d) k more (stays-node k node) others one had

-- ---- at first

pub plain-first : (t : Formulas) (ns : Named) (order : List NodeId) (ps : Results) → All (IsFormula t) order
    → ((k : NodeId) → IsFormula t k → has_term (trees_at t order) (tree t k) ≡ true → is_negation (tree t k) ≡ false → HasLiteral t ns ps k) → KeepsLiterals t t ns order 0 ps
plain-first t ns order ps formulas each = record {
  done = λ j d less. absurd (omega arith);
  plain = λ j d lt positive.
      let count = length-map order (tree_in t.trees) in
      let k : NodeId = get_or order j d in
      let is : get_or (trees_at t order) j no_tree ≡ tree t k = get_or-map (tree_in t.trees) order j d no_tree lt in
      each k (formulas j d lt) (ap (has_term (trees_at t order)) (sym is) ∙ has-at (trees_at t order) j no_tree (omega (arith, count, lt))) positive;
}

grows-itself : {X : Type 0} (xs : List X) → Grows xs xs
grows-itself xs = record { longer = omega arith; same = λ i d lt. refl }

pub table-itself : (t : Formulas) → GrowsTo t t
table-itself t = record { trees = grows-itself t.trees; symbols = grows-itself t.symbols; sorts = grows-itself t.sorts }
