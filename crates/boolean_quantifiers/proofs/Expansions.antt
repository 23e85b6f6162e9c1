-- Shannon's expansion, from terms to nodes.
use Rattle.std.proofs.Common.{◌≡◌, ℕ, zero, suc, ◌<◌, ◌==◌, Bool, true, false, List, [], ◌∷◌, length, map, get_or, drop, All, Option, Some, None, is_some, refl, ap, sym, ◌∙◌, subst, arith}
use Rattle.std.specs.Prelude.{unwrap_or}
use Rattle.std.specs.List.{list_all}
use Rattle.smt_terms.specs.declared.ids.NodeId.{NodeId}
use Rattle.smt_terms.specs.Groups.{has_term}
use Rattle.smt_terms.specs.Rank.{sort_of, are_bindable, are_distinct, is_quantifiable}
use Rattle.smt_terms.specs.Shapes.{is_bool}
use Rattle.smt_terms.specs.Sorts.{Sort, bool, int, bit_vector, array, free_sort, Variable}
use Rattle.smt_terms.specs.Term.{Quantifier, universal, existential, Term, apply, quantified, Terms, none, ◌⨾◌, list, terms}
use Rattle.smt_terms.proofs.Sorted.{quantified_sort}
use Rattle.smt_terms.proofs.Tests.{both_true, and_true}
use Rattle.term_table.specs.Formulas.{Formulas, tree, trees_at, operands, IsNode, IsTable}
use Rattle.term_walk.specs.Walking.{GrowsTo}
use Rattle.normal_forms.specs.Nodes.{IsFormula}
use Rattle.normal_forms.specs.Quantifiers.{over_left, not_bool, expand_bool, expand_each, shannon, shannon_each}
use Rattle.normal_forms.specs.Shape.{is_universally_quantified, quantifier_seen, variables_of, body_in}
use Rattle.term_walk.specs.Binders.{is_quantified}
use Rattle.normal_forms.proofs.Shannon.{kept-distinct, kept-quantifiable}
use Rattle.quantifier_forms.specs.Memos.{Results, result_in, known_in, Sets}
use Rattle.quantifier_forms.specs.Rebuilding.{with_operands, is_number, IsLike}
use Rattle.quantifier_forms.specs.Variables.{AreVariables}
use Rattle.quantifier_forms.proofs.Bodies.{body-among, quantified-formula, body-bool}
use Rattle.quantifier_forms.proofs.Stands.{same-number, number-same}
use Rattle.quantifier_forms.proofs.Sweeps.{tree-stays, node-stays, kids-for, known-map}
use Rattle.quantifier_forms.proofs.Rebuilt.{formula-number}
use Rattle.quantifier_forms.proofs.Variables.{variable-at}
use Rattle.boolean_quantifiers.specs.Expanding.{IsExpanded, AreExpanded, AreOperandsExpanded}
use Rattle.boolean_quantifiers.specs.Working.{IsVariable}

pub expanded-stays : (old new : Formulas) (k r : NodeId) → GrowsTo old new → IsExpanded old k r → IsExpanded new k r
expanded-stays old new k r grows h =
    let from = tree-stays old new k grows h.node in
    let image = tree-stays old new r grows h.result in
    record {
      node = node-stays old new k grows h.node;
      result = node-stays old new r grows h.result;
      term = image ∙ h.term ∙ ap shannon (sym from);
      like = record { sort = ap sort_of image ∙ h.like.sort ∙ ap sort_of (sym from); number = ap is_number image ∙ h.like.number ∙ ap is_number (sym from) };
    }

some-bindable : (xs : List Variable) → are_bindable xs ≡ true → (are_distinct (map (λ x. x.name) xs) ≡ true) × (list_all (λ x. is_quantifiable x.sort) xs ≡ true)
some-bindable [] e = absurd cc
some-bindable (x ∷ xs) e = both_true (are_distinct (map (λ y. y.name) (x ∷ xs))) (list_all (λ y. is_quantifiable y.sort) (x ∷ xs)) e

bindable-from : (u : Term) → is_quantified u ≡ true → sort_of u ≡ Some bool → (zs : List Variable) → not_bool (variables_of u) ≡ zs → (zs ≡ [] → ⊥) → are_bindable zs ≡ true
bindable-from (apply h ts) wrong has zs f filled = absurd cc
bindable-from (quantified q xs b) right has [] f filled = absurd (filled refl)
bindable-from (quantified q xs b) right has (z ∷ zs) f filled =
    let parts = some-bindable xs (quantified_sort q xs b bool has).bindable in
    and_true (are_distinct (map (λ x. x.name) (z ∷ zs))) (list_all (λ x. is_quantifiable x.sort) (z ∷ zs))
    (ap (λ ws. are_distinct (map (λ x. x.name) ws)) (sym f) ∙ kept-distinct xs parts.0)
    (ap (λ ws. list_all (λ x. is_quantifiable x.sort) ws) (sym f) ∙ kept-quantifiable xs parts.1)

-- the variables that stay can be bound
pub bindable-left : (u : Term) → is_quantified u ≡ true → sort_of u ≡ Some bool → (not_bool (variables_of u) ≡ [] → ⊥) → are_bindable (not_bool (variables_of u)) ≡ true
bindable-left u is has some = bindable-from u is has (not_bool (variables_of u)) refl some

-- ---- variables as nodes

module _ (t : Formulas) (ks : List NodeId) (xs : List Variable) (are : AreVariables t ks xs) where
  pub is-variable : (i : ℕ) (d : NodeId) (x : Variable) → i < length ks → IsVariable t (get_or ks i d)
  is-variable i d x lt = record { node = are.nodes i d lt; named = get_or xs i x; is = variable-at t ks xs are i d x lt }

-- ---- a variable that isn't Bool

pub other-bool : (s : Sort) (q : Quantifier) (x : Variable) (b : Term) → is_bool s ≡ false → expand_bool s q x b ≡ b
other-bool bool q x b e = absurd cc
other-bool int q x b e = refl
other-bool (bit_vector w) q x b e = refl
other-bool (array i j) q x b e = refl
other-bool (free_sort n) q x b e = refl

-- ---- one variable more, from the last to the first

pub each-more : (q : Quantifier) (xs : List Variable) (i : ℕ) (x : Variable) (b : Term) → i < length xs → expand_each q (drop i xs) b ≡ expand_bool (get_or xs i x).sort q (get_or xs i x) (expand_each q (drop (suc i) xs) b)
each-more q [] i x b lt = absurd (omega arith)
each-more q (y ∷ xs) zero x b lt = refl
each-more q (y ∷ xs) (suc i) x b lt = each-more q xs i x b (omega arith)

-- ---- the nodes

each-map : (ts : Terms) → terms (map shannon (list ts)) ≡ shannon_each ts
each-map none = refl
each-map (t ⨾ ts) = ap (λ us. shannon t ⨾ us) (each-map ts)

shannon-applied : (u : Term) → is_quantified u ≡ false → shannon u ≡ with_operands u (map shannon (operands u))
shannon-applied (apply h ts) plain = ap (apply h) (sym (each-map ts))
shannon-applied (quantified q xs body) plain = absurd cc

pub shannon-quantified : (u : Term) → is_quantified u ≡ true → shannon u ≡ over_left (quantifier_seen (is_universally_quantified u)) (not_bool (variables_of u)) (expand_each (quantifier_seen (is_universally_quantified u)) (variables_of u) (shannon (body_in u)))
shannon-quantified (quantified universal xs body) is = refl
shannon-quantified (quantified existential xs body) is = refl
shannon-quantified (apply h ts) is = absurd cc

-- a node that isn't quantified
pub applied-expanded : (t new : Formulas) (m : Results) (id r : NodeId) (ks : List NodeId) → GrowsTo t new → IsNode t id → is_quantified (tree t id) ≡ false
    → AreOperandsExpanded t m id → trees_at t ks ≡ operands (tree t id) → All (λ k. k.0 < id.0) ks → IsNode new r → tree new r ≡ with_operands (tree t id) (trees_at t (map (known_in m 0) ks)) → IsLike (tree t id) (tree new r) → IsExpanded new id r
applied-expanded t new m id r ks grows node plain ready same below result made like =
    let each = kids-for t m 0 id ks (IsExpanded t) ready same below in
    record {
      node = node-stays t new id grows node;
      result = result;
      term =
          made
          ∙ ap (with_operands (tree t id)) (known-map t m 0 ks shannon (λ i d lt. (each i d lt).term) ∙ ap (map shannon) same)
          ∙ sym (shannon-applied (tree t id) plain)
          ∙ ap shannon (sym (tree-stays t new id grows node));
      like = record { sort = like.sort ∙ ap sort_of (sym (tree-stays t new id grows node)); number = like.number ∙ ap is_number (sym (tree-stays t new id grows node)) };
    }

-- a quantified node
module _ (t : Formulas) (m : Results) (id body : NodeId) (table : IsTable t) (node : IsNode t id) (is : is_quantified (tree t id) ≡ true) (ready : AreOperandsExpanded t m id) (below : body.0 < id.0) (term : tree t body ≡ body_in (tree t id)) where
  pub body-expanded : IsExpanded t body (known_in m 0 body)
  body-expanded = ready body below (ap (has_term (operands (tree t id))) term ∙ body-among (tree t id) is)

  formula : IsFormula t id
  formula = quantified-formula t id table node is

  pub expanded-formula : IsFormula t (known_in m 0 body)
  expanded-formula = let h = body-expanded in record { node = h.result; sort = h.like.sort ∙ ap sort_of term ∙ body-bool (tree t id) is formula.sort }

  pub quantified-expanded : (new : Formulas) (r : NodeId) (every : Bool) → GrowsTo t new → every ≡ is_universally_quantified (tree t id) → IsFormula new r
      → tree new r ≡ over_left (quantifier_seen every) (not_bool (variables_of (tree t id))) (expand_each (quantifier_seen every) (variables_of (tree t id)) (tree t (known_in m 0 body))) → IsExpanded new id r
  quantified-expanded new r every grows same whole made = record {
    node = node-stays t new id grows node;
    result = whole.node;
    term =
        made
        ∙ (λ i. over_left (quantifier_seen (same i)) (not_bool (variables_of (tree t id))) (expand_each (quantifier_seen (same i)) (variables_of (tree t id)) ((body-expanded.term ∙ ap shannon term) i)))
        ∙ sym (shannon-quantified (tree t id) is)
        ∙ ap shannon (sym (tree-stays t new id grows node));
    like = record {
      sort = whole.sort ∙ sym formula.sort ∙ ap sort_of (sym (tree-stays t new id grows node));
      number = formula-number (tree new r) whole.sort ∙ sym (formula-number (tree t id) formula.sort) ∙ ap is_number (sym (tree-stays t new id grows node));
    };
  }

  pub left-bindable : (not_bool (variables_of (tree t id)) ≡ [] → ⊥) → are_bindable (not_bool (variables_of (tree t id))) ≡ true
  left-bindable some = bindable-left (tree t id) is formula.sort some

pub over-none : (q : Quantifier) (ys : List Variable) (b : Term) → ys ≡ [] → over_left q ys b ≡ b
over-none q ys b e = ap (λ zs. over_left q zs b) e

pub over-some : (q : Quantifier) (ys : List Variable) (b : Term) → (ys ≡ [] → ⊥) → over_left q ys b ≡ quantified q ys b
over-some q [] b some = absurd (some refl)
over-some q (y ∷ ys) b some = refl

-- one result more
pub sets-expanded : (old new : Formulas) (m0 m1 : Results) (k r : NodeId) → GrowsTo old new → AreExpanded old m0 → IsExpanded new k r → Sets m0 m1 0 k r → AreExpanded new m1
sets-expanded old new m0 m1 k r grows are one sets j s e = by (j.0 == k.0) refl
  where
    by : (b : Bool) → (j.0 == k.0) ≡ b → IsExpanded new j s
    by true f =
        let number = same-number j.0 k.0 f in
        let found : Some r ≡ Some s = sym (sets.here j number) ∙ e in
        let value : r ≡ s = cc in
        let key : k ≡ j = λ i. record { 0 = sym number i } in
        subst (λ (x : NodeId). IsExpanded new x s) key (subst (λ (x : NodeId). IsExpanded new k x) value one)
    by false f = expanded-stays old new j s grows (are j s (sym (sets.others 0 j (λ w same. let yes : (j.0 == k.0) ≡ true = number-same j.0 k.0 same in absurd cc)) ∙ e))

pub known-expanded : (t : Formulas) (m : Results) (k : NodeId) → AreExpanded t m → is_some (result_in m 0 k) ≡ true → IsExpanded t k (known_in m 0 k)
known-expanded t m k are e = by (result_in m 0 k) refl e
  where
    by : (o : Option NodeId) → result_in m 0 k ≡ o → is_some (result_in m 0 k) ≡ true → IsExpanded t k (known_in m 0 k)
    by (Some r) f g = subst (λ (x : NodeId). IsExpanded t k x) (sym (ap (λ q. unwrap_or q k) f)) (are k r f)
    by None f g = let no : false ≡ true = ap is_some (sym f) ∙ g in absurd cc
