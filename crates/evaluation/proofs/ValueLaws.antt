-- The values of terms from those of their operands.
use Rattle.std.proofs.Common.{◌≡◌, suc, ◌^◌, Bool, true, false, not, ◌&&◌, List, [], ◌∷◌, get_or, drop, All, Some, IsSome, refl, ap, sym, ◌∙◌, subst, arith}
use Rattle.std.specs.Prelude.{unwrap_or, unsigned_abs}
use Rattle.std.proofs.lemmas.Bool.Decides.{Decides-ltb}
use Rattle.std.proofs.lemmas.List.{get_or-map, length-map}
use Rattle.std.proofs.lemmas.List.Elements.{All-cons}
use Rattle.smt_terms.specs.declared.ids.NodeId.{NodeId}
use Rattle.smt_terms.specs.Equal.{term_eq}
use Rattle.smt_terms.specs.Groups.{has_term}
use Rattle.smt_terms.specs.Laws.{IsEnv}
use Rattle.smt_terms.specs.Models.{Model, IsModel}
use Rattle.smt_terms.specs.Rank.{sort_of}
use Rattle.smt_terms.specs.Sorts.{Sort}
use Rattle.smt_terms.specs.Term.{Term, apply, quantified, Terms, none, ◌⨾◌, list}
use Rattle.smt_terms.specs.Val.{Env, val, vals, value_in_range, fits, fit}
use Rattle.smt_terms.specs.Values.{is_value, are_values}
use Rattle.smt_terms.proofs.Equal.{Decides-term_eq}
use Rattle.smt_terms.proofs.Keeping.{the_sort}
use Rattle.smt_terms.proofs.Sorted.{applied}
use Rattle.smt_terms.proofs.Tests.{both_true, and_true, left_true}
use Rattle.smt_terms.proofs.Valid.{val_valid, vals_valid}
use Rattle.smt_values.specs.Meaning.{meaning, IsHeld}
use Rattle.smt_values.specs.declared.scalar.Scalar.TheVariants.{Truth, Whole, Bits}
use Rattle.smt_values.specs.declared.value.Value.{Value}
use Rattle.smt_values.specs.declared.value.Value.TheVariants.{Scalar as OfScalar, Element, Array}
use Rattle.term_table.specs.Formulas.{Formulas, no_tree, tree, tree_in, trees_at, operands, sort_or_bool, IsNode, AreNodes, IsTable}
use Rattle.term_walk.specs.declared.kept.Place.{Place}
use Rattle.term_walk.specs.Binders.{is_quantified}
use Rattle.term_walk.proofs.Members.{has-at}
use Rattle.models.specs.GraphRows.{meanings, AreValues}
use Rattle.evaluation.specs.Evaluated.{breaks, any_breaks, IsValueOf}
use Rattle.evaluation.specs.KeptValues.{Found, known_at, AreValuesOf, AreKnown}
use Rattle.evaluation.specs.Operated.{operand_sorts, operand_values}

pub held-in-range : (v : Value) → IsHeld v → value_in_range (meaning v) ≡ true
held-in-range (OfScalar (Truth b)) h = refl
held-in-range (OfScalar (Whole n)) h = (Decides-ltb (unsigned_abs n) (2 ^ 127)).1 h
held-in-range (OfScalar (Bits w n)) h = refl
held-in-range (Element i) h = refl
held-in-range (Array a) h = refl

-- the value of a node has its sort
pub val-has-sort : (t : Formulas) → IsTable t → (k : NodeId) → IsNode t k → (m : Model) (e : Env) → IsModel m → IsEnv m.sizes e → is_value (sort_or_bool (sort_of (tree t k))) m.sizes (val m (tree t k) e) ≡ true
val-has-sort t table k node m e model env =
    let s = the_sort (sort_of (tree t k)) (both_true _ _ (table.sorted k.0 node)).0 in
    ap (λ o. is_value (sort_or_bool o) m.sizes (val m (tree t k) e)) s.1 ∙ val_valid (tree t k) s.0 m e model env s.1

-- a value of a node
pub value-of : (t : Formulas) → IsTable t → (k : NodeId) → IsNode t k → (m : Model) (e : Env) → IsModel m → IsEnv m.sizes e → (v : Value) → fits m (tree t k) e ≡ true → meaning v ≡ val m (tree t k) e → IsHeld v → IsValueOf m e (tree t k) v
value-of t table k node m e model env v within value held = record {
  within = within;
  value = value;
  held = held;
  valid = ap (is_value (sort_or_bool (sort_of (tree t k))) m.sizes) value ∙ val-has-sort t table k node m e model env;
}

-- ---- operands

abbrev pub fit-operands : Model → Term → Env → Bool
fit-operands m (apply h ts) e = fit m ts e
fit-operands m (quantified q xs b) e = true

record Operands (m : Model) (e : Env) (ts : Terms) (vs : List Value) : Type 0 where
  values : meanings vs ≡ vals m ts e
  within : fit m ts e ≡ true
  held : All IsHeld vs

of-operands : (t : Formulas) (m : Model) (e : Env) (ks : List NodeId) (ts : Terms) (vs : List Value) → trees_at t ks ≡ list ts → AreValuesOf t m e ks vs → Operands m e ts vs
of-operands t m e [] none [] same are = record { values = refl; within = refl; held = λ i d lt. absurd (omega arith) }
of-operands t m e [] none (v ∷ vs) same are = let n = are.count in absurd (omega arith)
of-operands t m e [] (u ⨾ us) vs same are = absurd cc
of-operands t m e (k ∷ ks) none vs same are = absurd cc
of-operands t m e (k ∷ ks) (u ⨾ us) [] same are = let n = are.count in absurd (omega arith)
of-operands t m e (k ∷ ks) (u ⨾ us) (v ∷ vs) same are =
    let here : tree t k ≡ u = ap (λ ws. get_or ws 0 no_tree) same in
    let one : IsValueOf m e u v = subst (λ w. IsValueOf m e w v) here (are.each 0 k v (omega arith)) in
    let n = are.count in
    let rest = of-operands t m e ks us vs (ap (drop 1) same) (record { count = omega (arith, n); each = λ i d w lt. are.each (suc i) d w (omega arith) }) in
    record {
      values = λ i. one.value i ∷ rest.values i;
      within = and_true (fits m u e) (fit m us e) one.within rest.within;
      held = All-cons IsHeld v vs one.held rest.held;
    }

abbrev pub operands_in : Term → Terms
operands_in (apply h ts) = ts
operands_in (quantified q xs b) = none

module _ (t : Formulas) (table : IsTable t) (id : NodeId) (node : IsNode t id) (m : Model) (e : Env) (model : IsModel m) (env : IsEnv m.sizes e) where
  module _ (ks : List NodeId) (vs : List Value) (same : trees_at t ks ≡ operands (tree t id)) (are : AreValuesOf t m e ks vs) (plain_node : is_quantified (tree t id) ≡ false) where
    -- of a term that is no quantifier
    record Args (u : Term) : Type 0 where
      values : meanings vs ≡ operand_values m e u
      within : fit-operands m u e ≡ true
      held : All IsHeld vs
      valid : are_values (operand_sorts u) m.sizes (meanings vs) ≡ true

    args : (u : Term) → is_quantified u ≡ false → trees_at t ks ≡ operands u → (s : Sort) → sort_of u ≡ Some s → Args u
    args (quantified q xs b) applied_term these s sort = absurd cc
    args (apply h ts) applied_term these s sort =
        let o = of-operands t m e ks ts vs these are in
        let ranked = applied h ts s sort in
        record {
          values = o.values;
          within = o.within;
          held = o.held;
          valid = (λ i. are_values (unwrap_or (ranked.operands i) []) m.sizes (o.values i)) ∙ vals_valid ts ranked.sorts m e model env ranked.operands;
        }

    own : Args (tree t id)
    own = let s = the_sort (sort_of (tree t id)) (both_true _ _ (table.sorted id.0 node)).0 in args (tree t id) plain_node same s.0 s.1

    pub args-are : AreValues (operand_sorts (tree t id)) m.sizes vs
    args-are = record { held = own.held; valid = own.valid }

    pub args-values : meanings vs ≡ operand_values m e (tree t id)
    args-values = own.values

    pub args-within : fit-operands m (tree t id) e ≡ true
    args-within = own.within

  fits-from : (u : Term) (v : Value) → is_quantified u ≡ false → fit-operands m u e ≡ true → meaning v ≡ val m u e → IsHeld v → fits m u e ≡ true
  fits-from (quantified q xs b) v plain_term within value held = absurd cc
  fits-from (apply h ts) v plain_term within value held = and_true (fit m ts e) (value_in_range (val m (apply h ts) e)) within (ap value_in_range (sym value) ∙ held-in-range v held)

  pub applied-value : (v : Value) → is_quantified (tree t id) ≡ false → fit-operands m (tree t id) e ≡ true → meaning v ≡ val m (tree t id) e → IsHeld v → IsValueOf m e (tree t id) v
  applied-value v plain_node within value held = value-of t table id node m e model env v (fits-from (tree t id) v plain_node within value held) value held

-- a term whose own value lies outside the range
pub breaks-itself : (m : Model) (e : Env) (u : Term) → is_quantified u ≡ false → value_in_range (val m u e) ≡ false → breaks m u u e ≡ true
breaks-itself m e (quantified q xs b) plain_term out = absurd cc
breaks-itself m e (apply h ts) plain_term out =
    left_true (term_eq (apply h ts) (apply h ts) && not (value_in_range (val m (apply h ts) e))) (any_breaks m (apply h ts) ts e)
    (and_true (term_eq (apply h ts) (apply h ts)) (not (value_in_range (val m (apply h ts) e))) ((Decides-term_eq (apply h ts) (apply h ts)).1 refl) (ap not out))

-- the operands of a node are among those of its term
pub kids-known : (t : Formulas) (ks : List (Place Value)) (ps : Found) (id : NodeId) (is : List NodeId) → is_quantified (tree t id) ≡ false → AreKnown t ks ps (tree t id) → trees_at t is ≡ operands (tree t id) → AreNodes t is → All (λ k. IsSome (known_at ks ps k)) is
kids-known t ks ps id is plain_node known same nodes i d lt =
    let n = length-map is (tree_in t.trees) in
    let at : get_or (trees_at t is) i no_tree ≡ tree t (get_or is i d) = get_or-map (tree_in t.trees) is i d no_tree lt in
    known (get_or is i d) plain_node (nodes i d lt) (ap (λ us. has_term us (tree t (get_or is i d))) (sym same) ∙ ap (has_term (trees_at t is)) (sym at) ∙ has-at (trees_at t is) i no_tree (omega (arith, n)))
