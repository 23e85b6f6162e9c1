-- An operator over constants gives the constant of its value.
use Rattle.std.proofs.Common.{◌≡◌, ◌^◌, Bool, true, false, cond, inl, inr, nat_abs, List, [], ◌∷◌, length, Option, Some, None, refl, ap, sym, ◌∙◌, subst}
use Rattle.std.specs.Prelude.{IfSome, is_some, option_and_then, unwrap_or}
use Rattle.std.specs.Int.{int_div_euclid, int_rem_euclid}
use Rattle.std.proofs.lemmas.Bool.{ltb-true}
use Rattle.std.proofs.lemmas.Bool.Decides.{Decides-eqb}
use Rattle.smt_terms.specs.declared.op.Op.{Op}
use Rattle.smt_terms.specs.declared.op.Op.TheVariants.{Equal, Distinct, Div, Mod, Select, Store}
use Rattle.smt_terms.specs.Sorts.{Sort, bool, int, bit_vector, array, free_sort}
use Rattle.smt_terms.specs.Term.{op, Term, apply, Terms, none, ◌⨾◌, list}
use Rattle.smt_terms.specs.BitVectors.{bv2nat, nat2bv}
use Rattle.smt_terms.specs.Constants.{whole_term, bits_term, literal_value, constant_value, constant_term}
use Rattle.smt_terms.specs.Equal.{op_eq}
use Rattle.smt_terms.specs.Models.{Model, background}
use Rattle.smt_terms.specs.Operators.{Background, first_sort, first_value, second_value, all_distinct, op_value}
use Rattle.smt_terms.specs.Rank.{shape, sort_of, sorts_of, is_sort}
use Rattle.smt_terms.specs.Takes.{Takes}
use Rattle.smt_terms.specs.Val.{Env, val, vals, within_range}
use Rattle.smt_terms.specs.Values.{Value, truth, whole, bits, element, table, Sizes, number, same, is_value, are_values}
use Rattle.smt_terms.proofs.BitLaws.{nat2bv-bv2nat, bv2nat-small}
use Rattle.smt_terms.proofs.BitLengths.{length-nat2bv}
use Rattle.smt_terms.proofs.ConstantTerms.{IsConstant, a_truth, a_whole, a_vector, constants, truth_sort, whole_sort, vector_sort}
use Rattle.smt_terms.proofs.Respects.{equal_same}
use Rattle.smt_terms.proofs.Sorted.{sorted}
use Rattle.smt_terms.proofs.Tests.{and_true, true_or_false}
use Rattle.smt_terms.proofs.Valid.{op_valid}
use Rattle.simplify.specs.Folding.{with_value, constant_values, any_background, divides_by_zero, folded_values, folded}
use Rattle.simplify.proofs.Gives.{Operand, Gives, truth_operand, whole_operand, bits_operand}

-- ---- constants and their values

some_constant : (t : Term) (v : Value) → constant_value t ≡ Some v → IsConstant t
some_constant t v h = constants t (ap is_some h)

constant_val : (t : Term) (v : Value) → IsConstant t → constant_value t ≡ Some v → (m : Model) (e : Env) → val m t e ≡ v
unfolding literal_value op_value
constant_val t v (a_truth b) h m e = cc
constant_val t v (a_whole n) h m e = cc
constant_val t v (a_vector w n) h m e = cc

abbrev is_scalar : Sort → Bool
is_scalar bool = true
is_scalar int = true
is_scalar (bit_vector w) = true
is_scalar _ = false

constant_scalar : (t : Term) (u : Sort) → IsConstant t → sort_of t ≡ Some u → is_scalar u ≡ true
constant_scalar t u (a_truth b) has = ap is_scalar (truth_sort b u has)
constant_scalar t u (a_whole n) has = ap is_scalar (whole_sort n u has)
constant_scalar t u (a_vector w n) has = ap is_scalar (vector_sort w n u has).1

constant_valid : (t : Term) (u : Sort) (v : Value) (sizes : Sizes) → IsConstant t → sort_of t ≡ Some u → constant_value t ≡ Some v → is_value u sizes v ≡ true
unfolding literal_value
constant_valid t u v sizes (a_truth b) has h = let one : truth b ≡ v = cc in (λ i. is_value (truth_sort b u has i) sizes (sym one i))
constant_valid t u v sizes (a_whole n) has h = let one : whole n ≡ v = cc in (λ i. is_value (whole_sort n u has i) sizes (sym one i))
constant_valid t u v sizes (a_vector w n) has h =
    let one : bits (nat2bv w n) ≡ v = cc in
    (λ i. is_value ((vector_sort w n u has).1 i) sizes (sym one i)) ∙ (Decides-eqb (length (nat2bv w n)) w).1 (length-nat2bv w n)

record More (o : Option Value) (p : Option (List Value)) (us : List Value) : Type 0 where
  value : Value
  rest : List Value
  first : o ≡ Some value
  others : p ≡ Some rest
  all : us ≡ value ∷ rest

more : (o : Option Value) (p : Option (List Value)) (us : List Value) → with_value o p ≡ Some us → More o p us
more None p us e = absurd cc
more (Some v) None us e = absurd cc
more (Some v) (Some vs) us e = record { value = v; rest = vs; first = refl; others = refl; all = cc }

constant_vals : (ts : Terms) (vs : List Value) → constant_values (list ts) ≡ Some vs → (m : Model) (e : Env) → vals m ts e ≡ vs
constant_vals none vs h m e = cc
constant_vals (t ⨾ ts) vs h m e =
    let parts = more (constant_value t) (constant_values (list ts)) vs h in
    (λ i. constant_val t parts.value (some_constant t parts.value parts.first) parts.first m e i ∷ constant_vals ts parts.rest parts.others m e i) ∙ sym parts.all

constants_valid : (ts : Terms) (ss : List Sort) (vs : List Value) (sizes : Sizes) → sorts_of ts ≡ Some ss → constant_values (list ts) ≡ Some vs → are_values ss sizes vs ≡ true
constants_valid none ss vs sizes has h =
    let sorts : [] ≡ ss = cc in
    let values : [] ≡ vs = cc in
    sym (λ i. are_values (sorts i) sizes (values i))
constants_valid (t ⨾ ts) ss vs sizes has h =
    let here = sorted t ts ss has in
    let parts = more (constant_value t) (constant_values (list ts)) vs h in
    (λ i. are_values (here.all i) sizes (parts.all i))
    ∙ and_true (is_value here.sort sizes parts.value) (are_values here.sorts sizes parts.rest)
    (constant_valid t here.sort parts.value sizes (some_constant t parts.value parts.first) here.first parts.first) (constants_valid ts here.sorts parts.rest sizes here.others parts.others)

-- ---- what a model chooses plays no part

same_sizes : (s : Sort) → is_scalar s ≡ true → (b c : Sizes) (v w : Value) → same s b v w ≡ same s c v w
same_sizes bool h b c v w = refl
same_sizes int h b c v w = refl
same_sizes (bit_vector u) h b c v w = refl
same_sizes (free_sort n) h b c v w = absurd cc
same_sizes (array i e) h b c v w = absurd cc

unaffected : (b c : Background) (o : Op) (ss : List Sort) (s : Sort) (vs : List Value) → Takes (shape o) ss s → is_scalar (first_sort ss) ≡ true → divides_by_zero o vs ≡ false → op_value b o ss vs ≡ op_value c o ss vs
unfolding shape op_value op_eq
unaffected b c Equal ss s vs t f h = ap truth (same_sizes (first_sort ss) f b.sizes c.sizes (first_value vs) (second_value vs))
unaffected b c Distinct ss s vs t f h = λ i. truth (all_distinct (λ v w. same_sizes (first_sort ss) f b.sizes c.sizes v w i) vs)
unaffected b c Div ss s vs t f h = ap (λ z. whole (cond z (b.div_by_zero (number (first_value vs))) (int_div_euclid (number (first_value vs)) (number (second_value vs))))) h ∙ sym (ap (λ z. whole (cond z (c.div_by_zero (number (first_value vs))) (int_div_euclid (number (first_value vs)) (number (second_value vs))))) h)
unaffected b c Mod ss s vs t f h = ap (λ z. whole (cond z (b.mod_by_zero (number (first_value vs))) (int_rem_euclid (number (first_value vs)) (number (second_value vs))))) h ∙ sym (ap (λ z. whole (cond z (c.mod_by_zero (number (first_value vs))) (int_rem_euclid (number (first_value vs)) (number (second_value vs))))) h)
unaffected b c Select ss s vs t f h = let scalar : is_scalar (array t.0 s) ≡ true = subst (λ us. is_scalar (first_sort us) ≡ true) t.1 f in absurd cc
unaffected b c Store ss s vs t f h = let scalar : is_scalar (array t.0 t.1) ≡ true = subst (λ us. is_scalar (first_sort us) ≡ true) t.2 f in absurd cc
unaffected b c _ ss s vs t f h = refl

-- ---- the constant of a value

-- a term of that sort whose value it is
record Stands (s : Sort) (v : Value) (r : Term) : Type 0 where
  result : Operand s r
  values : (m : Model) (e : Env) → val m r e ≡ v

stands : (s : Sort) (sizes : Sizes) (v : Value) → is_sort s ≡ true → is_value s sizes v ≡ true → IfSome (constant_term v) (λ r. Stands s v r)
unfolding op_value
stands bool sizes (truth b) fine valid = record { result = truth_operand b; values = λ m e. refl }
stands int sizes (whole n) fine valid = elim (true_or_false (within_range n)) [
  | inl small ↦ subst (λ b. IfSome (cond b (Some (whole_term n)) None) (λ r. Stands int (whole n) r)) (sym small) (record { result = whole_operand n (ltb-true (nat_abs n) (2 ^ 127) small); values = λ m e. refl })
  | inr large ↦ subst (λ b. IfSome (cond b (Some (whole_term n)) None) (λ r. Stands int (whole n) r)) (sym large) tt
]
stands (bit_vector w) sizes (bits bs) fine valid =
    let width : length bs ≡ w = (Decides-eqb (length bs) w).0 valid in
    record {
      result = subst (λ u. Operand (bit_vector u) (bits_term (length bs) (bv2nat bs))) width (bits_operand (length bs) (bv2nat bs) (subst (λ u. is_sort (bit_vector u) ≡ true) (sym width) fine) (bv2nat-small bs));
      values = λ m e. ap bits (nat2bv-bv2nat bs);
    }
stands s sizes (element i) fine valid = tt
stands s sizes (table d ps) fine valid = tt
stands _ sizes _ fine valid = absurd cc

-- ---- the law

module _ (o : Op) (t : Term) (ts : Terms) (ss : List Sort) (s : Sort) (has : sorts_of (t ⨾ ts) ≡ Some ss) (takes : Takes (shape o) ss s) (fine : is_sort s ≡ true) where
  first_scalar : (vs : List Value) → constant_values (list (t ⨾ ts)) ≡ Some vs → is_scalar (first_sort ss) ≡ true
  first_scalar vs h =
      let here = sorted t ts ss has in
      let parts = more (constant_value t) (constant_values (list ts)) vs h in
      ap (λ us. is_scalar (first_sort us)) here.all ∙ constant_scalar t here.sort (some_constant t parts.value parts.first) here.first

  over_values : (vs : List Value) → constant_values (list (t ⨾ ts)) ≡ Some vs → divides_by_zero o vs ≡ false → IfSome (constant_term (op_value any_background o ss vs)) (λ r. Gives s (apply (op o) (t ⨾ ts)) r)
  over_values vs h defined = given (constant_term (op_value any_background o ss vs)) (stands s any_background.sizes (op_value any_background o ss vs) fine (op_valid any_background o ss s vs takes (constants_valid (t ⨾ ts) ss vs any_background.sizes has h)))
    where
      value : (m : Model) (e : Env) → val m (apply (op o) (t ⨾ ts)) e ≡ op_value any_background o ss vs
      value m e =
          ap (λ (q : Option (List Sort)). op_value (background m) o (unwrap_or q []) (vals m (t ⨾ ts) e)) has
          ∙ ap (op_value (background m) o ss) (constant_vals (t ⨾ ts) vs h m e)
          ∙ unaffected (background m) any_background o ss s vs takes (first_scalar vs h) defined

      given : (q : Option Term) → IfSome q (λ r. Stands s (op_value any_background o ss vs) r) → IfSome q (λ r. Gives s (apply (op o) (t ⨾ ts)) r)
      given None g = tt
      given (Some r) g = record { result = g.result; values = λ m e model env. equal_same s m.sizes (value m e ∙ sym (g.values m e)) }

  over_constants : (q : Option (List Value)) → constant_values (list (t ⨾ ts)) ≡ q → IfSome (option_and_then (folded_values o ss) q) (λ r. Gives s (apply (op o) (t ⨾ ts)) r)
  over_constants None h = tt
  over_constants (Some vs) h = elim (true_or_false (divides_by_zero o vs)) [
    | inl undefined ↦ subst (λ b. IfSome (cond b None (constant_term (op_value any_background o ss vs))) (λ r. Gives s (apply (op o) (t ⨾ ts)) r)) (sym undefined) tt
    | inr defined ↦ subst (λ b. IfSome (cond b None (constant_term (op_value any_background o ss vs))) (λ r. Gives s (apply (op o) (t ⨾ ts)) r)) (sym defined) (over_values vs h defined)
  ]

  pub folded_gives : IfSome (folded o ss (list (t ⨾ ts))) (λ r. Gives s (apply (op o) (t ⨾ ts)) r)
  folded_gives = over_constants (constant_values (list (t ⨾ ts))) refl
