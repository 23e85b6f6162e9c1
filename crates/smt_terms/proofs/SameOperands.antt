-- A head gives the same value to operands that are the same.
use Rattle.std.proofs.Common.{◌≡◌, ℕ, zero, suc, true, false, not, cond, ◌&&◌, ◌||◌, ◌+ℤ◌, ◌-ℤ◌, ◌*ℤ◌, pos, neg_ℤ, List, [], ◌∷◌, replicate, Option, Some, None, Ok, IsTrue, refl, ap, sym, ◌∙◌, subst}
use Rattle.std.specs.Prelude.{unsigned_abs, int_lt, int_le, IfSome}
use Rattle.std.specs.Bool.{beq}
use Rattle.std.specs.List.{list_all, list_any}
use Rattle.smt_terms.specs.declared.op.Op.{Op}
use Rattle.smt_terms.specs.declared.op.Op.TheVariants.{Truth, Whole, Bits, Sym, Forall, Exists, ConstArray, Not, And, Or, Xor, Implies, Equal, Distinct, Ite, Neg, Sub, Add, Mul, Div, Mod, Abs, Le, Lt, Concat, Extract, BvNot, BvNeg, BvAnd, BvOr, BvXor, BvAdd, BvMul, BvSub, BvUdiv, BvUrem, BvSdiv, BvSrem, BvSmod, BvShl, BvLshr, BvAshr, BvComp, BvUlt, BvUle, BvSlt, BvSle, ZeroExt, SignExt, RotL, RotR, Select, Store}
use Rattle.smt_terms.specs.Sorts.{Sort, bool, int, array, Symbol}
use Rattle.smt_terms.specs.Term.{Head, op, symbol, const_array}
use Rattle.smt_terms.specs.BitVectors.{nat2bv, concat, extract, zero_extend, sign_extend, rotate_left, rotate_right, bvnot, bvneg, bvand, bvor, bvxor, bvadd, bvmul, bvsub, bvudiv, bvurem, bvsdiv, bvsrem, bvsmod, bvshl, bvlshr, bvashr, bvcomp, bvult, bvule, bvslt, bvsle}
use Rattle.smt_terms.specs.Rank.{is_array, is_sort, shape, rank}
use Rattle.smt_terms.specs.Takes.{Takes}
use Rattle.smt_terms.specs.Values.{Value, truth, whole, bits, table, no_pairs, Sizes, is_true, number, same, all_same, is_value, are_values, cover, select}
use Rattle.smt_terms.specs.Operators.{Background, first_value, second_value, third_value, sum_of, product_of, all_distinct, quotient, modulus, op_value}
use Rattle.smt_terms.specs.Models.{Row, Graph, Model, row_value, graph_or_default, background, is_graph, IsModel, distinct_rows, rows_allowed}
use Rattle.smt_terms.specs.Val.{Env, head_value}
use Rattle.smt_terms.proofs.Tests.{both_true, alike_from, right_true}
use Rattle.smt_terms.proofs.Same.{same-itself, same-back, same-through, same-select, select-like, array_sorts}
use Rattle.smt_terms.proofs.SameStores.{same_choice, store_same}
use Rattle.smt_terms.proofs.Respects.{equal_same, first_same, second_same, third_same, truths_alike, numbers_alike, at_sorts, logical_alike, of_truth, of_number, of_numbers, of_bits, of_two_bits, totals_alike}
use Rattle.smt_terms.proofs.Ranked.{rank-takes}
use Rattle.smt_terms.proofs.Valid.{first_valid, second_valid, op_valid}

-- ---- equations between values that are the same

module _ (s : Sort) (sizes : Sizes) (fine : is_sort s ≡ true) where
  same_turned : (v w u : Value) → is_value s sizes v ≡ true → is_value s sizes w ≡ true → is_value s sizes u ≡ true → same s sizes v w ≡ true → same s sizes v u ≡ same s sizes w u
  same_turned v w u vv vw vu h =
      alike_from (same s sizes v u) (same s sizes w u)
      (λ p. same-through s sizes w v u fine vw vv vu (same-back s sizes v w h) p)
      (λ p. same-through s sizes v w u fine vv vw vu h p)

  pub equations_alike : (v w x y : Value) → is_value s sizes v ≡ true → is_value s sizes w ≡ true → is_value s sizes x ≡ true → is_value s sizes y ≡ true → same s sizes v w ≡ true → same s sizes x y ≡ true → same s sizes v x ≡ same s sizes w y
  equations_alike v w x y vv vw vx vy h k =
      same_turned v w x vv vw vx h
      ∙ alike_from (same s sizes w x) (same s sizes w y)
      (λ p. same-through s sizes w x y fine vw vx vy p k)
      (λ p. same-through s sizes w y x fine vw vy vx p (same-back s sizes x y k))

  any_alike : (k : ℕ) (v w : Value) (vs ws : List Value) → is_value s sizes v ≡ true → is_value s sizes w ≡ true → same s sizes v w ≡ true → are_values (replicate k s) sizes vs ≡ true → are_values (replicate k s) sizes ws ≡ true → all_same (replicate k s) sizes vs ws ≡ true → list_any (same s sizes v) vs ≡ list_any (same s sizes w) ws
  any_alike zero v w [] [] vv vw e va wa h = refl
  any_alike zero v w [] (y ∷ ws) vv vw e va wa h = absurd cc
  any_alike zero v w (x ∷ vs) ws vv vw e va wa h = absurd cc
  any_alike (suc k) v w [] [] vv vw e va wa h = absurd cc
  any_alike (suc k) v w [] (y ∷ ws) vv vw e va wa h = absurd cc
  any_alike (suc k) v w (x ∷ vs) [] vv vw e va wa h = absurd cc
  any_alike (suc k) v w (x ∷ vs) (y ∷ ws) vv vw e va wa h =
      let left = both_true (is_value s sizes x) (are_values (replicate k s) sizes vs) va in
      let right = both_true (is_value s sizes y) (are_values (replicate k s) sizes ws) wa in
      let parts = both_true (same s sizes x y) (all_same (replicate k s) sizes vs ws) h in
      λ i. equations_alike v w x y vv vw left.0 right.0 e parts.0 i || any_alike k v w vs ws vv vw e left.1 right.1 parts.1 i

  pub distinct_alike : (k : ℕ) (vs ws : List Value) → are_values (replicate k s) sizes vs ≡ true → are_values (replicate k s) sizes ws ≡ true → all_same (replicate k s) sizes vs ws ≡ true → all_distinct (same s sizes) vs ≡ all_distinct (same s sizes) ws
  distinct_alike zero [] [] va wa h = refl
  distinct_alike zero [] (y ∷ ws) va wa h = absurd cc
  distinct_alike zero (x ∷ vs) ws va wa h = absurd cc
  distinct_alike (suc k) [] [] va wa h = absurd cc
  distinct_alike (suc k) [] (y ∷ ws) va wa h = absurd cc
  distinct_alike (suc k) (x ∷ vs) [] va wa h = absurd cc
  distinct_alike (suc k) (x ∷ vs) (y ∷ ws) va wa h =
      let left = both_true (is_value s sizes x) (are_values (replicate k s) sizes vs) va in
      let right = both_true (is_value s sizes y) (are_values (replicate k s) sizes ws) wa in
      let parts = both_true (same s sizes x y) (all_same (replicate k s) sizes vs ws) h in
      λ i. not (any_alike k x y vs ws left.0 right.0 parts.0 left.1 right.1 parts.1 i) && distinct_alike k vs ws left.1 right.1 parts.1 i

-- ---- the operators

-- operands of these sorts, and results of that sort
pub record SameOperands (b : Background) (o : Op) (ss : List Sort) (s : Sort) (vs ws : List Value) : Type 0 where
  pub sorts : list_all is_sort ss ≡ true
  pub first : are_values ss b.sizes vs ≡ true
  pub second : are_values ss b.sizes ws ≡ true
  pub operands : all_same ss b.sizes vs ws ≡ true
  pub first_result : is_value s b.sizes (op_value b o ss vs) ≡ true
  pub second_result : is_value s b.sizes (op_value b o ss ws) ≡ true

abbrev GivesSame : Background → Op → List Sort → Sort → List Value → List Value → Type 0
GivesSame b o ss s vs ws = SameOperands b o ss s vs ws → same s b.sizes (op_value b o ss vs) (op_value b o ss ws) ≡ true

equation_gives : (b : Background) (u : Sort) (vs ws : List Value) → GivesSame b Equal (u ∷ u ∷ []) bool vs ws
unfolding op_value
equation_gives b u vs ws h =
    let fine : is_sort u ≡ true = (both_true (is_sort u) (is_sort u && true) h.sorts).0 in
    equal_same bool b.sizes (ap truth (equations_alike u b.sizes fine (first_value vs) (first_value ws) (second_value vs) (second_value ws)
    (first_valid u (u ∷ []) b.sizes vs h.first) (first_valid u (u ∷ []) b.sizes ws h.second)
    (second_valid u u [] b.sizes vs h.first) (second_valid u u [] b.sizes ws h.second)
    (first_same u (u ∷ []) b.sizes vs ws h.operands) (second_same u u [] b.sizes vs ws h.operands)))

distinctness_gives : (b : Background) (u : Sort) (n : ℕ) (vs ws : List Value) → GivesSame b Distinct (u ∷ u ∷ replicate n u) bool vs ws
unfolding op_value
distinctness_gives b u n vs ws h =
    let fine : is_sort u ≡ true = (both_true (is_sort u) (list_all is_sort (u ∷ replicate n u)) h.sorts).0 in
    equal_same bool b.sizes (ap truth (distinct_alike u b.sizes fine (suc (suc n)) vs ws h.first h.second h.operands))

choice_gives : (b : Background) (u : Sort) (vs ws : List Value) → GivesSame b Ite (bool ∷ u ∷ u ∷ []) u vs ws
unfolding op_value
choice_gives b u vs ws h =
    same_choice u b.sizes (is_true (first_value vs)) (is_true (first_value ws)) (second_value vs) (second_value ws) (third_value vs) (third_value ws)
    (truths_alike b.sizes (first_value vs) (first_value ws) (first_same bool (u ∷ u ∷ []) b.sizes vs ws h.operands))
    (second_same bool u (u ∷ []) b.sizes vs ws h.operands) (third_same bool u u [] b.sizes vs ws h.operands)

selection_gives : (b : Background) (i e : Sort) (vs ws : List Value) → GivesSame b Select (array i e ∷ i ∷ []) e vs ws
unfolding op_value
selection_gives b i e vs ws h =
    let scalar : is_array i ≡ false = (array_sorts i e (both_true (is_sort (array i e)) (is_sort i && true) h.sorts).0).0 in
    let keys : same i b.sizes (second_value vs) (second_value ws) ≡ true = second_same (array i e) i [] b.sizes vs ws h.operands in
    let valid : is_value i b.sizes (second_value vs) ≡ true = second_valid (array i e) i [] b.sizes vs h.first in
    subst (λ v. same e b.sizes (select i b.sizes (first_value vs) (second_value vs)) v ≡ true)
    (select-like i b.sizes (first_value ws) (second_value vs) (second_value ws) scalar keys)
    (same-select i e b.sizes (first_value vs) (first_value ws) (second_value vs) scalar valid (first_same (array i e) (i ∷ []) b.sizes vs ws h.operands))

storing_gives : (b : Background) (i e : Sort) (vs ws : List Value) → GivesSame b Store (array i e ∷ i ∷ e ∷ []) (array i e) vs ws
unfolding op_value
storing_gives b i e vs ws h =
    store_same i e b.sizes (both_true (is_sort (array i e)) (is_sort i && (is_sort e && true)) h.sorts).0
    (first_value vs) (first_value ws) (second_value vs) (second_value ws) (third_value vs) (third_value ws)
    h.first_result h.second_result
    (first_same (array i e) (i ∷ e ∷ []) b.sizes vs ws h.operands)
    (second_same (array i e) i (e ∷ []) b.sizes vs ws h.operands)
    (third_same (array i e) i e [] b.sizes vs ws h.operands)

-- operands of those sorts, and a result of that sort
moved : (b : Background) (o : Op) (ss us : List Sort) (s r : Sort) (vs ws : List Value) → ss ≡ us → s ≡ r → GivesSame b o us r vs ws → GivesSame b o ss s vs ws
moved b o ss us s r vs ws e f g = subst (λ x. GivesSame b o x s vs ws) (sym e) (subst (λ y. GivesSame b o us y vs ws) (sym f) g)

op_gives : (b : Background) (o : Op) (ss : List Sort) (s : Sort) (vs ws : List Value) → Takes (shape o) ss s → GivesSame b o ss s vs ws
unfolding shape op_value
op_gives b (Truth x) ss s vs ws t h = equal_same s b.sizes {a = truth x} refl
op_gives b (Whole n) ss s vs ws t h = equal_same s b.sizes {a = whole n} refl
op_gives b (Bits width n) ss s vs ws t h = equal_same s b.sizes {a = bits (nat2bv width n)} refl
op_gives b Not ss s vs ws t h = equal_same s b.sizes (of_truth b.sizes ss vs ws h.operands (λ x. truth (not x)) t.0)
op_gives b And ss s vs ws t h = equal_same s b.sizes (ap truth (totals_alike bool b.sizes is_true ◌&&◌ (list_all is_true) (λ v vs. refl) (truths_alike b.sizes) (suc (suc t.0)) vs ws (at_sorts b.sizes ss vs ws h.operands (bool ∷ bool ∷ replicate t.0 bool) t.1)))
op_gives b Or ss s vs ws t h = equal_same s b.sizes (ap truth (totals_alike bool b.sizes is_true ◌||◌ (list_any is_true) (λ v vs. refl) (truths_alike b.sizes) (suc (suc t.0)) vs ws (at_sorts b.sizes ss vs ws h.operands (bool ∷ bool ∷ replicate t.0 bool) t.1)))
op_gives b Xor ss s vs ws t h = equal_same s b.sizes (logical_alike b.sizes ss vs ws h.operands (λ x y. not (beq x y)) t.0)
op_gives b Implies ss s vs ws t h = equal_same s b.sizes (logical_alike b.sizes ss vs ws h.operands (λ x y. not x || y) t.0)
op_gives b Equal ss s vs ws t h = moved b Equal ss (t.0 ∷ t.0 ∷ []) s bool vs ws t.1 t.2 (equation_gives b t.0 vs ws) h
op_gives b Distinct ss s vs ws t h = moved b Distinct ss (t.0 ∷ t.0 ∷ replicate t.1 t.0) s bool vs ws t.2 t.3 (distinctness_gives b t.0 t.1 vs ws) h
op_gives b Ite ss s vs ws t h = moved b Ite ss (bool ∷ t.0 ∷ t.0 ∷ []) s t.0 vs ws t.1 t.2 (choice_gives b t.0 vs ws) h
op_gives b Neg ss s vs ws t h = equal_same s b.sizes (of_number b.sizes ss vs ws h.operands (λ n. whole (neg_ℤ n)) t.0)
op_gives b Sub ss s vs ws t h = equal_same s b.sizes (of_numbers b.sizes ss vs ws h.operands (λ m n. whole (m -ℤ n)) t.0)
op_gives b Add ss s vs ws t h = equal_same s b.sizes (ap whole (totals_alike int b.sizes number ◌+ℤ◌ sum_of (λ v vs. refl) (numbers_alike b.sizes) (suc (suc t.0)) vs ws (at_sorts b.sizes ss vs ws h.operands (int ∷ int ∷ replicate t.0 int) t.1)))
op_gives b Mul ss s vs ws t h = equal_same s b.sizes (ap whole (totals_alike int b.sizes number ◌*ℤ◌ product_of (λ v vs. refl) (numbers_alike b.sizes) (suc (suc t.0)) vs ws (at_sorts b.sizes ss vs ws h.operands (int ∷ int ∷ replicate t.0 int) t.1)))
op_gives b Div ss s vs ws t h = equal_same s b.sizes (of_numbers b.sizes ss vs ws h.operands (λ m n. whole (quotient b m n)) t.0)
op_gives b Mod ss s vs ws t h = equal_same s b.sizes (of_numbers b.sizes ss vs ws h.operands (λ m n. whole (modulus b m n)) t.0)
op_gives b Abs ss s vs ws t h = equal_same s b.sizes (of_number b.sizes ss vs ws h.operands (λ n. whole (pos (unsigned_abs n))) t.0)
op_gives b Le ss s vs ws t h = equal_same s b.sizes (of_numbers b.sizes ss vs ws h.operands (λ m n. truth (int_le m n)) t.0)
op_gives b Lt ss s vs ws t h = equal_same s b.sizes (of_numbers b.sizes ss vs ws h.operands (λ m n. truth (int_lt m n)) t.0)
op_gives b Concat ss s vs ws t h = equal_same s b.sizes (of_two_bits b.sizes ss vs ws h.operands (λ x y. bits (concat x y)) t.0 t.1 t.2)
op_gives b (Extract high low) ss s vs ws t h = equal_same s b.sizes (of_bits b.sizes ss vs ws h.operands (λ x. bits (extract high low x)) t.0 t.1)
op_gives b BvNot ss s vs ws t h = equal_same s b.sizes (of_bits b.sizes ss vs ws h.operands (λ x. bits (bvnot x)) t.0 t.1)
op_gives b BvNeg ss s vs ws t h = equal_same s b.sizes (of_bits b.sizes ss vs ws h.operands (λ x. bits (bvneg x)) t.0 t.1)
op_gives b BvAnd ss s vs ws t h = equal_same s b.sizes (of_two_bits b.sizes ss vs ws h.operands (λ x y. bits (bvand x y)) t.0 t.0 t.1)
op_gives b BvOr ss s vs ws t h = equal_same s b.sizes (of_two_bits b.sizes ss vs ws h.operands (λ x y. bits (bvor x y)) t.0 t.0 t.1)
op_gives b BvXor ss s vs ws t h = equal_same s b.sizes (of_two_bits b.sizes ss vs ws h.operands (λ x y. bits (bvxor x y)) t.0 t.0 t.1)
op_gives b BvAdd ss s vs ws t h = equal_same s b.sizes (of_two_bits b.sizes ss vs ws h.operands (λ x y. bits (bvadd x y)) t.0 t.0 t.1)
op_gives b BvMul ss s vs ws t h = equal_same s b.sizes (of_two_bits b.sizes ss vs ws h.operands (λ x y. bits (bvmul x y)) t.0 t.0 t.1)
op_gives b BvSub ss s vs ws t h = equal_same s b.sizes (of_two_bits b.sizes ss vs ws h.operands (λ x y. bits (bvsub x y)) t.0 t.0 t.1)
op_gives b BvUdiv ss s vs ws t h = equal_same s b.sizes (of_two_bits b.sizes ss vs ws h.operands (λ x y. bits (bvudiv x y)) t.0 t.0 t.1)
op_gives b BvUrem ss s vs ws t h = equal_same s b.sizes (of_two_bits b.sizes ss vs ws h.operands (λ x y. bits (bvurem x y)) t.0 t.0 t.1)
op_gives b BvSdiv ss s vs ws t h = equal_same s b.sizes (of_two_bits b.sizes ss vs ws h.operands (λ x y. bits (bvsdiv x y)) t.0 t.0 t.1)
op_gives b BvSrem ss s vs ws t h = equal_same s b.sizes (of_two_bits b.sizes ss vs ws h.operands (λ x y. bits (bvsrem x y)) t.0 t.0 t.1)
op_gives b BvSmod ss s vs ws t h = equal_same s b.sizes (of_two_bits b.sizes ss vs ws h.operands (λ x y. bits (bvsmod x y)) t.0 t.0 t.1)
op_gives b BvShl ss s vs ws t h = equal_same s b.sizes (of_two_bits b.sizes ss vs ws h.operands (λ x y. bits (bvshl x y)) t.0 t.0 t.1)
op_gives b BvLshr ss s vs ws t h = equal_same s b.sizes (of_two_bits b.sizes ss vs ws h.operands (λ x y. bits (bvlshr x y)) t.0 t.0 t.1)
op_gives b BvAshr ss s vs ws t h = equal_same s b.sizes (of_two_bits b.sizes ss vs ws h.operands (λ x y. bits (bvashr x y)) t.0 t.0 t.1)
op_gives b BvComp ss s vs ws t h = equal_same s b.sizes (of_two_bits b.sizes ss vs ws h.operands (λ x y. bits (bvcomp x y)) t.0 t.0 t.1)
op_gives b BvUlt ss s vs ws t h = equal_same s b.sizes (of_two_bits b.sizes ss vs ws h.operands (λ x y. truth (bvult x y)) t.0 t.0 t.1)
op_gives b BvUle ss s vs ws t h = equal_same s b.sizes (of_two_bits b.sizes ss vs ws h.operands (λ x y. truth (bvule x y)) t.0 t.0 t.1)
op_gives b BvSlt ss s vs ws t h = equal_same s b.sizes (of_two_bits b.sizes ss vs ws h.operands (λ x y. truth (bvslt x y)) t.0 t.0 t.1)
op_gives b BvSle ss s vs ws t h = equal_same s b.sizes (of_two_bits b.sizes ss vs ws h.operands (λ x y. truth (bvsle x y)) t.0 t.0 t.1)
op_gives b (ZeroExt i) ss s vs ws t h = equal_same s b.sizes (of_bits b.sizes ss vs ws h.operands (λ x. bits (zero_extend i x)) t.0 t.1)
op_gives b (SignExt i) ss s vs ws t h = equal_same s b.sizes (of_bits b.sizes ss vs ws h.operands (λ x. bits (sign_extend i x)) t.0 t.1)
op_gives b (RotL i) ss s vs ws t h = equal_same s b.sizes (of_bits b.sizes ss vs ws h.operands (λ x. bits (rotate_left i x)) t.0 t.1)
op_gives b (RotR i) ss s vs ws t h = equal_same s b.sizes (of_bits b.sizes ss vs ws h.operands (λ x. bits (rotate_right i x)) t.0 t.1)
op_gives b Select ss s vs ws t h = moved b Select ss (array t.0 s ∷ t.0 ∷ []) s s vs ws t.1 refl (selection_gives b t.0 s vs ws) h
op_gives b Store ss s vs ws t h = moved b Store ss (array t.0 t.1 ∷ t.0 ∷ t.1 ∷ []) s (array t.0 t.1) vs ws t.2 t.3 (storing_gives b t.0 t.1 vs ws) h
op_gives b (Sym f) ss s vs ws t h = absurd t
op_gives b Forall ss s vs ws t h = absurd t
op_gives b Exists ss s vs ws t h = absurd t
op_gives b (ConstArray r) ss s vs ws t h = absurd t

-- ---- symbols

keys_alike : (ss : List Sort) (sizes : Sizes) → list_all is_sort ss ≡ true → (ks vs ws : List Value) → are_values ss sizes ks ≡ true → are_values ss sizes vs ≡ true → are_values ss sizes ws ≡ true → all_same ss sizes vs ws ≡ true → all_same ss sizes ks vs ≡ all_same ss sizes ks ws
keys_alike [] sizes fine [] [] [] vk vv vw h = refl
keys_alike [] sizes fine (k ∷ ks) vs ws vk vv vw h = absurd cc
keys_alike [] sizes fine [] (v ∷ vs) ws vk vv vw h = absurd cc
keys_alike [] sizes fine [] [] (w ∷ ws) vk vv vw h = absurd cc
keys_alike (s ∷ ss) sizes fine [] vs ws vk vv vw h = absurd cc
keys_alike (s ∷ ss) sizes fine (k ∷ ks) [] ws vk vv vw h = absurd cc
keys_alike (s ∷ ss) sizes fine (k ∷ ks) (v ∷ vs) [] vk vv vw h = absurd cc
keys_alike (s ∷ ss) sizes fine (k ∷ ks) (v ∷ vs) (w ∷ ws) vk vv vw h =
    let sorts = both_true (is_sort s) (list_all is_sort ss) fine in
    let keys = both_true (is_value s sizes k) (are_values ss sizes ks) vk in
    let left = both_true (is_value s sizes v) (are_values ss sizes vs) vv in
    let right = both_true (is_value s sizes w) (are_values ss sizes ws) vw in
    let parts = both_true (same s sizes v w) (all_same ss sizes vs ws) h in
    λ i. equations_alike s sizes sorts.0 k k v w keys.0 keys.0 left.0 right.0 (same-itself s sizes k) parts.0 i && keys_alike ss sizes sorts.1 ks vs ws keys.1 left.1 right.1 parts.1 i

rows_alike : (f : Symbol) (sizes : Sizes) → list_all is_sort f.args ≡ true → (vs ws : List Value) → are_values f.args sizes vs ≡ true → are_values f.args sizes ws ≡ true → all_same f.args sizes vs ws ≡ true → (rows : List Row) (d : Value) → list_all (λ r. are_values f.args sizes r.keys && is_value f.result sizes r.result) rows ≡ true → row_value (λ r. all_same f.args sizes r.keys vs) rows d ≡ row_value (λ r. all_same f.args sizes r.keys ws) rows d
rows_alike f sizes fine vs ws vv vw h [] d valid = refl
rows_alike f sizes fine vs ws vv vw h (r ∷ rows) d valid =
    let parts = both_true (are_values f.args sizes r.keys && is_value f.result sizes r.result) (list_all (λ r. are_values f.args sizes r.keys && is_value f.result sizes r.result) rows) valid in
    let keys = both_true (are_values f.args sizes r.keys) (is_value f.result sizes r.result) parts.0 in
    λ i. cond (keys_alike f.args sizes fine r.keys vs ws keys.0 vv vw h i) r.result (rows_alike f sizes fine vs ws vv vw h rows d parts.1 i)

graph_alike : (f : Symbol) (sizes : Sizes) → list_all is_sort f.args ≡ true → (vs ws : List Value) → are_values f.args sizes vs ≡ true → are_values f.args sizes ws ≡ true → all_same f.args sizes vs ws ≡ true → (o : Option Graph) → IfSome o (λ g. IsTrue (is_graph f sizes g)) → graph_or_default f sizes o vs ≡ graph_or_default f sizes o ws
graph_alike f sizes fine vs ws vv vw h None valid = refl
graph_alike f sizes fine vs ws vv vw h (Some g) valid =
    let all = both_true (is_value f.result sizes g.otherwise) (list_all (λ r. are_values f.args sizes r.keys && is_value f.result sizes r.result) g.rows && (distinct_rows f.args sizes g.rows && rows_allowed f.args g.rows)) valid in
    let rows = both_true (list_all (λ r. are_values f.args sizes r.keys && is_value f.result sizes r.result) g.rows) (distinct_rows f.args sizes g.rows && rows_allowed f.args g.rows) all.1 in
    rows_alike f sizes fine vs ws vv vw h g.rows g.otherwise rows.0

no_shorter : (ss : List Sort) (sizes : Sizes) (w : Value) (ws : List Value) → all_same ss sizes [] (w ∷ ws) ≡ true → ⊥
no_shorter [] sizes w ws h = absurd cc
no_shorter (s ∷ ss) sizes w ws h = absurd cc

no_longer : (ss : List Sort) (sizes : Sizes) (v : Value) (vs : List Value) → all_same ss sizes (v ∷ vs) [] ≡ true → ⊥
no_longer [] sizes v vs h = absurd cc
no_longer (s ∷ ss) sizes v vs h = absurd cc

symbol_alike : (m : Model) (e : Env) (f : Symbol) (ss : List Sort) (vs ws : List Value) → IsModel m → list_all is_sort f.args ≡ true → are_values f.args m.sizes vs ≡ true → are_values f.args m.sizes ws ≡ true → all_same f.args m.sizes vs ws ≡ true → head_value m e (symbol f) ss vs ≡ head_value m e (symbol f) ss ws
symbol_alike m e f ss [] [] model fine vv vw h = refl
symbol_alike m e f ss [] (w ∷ ws) model fine vv vw h = absurd (no_shorter f.args m.sizes w ws h)
symbol_alike m e f ss (v ∷ vs) [] model fine vv vw h = absurd (no_longer f.args m.sizes v vs h)
symbol_alike m e f ss (v ∷ vs) (w ∷ ws) model fine vv vw h = graph_alike f m.sizes fine (v ∷ vs) (w ∷ ws) vv vw h (m.graphs f) (model.graphs f)

-- ---- constant arrays

filled_same : (i e : Sort) (sizes : Sizes) (v w : Value) → same e sizes v w ≡ true → same (array i e) sizes (table v no_pairs) (table w no_pairs) ≡ true
filled_same i e sizes v w h = right_true (cover i sizes (same i sizes) no_pairs no_pairs) (same e sizes v w) h

-- ---- the law

pub head_gives : (m : Model) (e : Env) (h : Head) (ss : List Sort) (s : Sort) (vs ws : List Value) → IsModel m → rank h ss ≡ Ok s → list_all is_sort ss ≡ true → are_values ss m.sizes vs ≡ true → are_values ss m.sizes ws ≡ true → all_same ss m.sizes vs ws ≡ true → same s m.sizes (head_value m e h ss vs) (head_value m e h ss ws) ≡ true
head_gives m e (op o) ss s vs ws model ranked fine vv vw h =
    let taken = rank-takes (op o) ss s ranked in
    op_gives (background m) o ss s vs ws taken (record {
      sorts = fine;
      first = vv;
      second = vw;
      operands = h;
      first_result = op_valid (background m) o ss s vs taken vv;
      second_result = op_valid (background m) o ss s ws taken vw;
    })
head_gives m e (symbol f) ss s vs ws model ranked fine vv vw h =
    let args = (rank-takes (symbol f) ss s ranked).0 in
    equal_same s m.sizes (symbol_alike m e f ss vs ws model
    (subst (λ us. list_all is_sort us ≡ true) args fine)
    (subst (λ us. are_values us m.sizes vs ≡ true) args vv)
    (subst (λ us. are_values us m.sizes ws ≡ true) args vw)
    (subst (λ us. all_same us m.sizes vs ws ≡ true) args h))
head_gives m e (const_array r) ss s vs ws model ranked fine vv vw h =
    let taken = rank-takes (const_array r) ss s ranked in
    let one : same taken.1 m.sizes (first_value vs) (first_value ws) ≡ true = first_same taken.1 [] m.sizes vs ws (subst (λ us. all_same us m.sizes vs ws ≡ true) taken.3 h) in
    subst (λ u. same u m.sizes (table (first_value vs) no_pairs) (table (first_value ws) no_pairs) ≡ true) (sym (taken.4 ∙ taken.2)) (filled_same taken.0 taken.1 m.sizes (first_value vs) (first_value ws) one)
