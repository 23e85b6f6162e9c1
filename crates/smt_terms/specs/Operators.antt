-- The values of the operators: SMT-LIB 2.6, theories Core, Ints, FixedSizeBitVectors and ArraysEx, and logic QF_BV.
use Rattle.std.specs.Prelude.{Bool, true, false, cond, not, ◌&&◌, ◌||◌, List, [], ◌∷◌, ℤ, pos, ◌+ℤ◌, ◌-ℤ◌, ◌*ℤ◌, neg_ℤ, unsigned_abs, int_lt, int_le}
use Rattle.std.specs.Bool.{beq}
use Rattle.std.specs.Int.{int_div_euclid, int_rem_euclid}
use Rattle.std.specs.List.{list_any, list_all}
use Rattle.std.specs.Ordering.{int_eq}
use Rattle.smt_terms.specs.declared.op.Op.{Op}
use Rattle.smt_terms.specs.declared.op.Op.TheVariants.{Truth, Whole, Bits, Sym, Forall, Exists, ConstArray, Not, And, Or, Xor, Implies, Equal, Distinct, Ite, Neg, Sub, Add, Mul, Div, Mod, Abs, Le, Lt, Concat, Extract, BvNot, BvNeg, BvAnd, BvOr, BvXor, BvAdd, BvMul, BvSub, BvUdiv, BvUrem, BvSdiv, BvSrem, BvSmod, BvShl, BvLshr, BvAshr, BvComp, BvUlt, BvUle, BvSlt, BvSle, ZeroExt, SignExt, RotL, RotR, Select, Store}
use Rattle.smt_terms.specs.Sorts.{Sort, bool, array}
use Rattle.smt_terms.specs.BitVectors.{BitVector, nat2bv, concat, extract, zero_extend, sign_extend, rotate_left, rotate_right, bvnot, bvneg, bvand, bvor, bvxor, bvadd, bvmul, bvsub, bvudiv, bvurem, bvsdiv, bvsrem, bvsmod, bvshl, bvlshr, bvashr, bvcomp, bvult, bvule, bvslt, bvsle}
use Rattle.smt_terms.specs.Values.{Value, truth, whole, bits, Sizes, is_true, number, bits_of, same, select, store}

-- what the theories leave to a model: the sizes of the free sorts, and the results of `div` and `mod` by zero
pub record Background : Type 0 where
  pub sizes : Sizes
  pub div_by_zero : ℤ → ℤ
  pub mod_by_zero : ℤ → ℤ

-- ---- the operands by their places; an operand that isn't there reads as false

abbrev pub first_value : List Value → Value
first_value [] = truth false
first_value (v ∷ _) = v

abbrev pub later_values : List Value → List Value
later_values [] = []
later_values (_ ∷ vs) = vs

abbrev pub second_value : List Value → Value
second_value vs = first_value (later_values vs)

abbrev pub third_value : List Value → Value
third_value vs = first_value (later_values (later_values vs))

abbrev pub first_sort : List Sort → Sort
first_sort [] = bool
first_sort (s ∷ _) = s

abbrev pub index_sort : Sort → Sort
index_sort (array i e) = i
index_sort s = s

-- ---- the operators over all their operands

abbrev pub sum_of : List Value → ℤ
sum_of [] = pos 0
sum_of (v ∷ vs) = number v +ℤ sum_of vs

abbrev pub product_of : List Value → ℤ
product_of [] = pos 1
product_of (v ∷ vs) = number v *ℤ product_of vs

-- no two of the values are the same
abbrev pub all_distinct : (Value → Value → Bool) → List Value → Bool
all_distinct equal [] = true
all_distinct equal (v ∷ vs) = not (list_any (equal v) vs) && all_distinct equal vs

-- ---- m = n * (div m n) + (mod m n) and 0 <= mod m n < |n|, for an n other than 0

abbrev pub quotient : Background → ℤ → ℤ → ℤ
quotient c m n = cond (int_eq n (pos 0)) (c.div_by_zero m) (int_div_euclid m n)

abbrev pub modulus : Background → ℤ → ℤ → ℤ
modulus c m n = cond (int_eq n (pos 0)) (c.mod_by_zero m) (int_rem_euclid m n)

-- ---- operands of one kind

abbrev pub logical : (Bool → Bool → Bool) → List Value → Value
logical f vs = truth (f (is_true (first_value vs)) (is_true (second_value vs)))

abbrev pub arithmetic : (ℤ → ℤ → ℤ) → List Value → Value
arithmetic f vs = whole (f (number (first_value vs)) (number (second_value vs)))

abbrev pub comparison : (ℤ → ℤ → Bool) → List Value → Value
comparison f vs = truth (f (number (first_value vs)) (number (second_value vs)))

abbrev pub vector : (BitVector → BitVector) → List Value → Value
vector f vs = bits (f (bits_of (first_value vs)))

abbrev pub vectors : (BitVector → BitVector → BitVector) → List Value → Value
vectors f vs = bits (f (bits_of (first_value vs)) (bits_of (second_value vs)))

abbrev pub vector_comparison : (BitVector → BitVector → Bool) → List Value → Value
vector_comparison f vs = truth (f (bits_of (first_value vs)) (bits_of (second_value vs)))

-- the value of an operator at operands of these sorts with these values. The last four lines are of operators that no
-- term applies (`Term`).
unfoldable pub op_value : Background → Op → List Sort → List Value → Value
op_value c (Truth b) ss vs = truth b
op_value c (Whole n) ss vs = whole n
op_value c (Bits width n) ss vs = bits (nat2bv width n)
op_value c Not ss vs = truth (not (is_true (first_value vs)))
op_value c And ss vs = truth (list_all is_true vs)
op_value c Or ss vs = truth (list_any is_true vs)
op_value c Xor ss vs = logical (λ a b. not (beq a b)) vs
op_value c Implies ss vs = logical (λ a b. not a || b) vs
op_value c Equal ss vs = truth (same (first_sort ss) c.sizes (first_value vs) (second_value vs))
op_value c Distinct ss vs = truth (all_distinct (same (first_sort ss) c.sizes) vs)
op_value c Ite ss vs = cond (is_true (first_value vs)) (second_value vs) (third_value vs)
op_value c Neg ss vs = whole (neg_ℤ (number (first_value vs)))
op_value c Sub ss vs = arithmetic ◌-ℤ◌ vs
op_value c Add ss vs = whole (sum_of vs)
op_value c Mul ss vs = whole (product_of vs)
op_value c Div ss vs = arithmetic (quotient c) vs
op_value c Mod ss vs = arithmetic (modulus c) vs
op_value c Abs ss vs = whole (pos (unsigned_abs (number (first_value vs))))
op_value c Le ss vs = comparison int_le vs
op_value c Lt ss vs = comparison int_lt vs
op_value c Concat ss vs = vectors concat vs
op_value c (Extract high low) ss vs = vector (extract high low) vs
op_value c BvNot ss vs = vector bvnot vs
op_value c BvNeg ss vs = vector bvneg vs
op_value c BvAnd ss vs = vectors bvand vs
op_value c BvOr ss vs = vectors bvor vs
op_value c BvXor ss vs = vectors bvxor vs
op_value c BvAdd ss vs = vectors bvadd vs
op_value c BvMul ss vs = vectors bvmul vs
op_value c BvSub ss vs = vectors bvsub vs
op_value c BvUdiv ss vs = vectors bvudiv vs
op_value c BvUrem ss vs = vectors bvurem vs
op_value c BvSdiv ss vs = vectors bvsdiv vs
op_value c BvSrem ss vs = vectors bvsrem vs
op_value c BvSmod ss vs = vectors bvsmod vs
op_value c BvShl ss vs = vectors bvshl vs
op_value c BvLshr ss vs = vectors bvlshr vs
op_value c BvAshr ss vs = vectors bvashr vs
op_value c BvComp ss vs = vectors bvcomp vs
op_value c BvUlt ss vs = vector_comparison bvult vs
op_value c BvUle ss vs = vector_comparison bvule vs
op_value c BvSlt ss vs = vector_comparison bvslt vs
op_value c BvSle ss vs = vector_comparison bvsle vs
op_value c (ZeroExt i) ss vs = vector (zero_extend i) vs
op_value c (SignExt i) ss vs = vector (sign_extend i) vs
op_value c (RotL i) ss vs = vector (rotate_left i) vs
op_value c (RotR i) ss vs = vector (rotate_right i) vs
op_value c Select ss vs = select (index_sort (first_sort ss)) c.sizes (first_value vs) (second_value vs)
op_value c Store ss vs = store (index_sort (first_sort ss)) c.sizes (first_value vs) (second_value vs) (third_value vs)
op_value c (Sym f) ss vs = truth false
op_value c Forall ss vs = truth false
op_value c Exists ss vs = truth false
op_value c (ConstArray s) ss vs = truth false
