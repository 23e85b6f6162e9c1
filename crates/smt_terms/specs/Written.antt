-- Written operators: the functions of the theories Core, Ints, FixedSizeBitVectors and ArraysEx and of the logic QF_BV as a
-- text writes them, with their indices (SMT-LIB 2.6, sections 3.6 and 3.7: identifiers, and the attributes `:left-assoc`,
-- `:right-assoc` and `:chainable`), the operands that they take, and the node operators that they are made of.
use Rattle.std.specs.Prelude.{ℕ, zero, suc, ◌*◌, ◌%◌, Bool, true, false, cond, nat_le, ℤ, pos, List, [], ◌∷◌, map, length, codes, Option, Some, None, option_and_then, Result, Ok, Err, if◌then◌else◌}
use Rattle.smt_terms.specs.declared.op.Op.{Op}
use Rattle.smt_terms.specs.declared.op.Op.TheVariants.{Whole, Not, And, Or, Xor, Implies, Equal, Distinct, Ite, Neg, Sub, Add, Mul, Div, Mod, Abs, Le, Lt, Concat, Extract, BvNot, BvNeg, BvAnd, BvOr, BvXor, BvAdd, BvMul, BvSub, BvUdiv, BvUrem, BvSdiv, BvSrem, BvSmod, BvShl, BvLshr, BvAshr, BvComp, BvUlt, BvUle, BvSlt, BvSle, ZeroExt, SignExt, RotL, RotR, Select, Store}
use Rattle.smt_terms.specs.Sorts.{Name, Sort, bool, int, bit_vector}
use Rattle.smt_terms.specs.Equal.{name_eq}
use Rattle.smt_terms.specs.Rank.{Fault, wrong_arity, Shape, fixed, shape, Arity, exactly, at_least, admits, arity, Place, only, any_width, places, first_misfit, width, operand, in_range, result_of, accepted}

-- what a written operator makes of its operands
pub data Written : Type 0 where
  -- the operator over them
  plain : Op → Written
  -- the operator over them all; one operand stands for itself
  joined : Op → Written
  -- a sequence of applications to two operands, from the left or from the right
  left_associative : Op → Written
  right_associative : Op → Written
  -- the conjunction of the applications to neighbours; in the second, each with its operands exchanged
  chainable : Op → Written
  chainable_exchanged : Op → Written
  -- the operator over two operands, exchanged
  exchanged : Op → Written
  -- the complement of the operator over two operands
  complemented : Op → Written
  -- unary minus over one operand, else differences from the left
  subtraction : Written
  -- whether the number divides the operand
  divisibility : ℕ → Written
  -- so many copies of the operand behind one another
  repetition : ℕ → Written
  -- by this number, modulo the width
  left_rotation : ℕ → Written
  right_rotation : ℕ → Written

-- an operator that is written with none, one or two indices
pub data Indexed : Type 0 where
  without_index : Written → Indexed
  with_index : (ℕ → Written) → Indexed
  with_indices : (ℕ → ℕ → Written) → Indexed

-- ---- the names

abbrev pub core_operators : List (Name × Indexed)
core_operators =
    (codes "not", without_index (plain Not))
    ∷ (codes "and", without_index (joined And))
    ∷ (codes "or", without_index (joined Or))
    ∷ (codes "xor", without_index (left_associative Xor))
    ∷ (codes "=>", without_index (right_associative Implies))
    ∷ (codes "=", without_index (chainable Equal))
    ∷ (codes "distinct", without_index (plain Distinct))
    ∷ (codes "ite", without_index (plain Ite))
    ∷ []

abbrev pub number_operators : List (Name × Indexed)
number_operators =
    (codes "-", without_index subtraction)
    ∷ (codes "+", without_index (joined Add))
    ∷ (codes "*", without_index (joined Mul))
    ∷ (codes "div", without_index (left_associative Div))
    ∷ (codes "mod", without_index (plain Mod))
    ∷ (codes "abs", without_index (plain Abs))
    ∷ (codes "<=", without_index (chainable Le))
    ∷ (codes "<", without_index (chainable Lt))
    ∷ (codes ">=", without_index (chainable_exchanged Le))
    ∷ (codes ">", without_index (chainable_exchanged Lt))
    ∷ (codes "divisible", with_index divisibility)
    ∷ []

abbrev pub vector_operators : List (Name × Indexed)
vector_operators =
    (codes "concat", without_index (plain Concat))
    ∷ (codes "extract", with_indices (λ high low. plain (Extract high low)))
    ∷ (codes "bvnot", without_index (plain BvNot))
    ∷ (codes "bvneg", without_index (plain BvNeg))
    ∷ (codes "bvand", without_index (left_associative BvAnd))
    ∷ (codes "bvor", without_index (left_associative BvOr))
    ∷ (codes "bvxor", without_index (left_associative BvXor))
    ∷ (codes "bvadd", without_index (left_associative BvAdd))
    ∷ (codes "bvmul", without_index (left_associative BvMul))
    ∷ (codes "bvnand", without_index (complemented BvAnd))
    ∷ (codes "bvnor", without_index (complemented BvOr))
    ∷ (codes "bvxnor", without_index (complemented BvXor))
    ∷ (codes "bvsub", without_index (plain BvSub))
    ∷ (codes "bvudiv", without_index (plain BvUdiv))
    ∷ (codes "bvurem", without_index (plain BvUrem))
    ∷ (codes "bvsdiv", without_index (plain BvSdiv))
    ∷ (codes "bvsrem", without_index (plain BvSrem))
    ∷ (codes "bvsmod", without_index (plain BvSmod))
    ∷ (codes "bvshl", without_index (plain BvShl))
    ∷ (codes "bvlshr", without_index (plain BvLshr))
    ∷ (codes "bvashr", without_index (plain BvAshr))
    ∷ (codes "bvcomp", without_index (plain BvComp))
    ∷ (codes "bvult", without_index (plain BvUlt))
    ∷ (codes "bvule", without_index (plain BvUle))
    ∷ (codes "bvslt", without_index (plain BvSlt))
    ∷ (codes "bvsle", without_index (plain BvSle))
    ∷ (codes "bvugt", without_index (exchanged BvUlt))
    ∷ (codes "bvuge", without_index (exchanged BvUle))
    ∷ (codes "bvsgt", without_index (exchanged BvSlt))
    ∷ (codes "bvsge", without_index (exchanged BvSle))
    ∷ (codes "repeat", with_index repetition)
    ∷ (codes "zero_extend", with_index (λ i. plain (ZeroExt i)))
    ∷ (codes "sign_extend", with_index (λ i. plain (SignExt i)))
    ∷ (codes "rotate_left", with_index left_rotation)
    ∷ (codes "rotate_right", with_index right_rotation)
    ∷ []

abbrev pub array_operators : List (Name × Indexed)
array_operators = (codes "select", without_index (plain Select)) ∷ (codes "store", without_index (plain Store)) ∷ []

abbrev pub named_in : List (Name × Indexed) → Name → Option Indexed
named_in [] n = None
named_in (p ∷ ps) n = cond (name_eq p.0 n) (Some p.1) (named_in ps n)

abbrev pub or_else : Option Indexed → Option Indexed → Option Indexed
or_else (Some o) other = Some o
or_else None other = other

-- the operator of a name; the constant array, which is written with a sort, isn't among them
unfoldable pub operator_named : Name → Option Indexed
operator_named n = or_else (named_in core_operators n) (or_else (named_in number_operators n) (or_else (named_in vector_operators n) (named_in array_operators n)))

-- the operator with its indices, where there are as many as it takes
abbrev pub at_indices : Indexed → List ℕ → Option Written
at_indices (without_index w) [] = Some w
at_indices (with_index w) (i ∷ []) = Some (w i)
at_indices (with_indices w) (i ∷ j ∷ []) = Some (w i j)
at_indices _ _ = None

abbrev pub written_named : Name → List ℕ → Option Written
written_named n indices = option_and_then (λ o. at_indices o indices) (operator_named n)

-- ---- the operands that it takes and the sort of the result

unfoldable pub written_arity : Written → Arity
unfolding shape
written_arity (plain o) = arity (shape o)
written_arity (joined o) = at_least 1
written_arity (left_associative o) = at_least 2
written_arity (right_associative o) = at_least 2
written_arity (chainable o) = at_least 2
written_arity (chainable_exchanged o) = at_least 2
written_arity (exchanged o) = exactly 2
written_arity (complemented o) = exactly 2
written_arity subtraction = at_least 1
written_arity (divisibility n) = exactly 1
written_arity (repetition n) = exactly 1
written_arity (left_rotation n) = exactly 1
written_arity (right_rotation n) = exactly 1

-- the places of an operator over two operands, for any number of them: each is like the others
abbrev pub alike : Shape → List Sort → List Place
alike (fixed (s ∷ args) result) ss = map (λ _. only s) ss
alike other ss = places other ss

unfoldable pub written_places : Written → List Sort → List Place
unfolding shape
written_places (plain o) ss = places (shape o) ss
written_places (joined o) ss = alike (shape o) ss
written_places (left_associative o) ss = alike (shape o) ss
written_places (right_associative o) ss = alike (shape o) ss
written_places (chainable o) ss = alike (shape o) ss
written_places (chainable_exchanged o) ss = alike (shape o) ss
written_places (exchanged o) ss = places (shape o) ss
written_places (complemented o) ss = places (shape o) ss
written_places subtraction ss = map (λ _. only int) ss
written_places (divisibility n) ss = only int ∷ []
written_places (repetition n) ss = any_width ∷ []
written_places (left_rotation n) ss = any_width ∷ []
written_places (right_rotation n) ss = any_width ∷ []

-- whether the indices are in their range
unfoldable pub written_in_range : Written → List Sort → Bool
unfolding shape
written_in_range (plain o) ss = in_range (shape o) ss
written_in_range (divisibility n) ss = nat_le 1 n
written_in_range (repetition n) ss = nat_le 1 n
written_in_range _ ss = true

unfoldable pub written_result : Written → List Sort → Sort
unfolding shape
written_result (plain o) ss = result_of (shape o) ss
written_result (joined o) ss = result_of (shape o) ss
written_result (left_associative o) ss = result_of (shape o) ss
written_result (right_associative o) ss = result_of (shape o) ss
written_result (chainable o) ss = bool
written_result (chainable_exchanged o) ss = bool
written_result (exchanged o) ss = result_of (shape o) ss
written_result (complemented o) ss = result_of (shape o) ss
written_result subtraction ss = int
written_result (divisibility n) ss = bool
written_result (repetition n) ss = bit_vector (n * width (operand 0 ss))
written_result (left_rotation n) ss = operand 0 ss
written_result (right_rotation n) ss = operand 0 ss

-- the sort of a written operator over operands of these sorts, or its first fault: the number of operands, the leftmost
-- operand of a wrong sort, an index, the width
unfoldable pub written_rank : Written → List Sort → Result Sort Fault
unfolding written_arity written_places written_in_range written_result
written_rank w ss =
    if admits (written_arity w) (length ss)
    then accepted (first_misfit 0 (written_places w ss) ss) (written_in_range w ss) (written_result w ss)
    else Err wrong_arity

-- ---- what it is made of, where applications of the node operators are things of any kind: terms, values or others

pub record Algebra (A : Type 0) : Type 0 where
  pub apply : Op → List A → A
  -- of a bit vector
  pub width : A → ℕ

abbrev pub apply_to : {A : Type 0} → Algebra A → Op → A → A
apply_to a o x = a.apply o (x ∷ [])

abbrev pub apply_to_both : {A : Type 0} → Algebra A → Op → A → A → A
apply_to_both a o x y = a.apply o (x ∷ y ∷ [])

abbrev pub itself_or_join : {A : Type 0} → Algebra A → Op → List A → A
itself_or_join a o (x ∷ []) = x
itself_or_join a o xs = a.apply o xs

abbrev pub from_left : {A : Type 0} → (A → A → A) → A → List A → A
from_left two x [] = x
from_left two x (y ∷ ys) = from_left two (two x y) ys

abbrev pub from_right : {A : Type 0} → (A → A → A) → A → List A → A
from_right two x [] = x
from_right two x (y ∷ ys) = two x (from_right two y ys)

-- by two operands at a time; without operands, the operator over none
abbrev pub associated : {A : Type 0} → Algebra A → Op → (A → List A → A) → List A → A
associated a o fold [] = a.apply o []
associated a o fold (x ∷ xs) = fold x xs

abbrev pub neighbours : {A : Type 0} → (A → A → A) → A → List A → List A
neighbours two x [] = []
neighbours two x (y ∷ ys) = two x y ∷ neighbours two y ys

abbrev pub chain : {A : Type 0} → Algebra A → (A → A → A) → List A → A
chain a two [] = a.apply And []
chain a two (x ∷ xs) = itself_or_join a And (neighbours two x xs)

abbrev pub minus_or_differences : {A : Type 0} → Algebra A → List A → A
minus_or_differences a (x ∷ []) = apply_to a Neg x
minus_or_differences a xs = associated a Sub (from_left (apply_to_both a Sub)) xs

abbrev pub whole_in : {A : Type 0} → Algebra A → ℕ → A
whole_in a n = a.apply (Whole (pos n)) []

-- the operator, at a number that the operand's width fixes, over the one operand
abbrev pub over_one : {A : Type 0} → Algebra A → (A → A) → List A → A
over_one a make (x ∷ xs) = make x
over_one a make [] = a.apply And []

-- n more copies in front of the operand
abbrev pub copies : {A : Type 0} → Algebra A → ℕ → A → A
copies a zero x = x
copies a (suc n) x = apply_to_both a Concat x (copies a n x)

abbrev pub repeated : {A : Type 0} → Algebra A → ℕ → A → A
repeated a zero x = x
repeated a (suc n) x = copies a n x

abbrev pub divides : {A : Type 0} → Algebra A → ℕ → A → A
divides a n x = apply_to_both a Equal (apply_to_both a Mod x (whole_in a n)) (whole_in a 0)

-- a written operator over its operands
unfoldable pub build : {A : Type 0} → Algebra A → Written → List A → A
build a (plain o) xs = a.apply o xs
build a (joined o) xs = itself_or_join a o xs
build a (left_associative o) xs = associated a o (from_left (apply_to_both a o)) xs
build a (right_associative o) xs = associated a o (from_right (apply_to_both a o)) xs
build a (chainable o) xs = chain a (apply_to_both a o) xs
build a (chainable_exchanged o) xs = chain a (λ x y. apply_to_both a o y x) xs
build a (exchanged o) (x ∷ y ∷ xs) = apply_to_both a o y x
build a (exchanged o) xs = a.apply o xs
build a (complemented o) xs = apply_to a BvNot (a.apply o xs)
build a subtraction xs = minus_or_differences a xs
build a (divisibility n) xs = over_one a (divides a n) xs
build a (repetition n) xs = over_one a (repeated a n) xs
build a (left_rotation n) xs = over_one a (λ x. apply_to a (RotL (n % a.width x)) x) xs
build a (right_rotation n) xs = over_one a (λ x. apply_to a (RotR (n % a.width x)) x) xs
