-- The rank of an operator over its operands, the sort of a term, and which terms are well sorted: SMT-LIB 2.6,
-- sections 3.6 and 5.2.2, with the declarations of the theories Core, Ints, FixedSizeBitVectors and ArraysEx and of
-- the logic QF_BV. Bit vectors have 1 to 128 bits, whole numbers a magnitude of at most 2^127 - 1 where they are
-- constants, and the index sort of an array is no array sort.
use Rattle.std.specs.Prelude.{ℕ, suc, ◌+◌, ◌-◌, ◌^◌, Bool, true, false, not, ◌&&◌, ◌||◌, if◌then◌else◌, ◌==◌, nat_lt, nat_le, ℤ, nat_abs, List, [], ◌∷◌, map, length, drop, take, get_or, Option, Some, None, is_some, Result, Ok, Err, IsTrue}
use Rattle.std.specs.List.{list_all, list_any}
use Rattle.smt_terms.specs.declared.op.Op.{Op}
use Rattle.smt_terms.specs.declared.op.Op.TheVariants.{Truth, Whole, Bits, Sym, Forall, Exists, ConstArray, Not, And, Or, Xor, Implies, Equal, Distinct, Ite, Neg, Sub, Add, Mul, Div, Mod, Abs, Le, Lt, Concat, Extract, BvNot, BvNeg, BvAnd, BvOr, BvXor, BvAdd, BvMul, BvSub, BvUdiv, BvUrem, BvSdiv, BvSrem, BvSmod, BvShl, BvLshr, BvAshr, BvComp, BvUlt, BvUle, BvSlt, BvSle, ZeroExt, SignExt, RotL, RotR, Select, Store}
use Rattle.smt_terms.specs.Sorts.{Name, Sort, bool, int, bit_vector, array, Variable}
use Rattle.smt_terms.specs.Term.{Head, op, symbol, const_array, Term, apply, quantified, Terms, none, ◌⨾◌}
use Rattle.smt_terms.specs.Equal.{name_eq, sort_eq}

-- why an operator doesn't go with its operands
pub data Fault : Type 0 where
  -- another number of operands
  wrong_arity : Fault
  -- the operand of this number, counted from 0, has the first sort and not the second
  wrong_sort : ℕ → Sort → Sort → Fault
  -- an index, or a constant, is outside its range
  bad_index : Fault
  -- the result would have more than 128 bits
  width_limit : Fault

-- operators that take and give the same
pub data Shape : Type 0 where
  -- operands of these sorts, and a result of that sort
  fixed : List Sort → Sort → Shape
  -- two or more operands of this sort, which is the result's too
  several : Sort → Shape
  -- two operands of one sort, any; a truth value
  equation : Shape
  -- two or more operands of one sort, any; a truth value
  distinctness : Shape
  -- a condition and two operands of one sort, which is the result's too
  choice : Shape
  whole_number : ℤ → Shape
  -- a width and the bits as a number
  bit_constant : ℕ → ℕ → Shape
  -- bit vectors of any widths; their sum
  concatenation : Shape
  -- from the high to the low place
  extraction : ℕ → ℕ → Shape
  -- by so many bits
  extension : ℕ → Shape
  rotation : ℕ → Shape
  -- one bit vector, or two of one width; the result is like them
  bitwise : Shape
  bitwise_pair : Shape
  -- two bit vectors of one width; a result of that sort
  bits_comparison : Sort → Shape
  -- an array and an index; an element
  selection : Shape
  -- an array, an index and an element; the array's sort
  storing : Shape
  -- an element; this sort
  filling : Sort → Shape
  -- what stands at no head of a term
  no_head : Shape

unfoldable pub shape : Op → Shape
shape (Truth _) = fixed [] bool
shape (Whole n) = whole_number n
shape (Bits width bits) = bit_constant width bits
shape (Sym _) = no_head
shape Forall = no_head
shape Exists = no_head
shape (ConstArray _) = no_head
shape Not = fixed (bool ∷ []) bool
shape And = several bool
shape Or = several bool
shape Xor = fixed (bool ∷ bool ∷ []) bool
shape Implies = fixed (bool ∷ bool ∷ []) bool
shape Equal = equation
shape Distinct = distinctness
shape Ite = choice
shape Neg = fixed (int ∷ []) int
shape Sub = fixed (int ∷ int ∷ []) int
shape Add = several int
shape Mul = several int
shape Div = fixed (int ∷ int ∷ []) int
shape Mod = fixed (int ∷ int ∷ []) int
shape Abs = fixed (int ∷ []) int
shape Le = fixed (int ∷ int ∷ []) bool
shape Lt = fixed (int ∷ int ∷ []) bool
shape Concat = concatenation
shape (Extract high low) = extraction high low
shape BvNot = bitwise
shape BvNeg = bitwise
shape BvAnd = bitwise_pair
shape BvOr = bitwise_pair
shape BvXor = bitwise_pair
shape BvAdd = bitwise_pair
shape BvMul = bitwise_pair
shape BvSub = bitwise_pair
shape BvUdiv = bitwise_pair
shape BvUrem = bitwise_pair
shape BvSdiv = bitwise_pair
shape BvSrem = bitwise_pair
shape BvSmod = bitwise_pair
shape BvShl = bitwise_pair
shape BvLshr = bitwise_pair
shape BvAshr = bitwise_pair
shape BvComp = bits_comparison (bit_vector 1)
shape BvUlt = bits_comparison bool
shape BvUle = bits_comparison bool
shape BvSlt = bits_comparison bool
shape BvSle = bits_comparison bool
shape (ZeroExt i) = extension i
shape (SignExt i) = extension i
shape (RotL i) = rotation i
shape (RotR i) = rotation i
shape Select = selection
shape Store = storing

-- a symbol takes the sorts of its arguments
abbrev pub shape_of : Head → Shape
shape_of (op p) = shape p
shape_of (symbol f) = fixed f.args f.result
shape_of (const_array s) = filling s

-- ---- how many operands

pub data Arity : Type 0 where
  exactly : ℕ → Arity
  at_least : ℕ → Arity

abbrev pub admits : Arity → ℕ → Bool
admits (exactly n) m = m == n
admits (at_least n) m = nat_le n m

abbrev pub arity : Shape → Arity
arity (fixed args _) = exactly (length args)
arity (several _) = at_least 2
arity equation = exactly 2
arity distinctness = at_least 2
arity choice = exactly 3
arity (whole_number _) = exactly 0
arity (bit_constant _ _) = exactly 0
arity concatenation = exactly 2
arity (extraction _ _) = exactly 1
arity (extension _) = exactly 1
arity (rotation _) = exactly 1
arity bitwise = exactly 1
arity bitwise_pair = exactly 2
arity (bits_comparison _) = exactly 2
arity selection = exactly 2
arity storing = exactly 3
arity (filling _) = exactly 1
arity no_head = at_least 0

-- ---- which operands

-- what an operand's place takes
pub data Place : Type 0 where
  only : Sort → Place
  any_sort : Place
  any_width : Place
  any_array : Place
  -- an element of a constant array of this sort, which is no array sort
  no_element : Sort → Place

-- the first operand is free, and the others are like it
abbrev pub like_first : List Sort → List Place
like_first [] = []
like_first (s ∷ ss) = any_sort ∷ map (λ _. only s) ss

-- the index and the element of the array that comes first
abbrev pub inside : List Sort → List Place
inside (array i e ∷ _) = only i ∷ only e ∷ []
inside _ = []

abbrev pub element_place : Sort → Place
element_place (array _ e) = only e
element_place s = no_element s

-- the places for these operands: a place may ask for what the operands to its left fix
abbrev pub places : Shape → List Sort → List Place
places (fixed args _) ss = map only args
places (several s) ss = map (λ _. only s) ss
places equation ss = like_first ss
places distinctness ss = like_first ss
places choice ss = only bool ∷ like_first (drop 1 ss)
places (whole_number _) ss = []
places (bit_constant _ _) ss = []
places concatenation ss = any_width ∷ any_width ∷ []
places (extraction _ _) ss = any_width ∷ []
places (extension _) ss = any_width ∷ []
places (rotation _) ss = any_width ∷ []
places bitwise ss = any_width ∷ []
places bitwise_pair ss = any_width ∷ drop 1 (like_first ss)
places (bits_comparison _) ss = any_width ∷ drop 1 (like_first ss)
places selection ss = any_array ∷ take 1 (inside ss)
places storing ss = any_array ∷ inside ss
places (filling s) ss = element_place s ∷ []
places no_head ss = []

-- the fault of operand k of sort s at a place. Where nothing fixes a sort, a bit vector of width 1 is said to be
-- wanted in place of any bit vector, and the operand's own sort in place of any array
abbrev pub misfit : ℕ → Place → Sort → Option Fault
misfit k (only t) s = if sort_eq s t then None else Some (wrong_sort k s t)
misfit k any_sort s = None
misfit k any_width (bit_vector _) = None
misfit k any_width s = Some (wrong_sort k s (bit_vector 1))
misfit k any_array (array _ _) = None
misfit k any_array s = Some (wrong_sort k s s)
misfit k (no_element t) s = Some (wrong_sort k t s)

abbrev pub before : Option Fault → Option Fault → Option Fault
before (Some fault) _ = Some fault
before None next = next

-- that of the leftmost operand of a wrong sort, the first having number k
abbrev pub first_misfit : ℕ → List Place → List Sort → Option Fault
first_misfit k (p ∷ ps) (s ∷ ss) = before (misfit k p s) (first_misfit (suc k) ps ss)
first_misfit _ _ _ = None

-- ---- index, result and width

abbrev pub most_bits : ℕ
most_bits = 128

abbrev pub width : Sort → ℕ
width (bit_vector w) = w
width _ = 0

abbrev pub element_sort : Sort → Sort
element_sort (array _ e) = e
element_sort s = s

-- the operand's sort; for a list that has none at that place, the truth values
abbrev pub operand : ℕ → List Sort → Sort
operand k ss = get_or ss k bool

abbrev pub in_range : Shape → List Sort → Bool
in_range (whole_number n) ss = nat_lt (nat_abs n) (2 ^ 127)
in_range (bit_constant w bits) ss = nat_lt 0 w && (nat_lt most_bits w || nat_lt bits (2 ^ w))
in_range (extraction high low) ss = nat_lt high (width (operand 0 ss)) && nat_le low high
in_range (rotation i) ss = nat_lt i (width (operand 0 ss))
in_range no_head ss = false
in_range _ ss = true

abbrev pub result_of : Shape → List Sort → Sort
result_of (fixed _ s) ss = s
result_of (several s) ss = s
result_of equation ss = bool
result_of distinctness ss = bool
result_of choice ss = operand 1 ss
result_of (whole_number _) ss = int
result_of (bit_constant w _) ss = bit_vector w
result_of concatenation ss = bit_vector (width (operand 0 ss) + width (operand 1 ss))
result_of (extraction high low) ss = bit_vector (high - low + 1)
result_of (extension i) ss = bit_vector (width (operand 0 ss) + i)
result_of (rotation _) ss = operand 0 ss
result_of bitwise ss = operand 0 ss
result_of bitwise_pair ss = operand 0 ss
result_of (bits_comparison s) ss = s
result_of selection ss = element_sort (operand 0 ss)
result_of storing ss = operand 0 ss
result_of (filling s) ss = s
result_of no_head ss = bool

-- ---- the rank

-- the first refusal: of the operands' sorts, then of an index, then of the width
abbrev pub accepted : Option Fault → Bool → Sort → Result Sort Fault
accepted (Some fault) _ _ = Err fault
accepted None false _ = Err bad_index
accepted None true s = if nat_le (width s) most_bits then Ok s else Err width_limit

-- the sort of a head over operands of these sorts, or its first fault: the number of operands comes before the rest
unfoldable pub rank : Head → List Sort → Result Sort Fault
unfolding shape
rank h ss =
    if admits (arity (shape_of h)) (length ss)
    then accepted (first_misfit 0 (places (shape_of h) ss) ss) (in_range (shape_of h) ss) (result_of (shape_of h) ss)
    else Err wrong_arity

-- ---- quantifiers

abbrev pub is_quantifiable : Sort → Bool
is_quantifiable bool = true
is_quantifiable (bit_vector _) = true
is_quantifiable _ = false

abbrev pub has_name : Name → List Name → Bool
has_name n ns = list_any (name_eq n) ns

abbrev pub are_distinct : List Name → Bool
are_distinct [] = true
are_distinct (n ∷ ns) = not (has_name n ns) && are_distinct ns

abbrev pub is_empty : List Sort → Bool
is_empty [] = true
is_empty (_ ∷ _) = false

-- a constant that a quantifier may bind after these names
abbrev pub may_bind : List Name → Term → Bool
may_bind earlier (apply (symbol f) none) = is_empty f.args && (is_quantifiable f.result && not (has_name f.name earlier))
may_bind _ _ = false

abbrev pub symbol_name : Term → Name
symbol_name (apply (symbol f) _) = f.name
symbol_name _ = []

-- the operands of a quantifier's node are its variables, as constants, and its body last. Each variable has to be
-- one that may be bound after those to its left, and the body has to be a truth value
abbrev pub rank_bound : ℕ → List Name → List Term → List Sort → Result Sort Fault
rank_bound k earlier (_ ∷ []) (s ∷ []) = if sort_eq s bool then Ok bool else Err (wrong_sort k s bool)
rank_bound k earlier (t ∷ ts) (s ∷ ss) =
    if may_bind earlier t then rank_bound (suc k) (symbol_name t ∷ earlier) ts ss else Err (wrong_sort k s bool)
rank_bound _ _ _ _ = Err wrong_arity

-- the sort of a quantifier over these operands of these sorts, or its first fault
abbrev pub rank_quantifier : List Term → List Sort → Result Sort Fault
rank_quantifier ts ss = if nat_le 2 (length ts) then rank_bound 0 [] ts ss else Err wrong_arity

-- one name or more, none of them twice, each of a sort that may be bound
abbrev pub are_bindable : List Variable → Bool
are_bindable [] = false
are_bindable xs = are_distinct (map (λ x. x.name) xs) && list_all (λ x. is_quantifiable x.sort) xs

-- ---- the sort of a term

abbrev pub sort_bound : Bool → Option Sort → Option Sort
sort_bound true (Some bool) = Some bool
sort_bound _ _ = None

abbrev pub sort_over : Head → Option (List Sort) → Option Sort
sort_over h None = None
sort_over h (Some ss) = elim (rank h ss) [ Ok s ↦ Some s | Err _ ↦ None ]

abbrev pub with_sort : Option Sort → Option (List Sort) → Option (List Sort)
with_sort (Some s) (Some ss) = Some (s ∷ ss)
with_sort _ _ = None

-- from below; none where a rank is missing
abbrev mutual
  pub sort_of : Term → Option Sort
  sort_of (apply h ts) = sort_over h (sorts_of ts)
  sort_of (quantified _ xs t) = sort_bound (are_bindable xs) (sort_of t)

  pub sorts_of : Terms → Option (List Sort)
  sorts_of none = Some []
  sorts_of (t ⨾ ts) = with_sort (sort_of t) (sorts_of ts)

-- ---- well-sorted terms

abbrev pub is_array : Sort → Bool
is_array (array _ _) = true
is_array _ = false

-- widths are from 1 to 128, and no index sort is an array sort
abbrev pub is_sort : Sort → Bool
is_sort (bit_vector w) = nat_le 1 w && nat_le w most_bits
is_sort (array i e) = not (is_array i) && (is_sort i && is_sort e)
is_sort _ = true

abbrev pub has_sorts : Head → Bool
has_sorts (op _) = true
has_sorts (symbol f) = list_all is_sort f.args && is_sort f.result
has_sorts (const_array s) = is_sort s

-- a unary minus over a constant, which is written where the constant is meant
unfoldable pub is_minus : Op → Bool
is_minus Neg = true
is_minus _ = false

unfoldable pub is_whole : Op → Bool
is_whole (Whole _) = true
is_whole _ = false

unfoldable pub is_minus_of : Head → Terms → Bool
unfolding is_minus is_whole
is_minus_of (op p) (apply (op c) none ⨾ none) = is_minus p && is_whole c
is_minus_of _ _ = false

-- every sort in the term is one, and no unary minus stands over a constant
abbrev mutual
  pub is_regular : Term → Bool
  is_regular (apply h ts) = has_sorts h && (not (is_minus_of h ts) && are_regular ts)
  is_regular (quantified _ xs t) = list_all (λ x. is_sort x.sort) xs && is_regular t

  pub are_regular : Terms → Bool
  are_regular none = true
  are_regular (t ⨾ ts) = is_regular t && are_regular ts

abbrev pub is_well_sorted : Term → Bool
is_well_sorted t = is_some (sort_of t) && is_regular t

abbrev pub IsWellSorted : Term → Type 0
IsWellSorted t = IsTrue (is_well_sorted t)
