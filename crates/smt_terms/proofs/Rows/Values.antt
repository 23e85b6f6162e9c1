-- Worked rows of values, their equality, arrays, and the operators of Core, Ints and ArraysEx.
use Rattle.std.specs.Prelude.{◌≡◌, ℕ, true, false, List, [], ◌∷◌, map, pos, negsuc, ◌+ℤ◌, codes, refl}
use Rattle.smt_terms.specs.declared.op.Op.{Op}
use Rattle.smt_terms.specs.declared.op.Op.TheVariants.{Truth, Whole, Not, And, Or, Xor, Implies, Equal, Distinct, Ite, Neg, Sub, Add, Mul, Div, Mod, Abs, Le, Lt, Select, Store}
use Rattle.smt_terms.specs.Sorts.{Sort, bool, int, bit_vector, array, free_sort}
use Rattle.smt_terms.specs.BitVectors.{nat2bv}
use Rattle.smt_terms.specs.Values.{Value, truth, whole, bits, element, table, Pairs, no_pairs, pair, Sizes, same, is_value, default_value, over_bits, over_elements}
use Rattle.smt_terms.specs.Operators.{Background, op_value}

-- each free sort has three elements; `div` and `mod` by zero add 100 and 200
abbrev three : Sizes
three _ = 3

abbrev some : Background
some = record { sizes = three; div_by_zero = λ n. n +ℤ pos 100; mod_by_zero = λ n. n +ℤ pos 200 }

abbrev seven : Value
seven = whole (pos 7)

abbrev minus_seven : Value
minus_seven = whole (negsuc 6)

abbrev minus_three : Value
minus_three = whole (negsuc 2)

abbrev n : ℕ → Value
n i = whole (pos i)

abbrev on : Op → List Value → Value
on o vs = op_value some o (int ∷ int ∷ int ∷ []) vs

abbrev yes : Value
yes = truth true

abbrev no : Value
no = truth false

-- ---- Ints: the remainder is never negative, and is smaller than the divisor's magnitude

div : on Div (seven ∷ n 3 ∷ []) ∷ on Div (seven ∷ minus_three ∷ []) ∷ on Div (minus_seven ∷ n 3 ∷ []) ∷ on Div (minus_seven ∷ minus_three ∷ []) ∷ [] ≡ map whole (pos 2 ∷ negsuc 1 ∷ negsuc 2 ∷ pos 3 ∷ [])
unfolding op_value
div = refl

mod_of : on Mod (seven ∷ n 3 ∷ []) ∷ on Mod (seven ∷ minus_three ∷ []) ∷ on Mod (minus_seven ∷ n 3 ∷ []) ∷ on Mod (minus_seven ∷ minus_three ∷ []) ∷ [] ≡ map whole (pos 1 ∷ pos 1 ∷ pos 2 ∷ pos 2 ∷ [])
unfolding op_value
mod_of = refl

without_rest : on Div (n 6 ∷ minus_three ∷ []) ∷ on Mod (n 6 ∷ minus_three ∷ []) ∷ on Div (minus_seven ∷ seven ∷ []) ∷ on Mod (minus_seven ∷ seven ∷ []) ∷ [] ≡ map whole (negsuc 1 ∷ pos 0 ∷ negsuc 0 ∷ pos 0 ∷ [])
unfolding op_value
without_rest = refl

by_zero : on Div (seven ∷ n 0 ∷ []) ∷ on Mod (seven ∷ n 0 ∷ []) ∷ on Div (minus_seven ∷ n 0 ∷ []) ∷ [] ≡ map n (107 ∷ 207 ∷ 93 ∷ [])
unfolding op_value
by_zero = refl

sums : on Add (n 1 ∷ n 2 ∷ whole (negsuc 3) ∷ []) ∷ on Mul (n 2 ∷ minus_three ∷ n 4 ∷ []) ∷ on Sub (n 3 ∷ n 5 ∷ []) ∷ on Neg (n 3 ∷ []) ∷ on Neg (minus_three ∷ []) ∷ on Abs (minus_three ∷ []) ∷ on Abs (seven ∷ []) ∷ [] ≡ map whole (negsuc 0 ∷ negsuc 23 ∷ negsuc 1 ∷ negsuc 2 ∷ pos 3 ∷ pos 3 ∷ pos 7 ∷ [])
unfolding op_value
sums = refl

orders : on Le (n 3 ∷ n 3 ∷ []) ∷ on Lt (n 3 ∷ n 3 ∷ []) ∷ on Lt (minus_three ∷ n 3 ∷ []) ∷ on Le (n 3 ∷ minus_three ∷ []) ∷ [] ≡ yes ∷ no ∷ yes ∷ no ∷ []
unfolding op_value
orders = refl

-- ---- Core

connectives : on Not (yes ∷ []) ∷ on And (yes ∷ yes ∷ no ∷ []) ∷ on And (yes ∷ yes ∷ yes ∷ []) ∷ on Or (no ∷ no ∷ yes ∷ []) ∷ on Or (no ∷ no ∷ no ∷ []) ∷ [] ≡ no ∷ no ∷ yes ∷ yes ∷ no ∷ []
unfolding op_value
connectives = refl

xor : on Xor (yes ∷ yes ∷ []) ∷ on Xor (yes ∷ no ∷ []) ∷ on Xor (no ∷ yes ∷ []) ∷ on Xor (no ∷ no ∷ []) ∷ [] ≡ no ∷ yes ∷ yes ∷ no ∷ []
unfolding op_value
xor = refl

implies : on Implies (yes ∷ yes ∷ []) ∷ on Implies (yes ∷ no ∷ []) ∷ on Implies (no ∷ yes ∷ []) ∷ on Implies (no ∷ no ∷ []) ∷ [] ≡ yes ∷ no ∷ yes ∷ yes ∷ []
unfolding op_value
implies = refl

ite : on Ite (yes ∷ n 1 ∷ n 2 ∷ []) ∷ on Ite (no ∷ n 1 ∷ n 2 ∷ []) ∷ [] ≡ n 1 ∷ n 2 ∷ []
unfolding op_value
ite = refl

equations : on Equal (n 1 ∷ n 1 ∷ []) ∷ on Equal (n 1 ∷ n 2 ∷ []) ∷ on Distinct (n 1 ∷ n 2 ∷ n 3 ∷ []) ∷ on Distinct (n 1 ∷ n 2 ∷ n 1 ∷ []) ∷ [] ≡ yes ∷ no ∷ yes ∷ no ∷ []
unfolding op_value
equations = refl

constants : on (Truth false) [] ∷ on (Whole (negsuc 2)) [] ∷ [] ≡ no ∷ minus_three ∷ []
unfolding op_value
constants = refl

-- ---- equality of scalars

scalars : same bool three yes yes ∷ same bool three yes no ∷ same int three minus_three minus_three ∷ same int three minus_three (n 3) ∷ same (free_sort (codes "U")) three (element 2) (element 2) ∷ same (free_sort (codes "U")) three (element 2) (element 1) ∷ [] ≡ true ∷ false ∷ true ∷ false ∷ true ∷ false ∷ []
scalars = refl

vectors : same (bit_vector 4) three (bits (nat2bv 4 0x9)) (bits (nat2bv 4 0x9)) ∷ same (bit_vector 4) three (bits (nat2bv 4 0x9)) (bits (nat2bv 4 0x1)) ∷ [] ≡ true ∷ false ∷ []
vectors = refl

-- ---- equality of arrays

abbrev everywhere : Value → Value
everywhere v = table v no_pairs

-- 1 everywhere, and 1 at both truth values over a default of 0
abbrev one : Value
one = everywhere (n 1)

abbrev one_by_one : Value
one_by_one = table (n 0) (pair yes (n 1) (pair no (n 1) no_pairs))

both_truth_values : same (array bool int) three one one_by_one ∷ same (array bool int) three one_by_one one ∷ [] ≡ true ∷ true ∷ []
both_truth_values = refl

-- one truth value is missing, and its default counts
one_truth_value : same (array bool int) three one (table (n 0) (pair yes (n 1) no_pairs)) ≡ false
one_truth_value = refl

other_value : same (array bool int) three one (table (n 1) (pair yes (n 2) no_pairs)) ≡ false
other_value = refl

-- one key each: together they are all there are
together : same (array bool int) three (table (n 0) (pair yes (n 5) no_pairs)) (table (n 5) (pair no (n 0) no_pairs)) ≡ true
together = refl

abbrev at_vectors : Pairs
at_vectors = pair (bits (nat2bv 2 2)) (n 1) (pair (bits (nat2bv 2 0)) (n 1) (pair (bits (nat2bv 2 3)) (n 1) no_pairs))

three_of_four : same (array (bit_vector 2) int) three one (table (n 0) at_vectors) ≡ false
unfolding over_bits
three_of_four = refl

all_four : same (array (bit_vector 2) int) three one (table (n 0) (pair (bits (nat2bv 2 1)) (n 1) at_vectors)) ≡ true
unfolding over_bits
all_four = refl

abbrev U : Sort
U = free_sort (codes "U")

two_of_three : same (array U int) three one (table (n 0) (pair (element 2) (n 1) (pair (element 0) (n 1) no_pairs))) ≡ false
unfolding over_elements
two_of_three = refl

all_three : same (array U int) three one (table (n 0) (pair (element 2) (n 1) (pair (element 0) (n 1) (pair (element 1) (n 1) no_pairs)))) ≡ true
unfolding over_elements
all_three = refl

-- whole numbers are never all there
whole_numbers : same (array int int) three one (table (n 0) (pair (n 0) (n 1) (pair (n 1) (n 1) no_pairs))) ≡ false
whole_numbers = refl

-- a pair that repeats the default, and pairs in another order
other_pairs : same (array int int) three one (table (n 1) (pair (n 0) (n 1) no_pairs)) ∷ same (array int int) three (table (n 1) (pair (n 0) (n 2) (pair (n 3) (n 4) no_pairs))) (table (n 1) (pair (n 3) (n 4) (pair (n 0) (n 2) no_pairs))) ∷ [] ≡ true ∷ true ∷ []
other_pairs = refl

-- elements that are arrays are compared as arrays
arrays_of_arrays : same (array int (array bool int)) three (everywhere one) (everywhere one_by_one) ≡ true
arrays_of_arrays = refl

equal_arrays : op_value some Equal (array bool int ∷ array bool int ∷ []) (one ∷ one_by_one ∷ []) ∷ op_value some Distinct (array bool int ∷ array bool int ∷ []) (one ∷ one_by_one ∷ []) ∷ [] ≡ yes ∷ no ∷ []
unfolding op_value
equal_arrays = refl

-- ---- reading and writing arrays

abbrev put : Value → Value → Value → Value
put a k v = op_value some Store (array int int ∷ int ∷ int ∷ []) (a ∷ k ∷ v ∷ [])

abbrev get : Value → Value → Value
get a k = op_value some Select (array int int ∷ int ∷ []) (a ∷ k ∷ [])

-- a new key goes last; a key that is there keeps its place
twice_at_a_key : put (put (put (everywhere (n 0)) (n 1) (n 4)) (n 2) (n 5)) (n 1) (n 6) ≡ table (n 0) (pair (n 1) (n 6) (pair (n 2) (n 5) no_pairs))
unfolding op_value
twice_at_a_key = refl

reads : get (put (put (everywhere (n 9)) (n 1) (n 4)) (n 2) (n 5)) (n 1) ∷ get (put (put (everywhere (n 9)) (n 1) (n 4)) (n 2) (n 5)) (n 2) ∷ get (put (put (everywhere (n 9)) (n 1) (n 4)) (n 2) (n 5)) (n 3) ∷ [] ≡ map n (4 ∷ 5 ∷ 9 ∷ [])
unfolding op_value
reads = refl

-- ---- which values a sort has

scalar_values : is_value bool three yes ∷ is_value int three yes ∷ is_value (bit_vector 4) three (bits (nat2bv 4 0)) ∷ is_value (bit_vector 4) three (bits (nat2bv 5 0)) ∷ is_value U three (element 2) ∷ is_value U three (element 3) ∷ [] ≡ true ∷ false ∷ true ∷ false ∷ true ∷ false ∷ []
scalar_values = refl

array_values : is_value (array bool int) three one_by_one ∷ is_value (array int int) three one_by_one ∷ is_value (array bool bool) three one_by_one ∷ is_value (array bool int) three (table (n 0) (pair yes (n 1) (pair yes (n 1) no_pairs))) ∷ [] ≡ true ∷ false ∷ false ∷ false ∷ []
array_values = refl

defaults : default_value bool ∷ default_value int ∷ default_value U ∷ default_value (array int (bit_vector 2)) ∷ [] ≡ no ∷ n 0 ∷ element 0 ∷ everywhere (bits (false ∷ false ∷ [])) ∷ []
defaults = refl
