-- Values: the elements of the sorts of a structure, SMT-LIB 2.6, section 5.3, with the theories Core, Ints,
-- FixedSizeBitVectors and ArraysEx. Equality of values is `same`, which for arrays is extensionality.
use Rattle.std.specs.Prelude.{ℕ, zero, suc, Bool, true, false, cond, not, ◌&&◌, ◌||◌, ◌==◌, nat_lt, List, [], ◌∷◌, length, ℤ, pos}
use Rattle.std.specs.Bool.{beq}
use Rattle.std.specs.Ordering.{int_eq}
use Rattle.smt_terms.specs.Sorts.{Name, Sort, bool, int, bit_vector, array, free_sort}
use Rattle.smt_terms.specs.Term.{Quantifier, universal, existential}
use Rattle.smt_terms.specs.BitVectors.{BitVector, bits_eq, zeros}

-- a truth value; a whole number of any size; bits, the lowest first; the element of a number of a free sort; an array,
-- which has the default value wherever no pair says otherwise
mutual
  pub data Value : Type 0 where
    truth : Bool → Value
    whole : ℤ → Value
    bits : BitVector → Value
    element : ℕ → Value
    table : Value → Pairs → Value

  -- a key, its value, and the pairs behind
  pub data Pairs : Type 0 where
    no_pairs : Pairs
    pair : Value → Value → Pairs → Pairs

-- how many elements each free sort has, by its name
abbrev pub Sizes : Type 0
Sizes = Name → ℕ

-- ---- a value as what it is; another kind of value reads as the first of its kind

abbrev pub is_true : Value → Bool
is_true (truth b) = b
is_true _ = false

abbrev pub number : Value → ℤ
number (whole n) = n
number _ = pos 0

abbrev pub bits_of : Value → BitVector
bits_of (bits bs) = bs
bits_of _ = []

abbrev pub element_of : Value → ℕ
element_of (element i) = i
element_of _ = 0

abbrev pub default_of : Value → Value
default_of (table d ps) = d
default_of v = v

abbrev pub pairs_of : Value → Pairs
pairs_of (table d ps) = ps
pairs_of _ = no_pairs

-- ---- all values of a finite sort

-- a test of both truth values, of all bits of a width, and of the elements below a number: all pass under the universal
-- quantifier, some passes under the existential one
abbrev pub joined : Quantifier → Bool → Bool → Bool
joined universal a b = a && b
joined existential a b = a || b

unfoldable pub over_bits : Quantifier → ℕ → (BitVector → Bool) → Bool
over_bits q zero test = test []
over_bits q (suc width) test = joined q (over_bits q width (λ bs. test (false ∷ bs))) (over_bits q width (λ bs. test (true ∷ bs)))

abbrev pub over_none : Quantifier → Bool
over_none universal = true
over_none existential = false

unfoldable pub over_elements : Quantifier → ℕ → (ℕ → Bool) → Bool
over_elements q zero test = over_none q
over_elements q (suc i) test = joined q (over_elements q i test) (test i)

-- the same over the values of a sort that is finite: no quantifier is over whole numbers or arrays
abbrev pub over_values : Quantifier → Sort → Sizes → (Value → Bool) → Bool
over_values q bool sizes test = joined q (test (truth false)) (test (truth true))
over_values q (bit_vector width) sizes test = over_bits q width (λ bs. test (bits bs))
over_values q (free_sort s) sizes test = over_elements q (sizes s) (λ i. test (element i))
over_values q int sizes test = false
over_values q (array i e) sizes test = false

-- ---- arrays, by a test of keys

abbrev pub is_key : (Value → Value → Bool) → Value → Pairs → Bool
is_key alike k no_pairs = false
is_key alike k (pair j v ps) = alike j k || is_key alike k ps

-- the value of the first pair with that key, or the default
abbrev pub value_at : (Value → Value → Bool) → Value → Pairs → Value → Value
value_at alike k no_pairs otherwise = otherwise
value_at alike k (pair j v ps) otherwise = cond (alike j k) v (value_at alike k ps otherwise)

-- a key that is there keeps its place and gets the new value; a new pair goes last
abbrev pub put : (Value → Value → Bool) → Value → Value → Pairs → Pairs
put alike k v no_pairs = pair k v no_pairs
put alike k v (pair j u ps) = cond (alike j k) (pair j v ps) (pair j u (put alike k v ps))

-- no key is like a later one
abbrev pub distinct_keys : (Value → Value → Bool) → Pairs → Bool
distinct_keys alike no_pairs = true
distinct_keys alike (pair k v ps) = not (is_key alike k ps) && distinct_keys alike ps

abbrev pub every_pair : (Value → Value → Bool) → Pairs → Bool
every_pair test no_pairs = true
every_pair test (pair k v ps) = test k v && every_pair test ps

-- whether the keys of both are all values of the index sort, which is never an array; whole numbers are never all there
abbrev pub cover : Sort → Sizes → (Value → Value → Bool) → Pairs → Pairs → Bool
cover index sizes alike ps qs = over_values universal index sizes (λ k. is_key alike k ps || is_key alike k qs)

-- two arrays agree at every key of the pairs
abbrev pub agree : (Value → Value → Bool) → (Value → Value → Bool) → Pairs → Value → Value → Bool
agree alike equal ps a b = every_pair (λ k _. equal (value_at alike k (pairs_of a) (default_of a)) (value_at alike k (pairs_of b) (default_of b))) ps

-- ---- equality of two values of a sort: of arrays, that they agree at every key of either, and that their defaults are
-- the same, unless those keys are all values of the index sort

abbrev pub same : Sort → Sizes → Value → Value → Bool
same bool sizes a b = beq (is_true a) (is_true b)
same int sizes a b = int_eq (number a) (number b)
same (bit_vector width) sizes a b = bits_eq (bits_of a) (bits_of b)
same (free_sort s) sizes a b = element_of a == element_of b
same (array i e) sizes a b =
    (agree (same i sizes) (same e sizes) (pairs_of a) a b && agree (same i sizes) (same e sizes) (pairs_of b) a b)
    && (cover i sizes (same i sizes) (pairs_of a) (pairs_of b) || same e sizes (default_of a) (default_of b))

-- values of sorts, one by one
abbrev pub all_same : List Sort → Sizes → List Value → List Value → Bool
all_same [] sizes [] [] = true
all_same (s ∷ ss) sizes (v ∷ vs) (w ∷ ws) = same s sizes v w && all_same ss sizes vs ws
all_same _ sizes _ _ = false

-- what an array of this index sort has at a key, and the array that has a new value there
abbrev pub select : Sort → Sizes → Value → Value → Value
select index sizes a k = value_at (same index sizes) k (pairs_of a) (default_of a)

abbrev pub store : Sort → Sizes → Value → Value → Value → Value
store index sizes a k v = table (default_of a) (put (same index sizes) k v (pairs_of a))

-- ---- values of a sort

abbrev pub is_value : Sort → Sizes → Value → Bool
is_value bool sizes (truth b) = true
is_value int sizes (whole n) = true
is_value (bit_vector width) sizes (bits bs) = length bs == width
is_value (free_sort s) sizes (element i) = nat_lt i (sizes s)
is_value (array i e) sizes (table d ps) =
    is_value e sizes d && (every_pair (λ k v. is_value i sizes k && is_value e sizes v) ps && distinct_keys (same i sizes) ps)
is_value _ sizes _ = false

abbrev pub are_values : List Sort → Sizes → List Value → Bool
are_values [] sizes [] = true
are_values (s ∷ ss) sizes (v ∷ vs) = is_value s sizes v && are_values ss sizes vs
are_values _ sizes _ = false

-- false, 0, zero bits, element 0, or the array that has its element's default everywhere
abbrev pub default_value : Sort → Value
default_value bool = truth false
default_value int = whole (pos 0)
default_value (bit_vector width) = bits (zeros width)
default_value (free_sort s) = element 0
default_value (array i e) = table (default_value e) no_pairs
