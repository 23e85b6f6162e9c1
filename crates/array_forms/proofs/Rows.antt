-- Worked rows of reading over writing, and of the terms of values.
use Rattle.std.specs.Prelude.{◌≡◌, ℕ, true, false, [], ◌∷◌, map, pos, negsuc, Some, None, codes, refl}
use Rattle.smt_terms.specs.declared.op.Op.TheVariants.{Truth, Whole, Bits, Equal, Ite, Neg, Select, Store}
use Rattle.smt_terms.specs.Sorts.{Name, Sort, bool, int, bit_vector, array, free_sort}
use Rattle.smt_terms.specs.Term.{existential, op, const_array, Term, apply, quantified, none, ◌⨾◌, variable}
use Rattle.smt_terms.specs.Equal.{op_eq}
use Rattle.smt_terms.specs.BitVectors.{nat2bv}
use Rattle.smt_terms.specs.Constants.{literal_value}
use Rattle.smt_terms.specs.Values.{truth, whole, bits, element, table, no_pairs, pair}
use Rattle.array_forms.specs.Reads.{reads}
use Rattle.array_forms.specs.ValueTerm.{value_term}

abbrev named : Name → Sort → Term
named name sort = variable (record { name = name; sort = sort })

abbrev numbers : Sort
numbers = array int int

abbrev m : Term
m = named (codes "m") numbers

abbrev i : Term
i = named (codes "i") int

abbrev j : Term
j = named (codes "j") int

abbrev y : Term
y = named (codes "y") int

abbrev z : Term
z = named (codes "z") int

abbrev n : ℕ → Term
n k = apply (op (Whole (pos k))) none

abbrev store : Term → Term → Term → Term
store a k v = apply (op Store) (a ⨾ k ⨾ v ⨾ none)

abbrev select : Term → Term → Term
select a k = apply (op Select) (a ⨾ k ⨾ none)

abbrev equal : Term → Term → Term
equal s t = apply (op Equal) (s ⨾ t ⨾ none)

abbrev ite : Term → Term → Term → Term
ite c s t = apply (op Ite) (c ⨾ s ⨾ t ⨾ none)

abbrev everywhere : Term → Term
everywhere v = apply (const_array numbers) (v ⨾ none)

-- ---- reading

two_stores : reads (equal (select (store (store m (n 1) y) i z) (n 1)) (n 0)) ≡ equal (ite (equal i (n 1)) z y) (n 0)
unfolding op_eq literal_value
two_stores = refl

same_index : reads (select (store m i y) i) ≡ y
unfolding op_eq literal_value
same_index = refl

same_constant : reads (select (store m (n 1) y) (n 1)) ≡ y
unfolding op_eq literal_value
same_constant = refl

different_constants : reads (select (store m (n 1) y) (n 2)) ≡ select m (n 2)
unfolding op_eq literal_value
different_constants = refl

-- an index that is no constant may be any, also beside a constant
open_index : map reads (select (store m i y) j ∷ select (store m (n 1) y) j ∷ select (store m i y) (n 1) ∷ []) ≡ ite (equal i j) y (select m j) ∷ ite (equal (n 1) j) y (select m j) ∷ ite (equal i (n 1)) y (select m (n 1)) ∷ []
unfolding op_eq literal_value
open_index = refl

constant_array : map reads (select (everywhere y) j ∷ select (store (everywhere y) (n 1) z) (n 2) ∷ select (store (everywhere y) i z) j ∷ []) ≡ y ∷ y ∷ ite (equal i j) z y ∷ []
unfolding op_eq literal_value
constant_array = refl

-- three stores: the first is met, the second may be, the third is behind a constant
chain : reads (select (store (store (store m (n 1) y) j z) (n 2) i) (n 1)) ≡ ite (equal j (n 1)) z y
unfolding op_eq literal_value
chain = refl

-- an array that is chosen isn't looked into
choice : reads (select (ite (equal i j) (store m i y) m) i) ≡ select (ite (equal i j) (store m i y) m) i
unfolding op_eq literal_value
choice = refl

-- from below: indices and arrays are read first, and so are quantified formulas
from_below : map reads (select (store m (select (store m i j) i) y) j ∷ select m (select (store m i y) i) ∷ store m i (select (store m i y) i) ∷ quantified existential (record { name = codes "b"; sort = bool } ∷ []) (equal (select (store m i y) i) z) ∷ []) ≡ y ∷ select m y ∷ store m i y ∷ quantified existential (record { name = codes "b"; sort = bool } ∷ []) (equal y z) ∷ []
unfolding op_eq literal_value
from_below = refl

-- a minus over a constant that was read is the constant
minus : reads (apply (op Neg) (select (everywhere (n 5)) j ⨾ none)) ≡ apply (op (Whole (negsuc 4))) none
unfolding op_eq literal_value
minus = refl

-- ---- terms of values

abbrev flags : Sort
flags = array bool int

array_of_stores : value_term flags (table (whole (pos 0)) (pair (truth true) (whole (pos 1)) (pair (truth false) (whole (pos 1)) no_pairs))) ≡ Some (store (store (apply (const_array flags) (n 0 ⨾ none)) (apply (op (Truth true)) none) (n 1)) (apply (op (Truth false)) none) (n 1))
array_of_stores = refl

scalars : value_term bool (truth false) ∷ value_term int (whole (negsuc 4)) ∷ value_term (bit_vector 8) (bits (nat2bv 8 0x5c)) ∷ [] ≡ Some (apply (op (Truth false)) none) ∷ Some (apply (op (Whole (negsuc 4))) none) ∷ Some (apply (op (Bits 8 0x5c)) none) ∷ []
scalars = refl

elements : value_term (free_sort (codes "U")) (element 0) ∷ value_term (array (free_sort (codes "U")) int) (table (whole (pos 0)) (pair (element 0) (whole (pos 1)) no_pairs)) ∷ value_term (array int (free_sort (codes "U"))) (table (element 0) no_pairs) ∷ [] ≡ None ∷ None ∷ None ∷ []
elements = refl

-- without a pair no key is met, and the default is a number
element_keys_alone : value_term (array (free_sort (codes "U")) int) (table (whole (pos 0)) no_pairs) ≡ Some (apply (const_array (array (free_sort (codes "U")) int)) (n 0 ⨾ none))
element_keys_alone = refl
