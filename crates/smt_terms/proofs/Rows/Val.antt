-- Worked rows of models and of the value of a term.
use Rattle.std.specs.Prelude.{◌≡◌, ℕ, ◌^◌, Bool, true, false, cond, List, [], ◌∷◌, map, ℤ, pos, negsuc, Option, Some, None, codes, refl}
use Rattle.smt_terms.specs.declared.op.Op.{Op}
use Rattle.smt_terms.specs.declared.op.Op.TheVariants.{Whole, Bits, Not, And, Or, Xor, Equal, Ite, Neg, Sub, Add, Mul, Div, Mod, Lt, BvUlt, BvUle}
use Rattle.smt_terms.specs.Sorts.{Name, Sort, bool, int, bit_vector, array, Symbol, Variable}
use Rattle.smt_terms.specs.Term.{universal, existential, op, symbol, const_array, Term, apply, quantified, none, ◌⨾◌, constant, variable}
use Rattle.smt_terms.specs.Equal.{symbol_eq}
use Rattle.smt_terms.specs.Rank.{rank}
use Rattle.smt_terms.specs.Values.{Value, truth, whole, bits, table, no_pairs, pair, over_bits}
use Rattle.smt_terms.specs.Operators.{op_value}
use Rattle.smt_terms.specs.Models.{Graph, NumberRow, NumberGraph, Model, is_graph, distinct_number_rows}
use Rattle.smt_terms.specs.Val.{no_variables, val, fits, bits_bound}

abbrev n : ℕ → Value
n i = whole (pos i)

abbrev number : ℤ → Term
number i = apply (op (Whole i)) none

abbrev one_of : Op → Term → Term
one_of o s = apply (op o) (s ⨾ none)

abbrev two_of : Op → Term → Term → Term
two_of o s t = apply (op o) (s ⨾ t ⨾ none)

abbrev three_of : Op → Term → Term → Term → Term
three_of o s t u = apply (op o) (s ⨾ t ⨾ u ⨾ none)

abbrev call : Symbol → Term → Term
call f t = apply (symbol f) (t ⨾ none)

abbrev named : Name → Sort → Variable
named name sort = record { name = name; sort = sort }

abbrev all : Variable → Term → Term
all x t = quantified universal (x ∷ []) t

abbrev some : Variable → Term → Term
some x t = quantified existential (x ∷ []) t

-- ---- a model: x is 2 ^ 126, p is true, f is 7 at 3 and else 0, g is 9 at the array that is 1 everywhere and else 0

abbrev numbers : Sort
numbers = array bool int

abbrev x : Symbol
x = record { name = codes "x"; args = []; result = int }

abbrev p : Variable
p = named (codes "p") bool

abbrev f : Symbol
f = record { name = codes "f"; args = int ∷ []; result = int }

abbrev g : Symbol
g = record { name = codes "g"; args = numbers ∷ []; result = int }

abbrev a : Symbol
a = record { name = codes "a"; args = []; result = numbers }

abbrev unknown : Symbol
unknown = record { name = codes "u"; args = []; result = bit_vector 2 }

abbrev always : Value → Graph
always v = record { rows = []; otherwise = v }

abbrev once : Value → Value → Graph
once k v = record { rows = record { keys = k ∷ []; result = v } ∷ []; otherwise = n 0 }

abbrev one_by_one : Value
one_by_one = table (n 0) (pair (truth true) (n 1) (pair (truth false) (n 1) no_pairs))

abbrev graphs : List (Symbol × Graph) → Symbol → Option Graph
graphs [] h = None
graphs (q ∷ qs) h = cond (symbol_eq q.0 h) (Some q.1) (graphs qs h)

abbrev numbers_to : List NumberRow → ℤ → NumberGraph
numbers_to rows otherwise = record { rows = rows; otherwise = otherwise }

abbrev m : Model
m = record {
  sizes = λ _. 2;
  graphs = graphs ((x, always (n (2 ^ 126))) ∷ (record { name = codes "p"; args = []; result = bool }, always (truth true)) ∷ (f, once (n 3) (n 7)) ∷ (g, once (table (n 1) no_pairs) (n 9)) ∷ (a, always one_by_one) ∷ []);
  div_by_zero = numbers_to (record { key = pos 7; result = pos 4 } ∷ []) (negsuc 0);
  mod_by_zero = numbers_to [] (pos 5);
}

abbrev value : Term → Value
value t = val m t no_variables

-- ---- symbols

constants : map value (constant x ∷ variable p ∷ constant unknown ∷ []) ≡ n (2 ^ 126) ∷ truth true ∷ bits (false ∷ false ∷ []) ∷ []
constants = refl

functions : map value (call f (number (pos 3)) ∷ call f (number (pos 4)) ∷ call f (call f (number (pos 3))) ∷ []) ≡ map n (7 ∷ 0 ∷ 0 ∷ [])
unfolding op_value
functions = refl

-- the keys of a row are compared as arrays
array_key : value (call g (constant a)) ≡ n 9
array_key = refl

constant_arrays : value (apply (const_array numbers) (number (pos 1) ⨾ none)) ∷ value (call g (apply (const_array numbers) (number (pos 2) ⨾ none))) ∷ [] ≡ table (n 1) no_pairs ∷ n 0 ∷ []
unfolding op_value
constant_arrays = refl

array_equation : value (two_of Equal (constant a) (apply (const_array numbers) (number (pos 1) ⨾ none))) ≡ truth true
unfolding op_value rank
array_equation = refl

-- ---- division by zero is the model's

by_zero : map value (two_of Div (number (pos 7)) (number (pos 0)) ∷ two_of Div (number (pos 6)) (number (pos 0)) ∷ two_of Mod (number (pos 7)) (number (pos 0)) ∷ two_of Mod (number (pos 7)) (number (pos 2)) ∷ []) ≡ map whole (pos 4 ∷ negsuc 0 ∷ pos 5 ∷ pos 1 ∷ [])
unfolding op_value
by_zero = refl

-- ---- quantifiers

abbrev q : Variable
q = named (codes "q") bool

abbrev byte : Variable
byte = named (codes "b") (bit_vector 8)

abbrev bits_of_byte : ℕ → Term
bits_of_byte i = apply (op (Bits 8 i)) none

every_byte : value (all byte (two_of BvUle (variable byte) (bits_of_byte 255))) ≡ truth true
unfolding op_value over_bits
every_byte = refl

not_every_byte : value (all byte (two_of BvUlt (variable byte) (bits_of_byte 255))) ≡ truth false
unfolding op_value over_bits
not_every_byte = refl

some_byte : value (some byte (two_of Equal (variable byte) (bits_of_byte 129))) ≡ truth true
unfolding op_value over_bits rank
some_byte = refl

no_byte : value (some byte (two_of BvUlt (variable byte) (bits_of_byte 0))) ≡ truth false
unfolding op_value over_bits
no_byte = refl

order : map value (all p (some q (two_of Xor (variable p) (variable q))) ∷ some q (all p (two_of Xor (variable p) (variable q))) ∷ []) ≡ map truth (true ∷ false ∷ [])
unfolding op_value
order = refl

two_variables : map value (quantified existential (p ∷ q ∷ []) (two_of And (variable p) (one_of Not (variable q))) ∷ quantified universal (p ∷ q ∷ []) (two_of Or (variable p) (variable q)) ∷ []) ≡ map truth (true ∷ false ∷ [])
unfolding op_value
two_variables = refl

-- a variable hides the symbol, and an outer variable of its name and sort
hidden : map value (all p (variable p) ∷ some p (all p (variable p)) ∷ all p (some p (variable p)) ∷ []) ≡ map truth (false ∷ false ∷ true ∷ [])
hidden = refl

-- one of another sort hides nothing
other_sort : value (all (named (codes "x") bool) (two_of Lt (number (pos 0)) (constant x))) ≡ truth true
unfolding op_value
other_sort = refl

-- ---- whole numbers within the range, here for x of 2 ^ 126

abbrev in_range : Term → Bool
in_range t = fits m t no_variables

abbrev twice : Term
twice = two_of Add (constant x) (constant x)

range : map in_range (constant x ∷ twice ∷ two_of Sub twice (number (pos 1)) ∷ two_of Add (constant x) (two_of Sub (constant x) (number (pos 1))) ∷ two_of Lt twice (number (pos 0)) ∷ []) ≡ true ∷ false ∷ false ∷ true ∷ false ∷ []
unfolding op_value
range = refl

below : map in_range (one_of Neg (two_of Add (constant x) (two_of Sub (constant x) (number (pos 1)))) ∷ two_of Sub (one_of Neg (constant x)) (constant x) ∷ []) ≡ true ∷ false ∷ []
unfolding op_value
below = refl

-- some value of q takes it beyond, though the formula is true by the other
for_some_variable : fits m (some q (two_of Equal (two_of Mul (three_of Ite (variable q) (constant x) (number (pos 1))) (number (pos 2))) (number (pos 2)))) no_variables ≡ false
unfolding op_value
for_some_variable = refl

for_all_variables : fits m (some q (two_of Equal (two_of Mul (three_of Ite (variable q) (number (pos 3)) (number (pos 1))) (number (pos 2))) (number (pos 2)))) no_variables ≡ true
unfolding op_value
for_all_variables = refl

-- ---- bits that quantifiers bind on one path

no_bits : bits_bound (two_of And (variable p) (variable q)) ≡ 0
no_bits = refl

nested : bits_bound (all byte (some q (variable q))) ≡ 9
nested = refl

side_by_side : bits_bound (two_of And (quantified existential (p ∷ q ∷ []) (variable q)) (all byte (variable q))) ≡ 8
side_by_side = refl

below_operands : bits_bound (all byte (one_of Not (two_of And (variable q) (quantified existential (p ∷ q ∷ []) (variable q))))) ≡ 10
below_operands = refl

-- ---- valid functions

valid : is_graph f (λ _. 2) (once (n 3) (n 7)) ∷ is_graph x (λ _. 2) (always (n 1)) ∷ is_graph x (λ _. 2) (always (truth true)) ∷ is_graph f (λ _. 2) (once (truth true) (n 7)) ∷ is_graph f (λ _. 2) (once (n 3) (truth true)) ∷ [] ≡ true ∷ true ∷ false ∷ false ∷ false ∷ []
valid = refl

-- a constant has no rows
rows_of_constant : is_graph x (λ _. 2) (record { rows = record { keys = []; result = n 1 } ∷ []; otherwise = n 1 }) ≡ false
rows_of_constant = refl

abbrev twice_keyed : Value → Value → Graph
twice_keyed k l = record { rows = record { keys = k ∷ []; result = n 1 } ∷ record { keys = l ∷ []; result = n 2 } ∷ []; otherwise = n 0 }

-- no two rows have the same keys
rows_alike : is_graph g (λ _. 2) (twice_keyed (table (n 1) no_pairs) one_by_one) ∷ is_graph g (λ _. 2) (twice_keyed (table (n 2) no_pairs) one_by_one) ∷ [] ≡ false ∷ true ∷ []
rows_alike = refl

number_rows_alike : distinct_number_rows (record { key = pos 1; result = pos 2 } ∷ record { key = pos 1; result = pos 3 } ∷ []) ∷ distinct_number_rows (record { key = pos 1; result = pos 2 } ∷ record { key = pos 2; result = pos 2 } ∷ []) ∷ [] ≡ false ∷ true ∷ []
number_rows_alike = refl
