-- Worked rows of the rank of each operator, of its faults and their order, of sorts and of well-sorted terms.
use Rattle.std.specs.Prelude.{◌≡◌, ◌-◌, ◌^◌, true, false, ℤ, pos, negsuc, neg_ℤ, [], ◌∷◌, Some, None, Ok, Err, codes, refl}
use Rattle.smt_terms.specs.declared.op.Op.TheVariants.{Truth, Whole, Bits, Sym, Not, And, Or, Xor, Implies, Equal, Distinct, Ite, Neg, Sub, Add, Mul, Div, Mod, Abs, Le, Lt, Concat, Extract, BvNot, BvNeg, BvAnd, BvOr, BvXor, BvAdd, BvMul, BvSub, BvUdiv, BvUrem, BvSdiv, BvSrem, BvSmod, BvShl, BvLshr, BvAshr, BvComp, BvUlt, BvUle, BvSlt, BvSle, ZeroExt, SignExt, RotL, RotR, Select, Store}
use Rattle.smt_terms.specs.Sorts.{Sort, bool, int, bit_vector, array, free_sort, Symbol}
use Rattle.smt_terms.specs.Term.{universal, existential, op, symbol, const_array, Term, apply, quantified, none, ◌⨾◌, constant, variable}
use Rattle.smt_terms.specs.Rank.{wrong_arity, wrong_sort, bad_index, width_limit, rank, rank_quantifier, sort_of, is_minus_of, is_well_sorted}

abbrev byte : Sort
byte = bit_vector 8

abbrev numbers : Sort
numbers = array int byte

abbrev f : Symbol
f = record { name = codes "f"; args = int ∷ bool ∷ []; result = byte }

abbrev c : Symbol
c = record { name = codes "c"; args = []; result = int }

abbrev p : Term
p = variable (record { name = codes "p"; sort = bool })

abbrev b : Term
b = variable (record { name = codes "b"; sort = byte })

abbrev whole : ℤ → Term
whole n = apply (op (Whole n)) none

-- ---- the result of each operator

truth : rank (op (Truth true)) ([]) ≡ Ok bool
unfolding rank
truth = refl

whole_constant : rank (op (Whole (negsuc 4))) ([]) ≡ Ok int
unfolding rank
whole_constant = refl

bits : rank (op (Bits 8 255)) ([]) ≡ Ok byte
unfolding rank
bits = refl

negation : rank (op Not) (bool ∷ []) ≡ Ok bool
unfolding rank
negation = refl

conjunction : rank (op And) (bool ∷ bool ∷ bool ∷ []) ≡ Ok bool
unfolding rank
conjunction = refl

disjunction : rank (op Or) (bool ∷ bool ∷ []) ≡ Ok bool
unfolding rank
disjunction = refl

exclusive : rank (op Xor) (bool ∷ bool ∷ []) ≡ Ok bool
unfolding rank
exclusive = refl

implication : rank (op Implies) (bool ∷ bool ∷ []) ≡ Ok bool
unfolding rank
implication = refl

equality : rank (op Equal) (int ∷ int ∷ []) ≡ Ok bool
unfolding rank
equality = refl

differences : rank (op Distinct) (byte ∷ byte ∷ byte ∷ []) ≡ Ok bool
unfolding rank
differences = refl

branches : rank (op Ite) (bool ∷ numbers ∷ numbers ∷ []) ≡ Ok numbers
unfolding rank
branches = refl

minus : rank (op Neg) (int ∷ []) ≡ Ok int
unfolding rank
minus = refl

difference : rank (op Sub) (int ∷ int ∷ []) ≡ Ok int
unfolding rank
difference = refl

sum : rank (op Add) (int ∷ int ∷ int ∷ []) ≡ Ok int
unfolding rank
sum = refl

product : rank (op Mul) (int ∷ int ∷ []) ≡ Ok int
unfolding rank
product = refl

quotient : rank (op Div) (int ∷ int ∷ []) ≡ Ok int
unfolding rank
quotient = refl

remainder : rank (op Mod) (int ∷ int ∷ []) ≡ Ok int
unfolding rank
remainder = refl

magnitude : rank (op Abs) (int ∷ []) ≡ Ok int
unfolding rank
magnitude = refl

at_most : rank (op Le) (int ∷ int ∷ []) ≡ Ok bool
unfolding rank
at_most = refl

less : rank (op Lt) (int ∷ int ∷ []) ≡ Ok bool
unfolding rank
less = refl

joined : rank (op Concat) (bit_vector 3 ∷ bit_vector 4 ∷ []) ≡ Ok (bit_vector 7)
unfolding rank
joined = refl

part : rank (op (Extract 5 2)) (byte ∷ []) ≡ Ok (bit_vector 4)
unfolding rank
part = refl

bv_not : rank (op BvNot) (byte ∷ []) ≡ Ok byte
unfolding rank
bv_not = refl

bv_neg : rank (op BvNeg) (byte ∷ []) ≡ Ok byte
unfolding rank
bv_neg = refl

bv_and : rank (op BvAnd) (byte ∷ byte ∷ []) ≡ Ok byte
unfolding rank
bv_and = refl

bv_or : rank (op BvOr) (byte ∷ byte ∷ []) ≡ Ok byte
unfolding rank
bv_or = refl

bv_xor : rank (op BvXor) (byte ∷ byte ∷ []) ≡ Ok byte
unfolding rank
bv_xor = refl

bv_add : rank (op BvAdd) (byte ∷ byte ∷ []) ≡ Ok byte
unfolding rank
bv_add = refl

bv_mul : rank (op BvMul) (byte ∷ byte ∷ []) ≡ Ok byte
unfolding rank
bv_mul = refl

bv_sub : rank (op BvSub) (byte ∷ byte ∷ []) ≡ Ok byte
unfolding rank
bv_sub = refl

bv_udiv : rank (op BvUdiv) (byte ∷ byte ∷ []) ≡ Ok byte
unfolding rank
bv_udiv = refl

bv_urem : rank (op BvUrem) (byte ∷ byte ∷ []) ≡ Ok byte
unfolding rank
bv_urem = refl

bv_sdiv : rank (op BvSdiv) (byte ∷ byte ∷ []) ≡ Ok byte
unfolding rank
bv_sdiv = refl

bv_srem : rank (op BvSrem) (byte ∷ byte ∷ []) ≡ Ok byte
unfolding rank
bv_srem = refl

bv_smod : rank (op BvSmod) (byte ∷ byte ∷ []) ≡ Ok byte
unfolding rank
bv_smod = refl

bv_shl : rank (op BvShl) (byte ∷ byte ∷ []) ≡ Ok byte
unfolding rank
bv_shl = refl

bv_lshr : rank (op BvLshr) (byte ∷ byte ∷ []) ≡ Ok byte
unfolding rank
bv_lshr = refl

bv_ashr : rank (op BvAshr) (byte ∷ byte ∷ []) ≡ Ok byte
unfolding rank
bv_ashr = refl

bv_comp : rank (op BvComp) (byte ∷ byte ∷ []) ≡ Ok (bit_vector 1)
unfolding rank
bv_comp = refl

bv_ult : rank (op BvUlt) (byte ∷ byte ∷ []) ≡ Ok bool
unfolding rank
bv_ult = refl

bv_ule : rank (op BvUle) (byte ∷ byte ∷ []) ≡ Ok bool
unfolding rank
bv_ule = refl

bv_slt : rank (op BvSlt) (byte ∷ byte ∷ []) ≡ Ok bool
unfolding rank
bv_slt = refl

bv_sle : rank (op BvSle) (byte ∷ byte ∷ []) ≡ Ok bool
unfolding rank
bv_sle = refl

zeros_before : rank (op (ZeroExt 3)) (byte ∷ []) ≡ Ok (bit_vector 11)
unfolding rank
zeros_before = refl

signs_before : rank (op (SignExt 0)) (byte ∷ []) ≡ Ok byte
unfolding rank
signs_before = refl

left_turn : rank (op (RotL 7)) (byte ∷ []) ≡ Ok byte
unfolding rank
left_turn = refl

right_turn : rank (op (RotR 0)) (byte ∷ []) ≡ Ok byte
unfolding rank
right_turn = refl

read : rank (op Select) (numbers ∷ int ∷ []) ≡ Ok byte
unfolding rank
read = refl

write : rank (op Store) (numbers ∷ int ∷ byte ∷ []) ≡ Ok numbers
unfolding rank
write = refl

everywhere : rank (const_array numbers) (byte ∷ []) ≡ Ok numbers
unfolding rank
everywhere = refl

application : rank (symbol f) (int ∷ bool ∷ []) ≡ Ok byte
unfolding rank
application = refl

constant_symbol : rank (symbol c) ([]) ≡ Ok int
unfolding rank
constant_symbol = refl

-- ---- another number of operands

no_conjunct : rank (op And) ([]) ≡ Err wrong_arity
unfolding rank
no_conjunct = refl

one_conjunct : rank (op And) (bool ∷ []) ≡ Err wrong_arity
unfolding rank
one_conjunct = refl

one_disjunct : rank (op Or) (bool ∷ []) ≡ Err wrong_arity
unfolding rank
one_disjunct = refl

one_summand : rank (op Add) (int ∷ []) ≡ Err wrong_arity
unfolding rank
one_summand = refl

one_factor : rank (op Mul) (int ∷ []) ≡ Err wrong_arity
unfolding rank
one_factor = refl

two_negated : rank (op Not) (bool ∷ bool ∷ []) ≡ Err wrong_arity
unfolding rank
two_negated = refl

three_in_difference : rank (op Sub) (int ∷ int ∷ int ∷ []) ≡ Err wrong_arity
unfolding rank
three_in_difference = refl

three_in_quotient : rank (op Div) (int ∷ int ∷ int ∷ []) ≡ Err wrong_arity
unfolding rank
three_in_quotient = refl

three_in_comparison : rank (op Le) (int ∷ int ∷ int ∷ []) ≡ Err wrong_arity
unfolding rank
three_in_comparison = refl

three_in_equality : rank (op Equal) (int ∷ int ∷ int ∷ []) ≡ Err wrong_arity
unfolding rank
three_in_equality = refl

one_distinct : rank (op Distinct) (int ∷ []) ≡ Err wrong_arity
unfolding rank
one_distinct = refl

three_bv_and : rank (op BvAnd) (byte ∷ byte ∷ byte ∷ []) ≡ Err wrong_arity
unfolding rank
three_bv_and = refl

one_bv_mul : rank (op BvMul) (byte ∷ []) ≡ Err wrong_arity
unfolding rank
one_bv_mul = refl

two_branches : rank (op Ite) (bool ∷ int ∷ []) ≡ Err wrong_arity
unfolding rank
two_branches = refl

constant_with_operand : rank (op (Truth true)) (bool ∷ []) ≡ Err wrong_arity
unfolding rank
constant_with_operand = refl

two_everywhere : rank (const_array numbers) (byte ∷ byte ∷ []) ≡ Err wrong_arity
unfolding rank
two_everywhere = refl

missing_argument : rank (symbol f) (int ∷ []) ≡ Err wrong_arity
unfolding rank
missing_argument = refl

-- ---- the leftmost operand of a wrong sort

-- the number of operands comes first
arity_before_sorts : rank (op And) (int ∷ []) ≡ Err wrong_arity
unfolding rank
arity_before_sorts = refl

leftmost : rank (op Or) (bool ∷ int ∷ byte ∷ []) ≡ Err (wrong_sort 1 int bool)
unfolding rank
leftmost = refl

second_summand : rank (op Add) (int ∷ bool ∷ []) ≡ Err (wrong_sort 1 bool int)
unfolding rank
second_summand = refl

wrong_argument : rank (symbol f) (int ∷ int ∷ []) ≡ Err (wrong_sort 1 int bool)
unfolding rank
wrong_argument = refl

-- what stands to the left fixes what is wanted
unlike : rank (op Equal) (int ∷ bool ∷ []) ≡ Err (wrong_sort 1 bool int)
unfolding rank
unlike = refl

third_unlike : rank (op Distinct) (bool ∷ bool ∷ int ∷ []) ≡ Err (wrong_sort 2 int bool)
unfolding rank
third_unlike = refl

no_condition : rank (op Ite) (int ∷ int ∷ bool ∷ []) ≡ Err (wrong_sort 0 int bool)
unfolding rank
no_condition = refl

unlike_branch : rank (op Ite) (bool ∷ int ∷ byte ∷ []) ≡ Err (wrong_sort 2 byte int)
unfolding rank
unlike_branch = refl

other_width : rank (op BvAdd) (byte ∷ bit_vector 9 ∷ []) ≡ Err (wrong_sort 1 (bit_vector 9) byte)
unfolding rank
other_width = refl

second_no_bits : rank (op BvUlt) (byte ∷ int ∷ []) ≡ Err (wrong_sort 1 int byte)
unfolding rank
second_no_bits = refl

-- where nothing fixes a width, one bit is said to be wanted
no_bits : rank (op BvNot) (int ∷ []) ≡ Err (wrong_sort 0 int (bit_vector 1))
unfolding rank
no_bits = refl

first_no_bits : rank (op BvAdd) (bool ∷ byte ∷ []) ≡ Err (wrong_sort 0 bool (bit_vector 1))
unfolding rank
first_no_bits = refl

first_compared_no_bits : rank (op BvComp) (int ∷ int ∷ []) ≡ Err (wrong_sort 0 int (bit_vector 1))
unfolding rank
first_compared_no_bits = refl

second_joined_no_bits : rank (op Concat) (byte ∷ bool ∷ []) ≡ Err (wrong_sort 1 bool (bit_vector 1))
unfolding rank
second_joined_no_bits = refl

extended_no_bits : rank (op (ZeroExt 1)) (int ∷ []) ≡ Err (wrong_sort 0 int (bit_vector 1))
unfolding rank
extended_no_bits = refl

-- where no array sort is fixed, the operand's own sort is said to be wanted
no_array_read : rank (op Select) (int ∷ int ∷ []) ≡ Err (wrong_sort 0 int int)
unfolding rank
no_array_read = refl

no_array_written : rank (op Store) (byte ∷ int ∷ int ∷ []) ≡ Err (wrong_sort 0 byte byte)
unfolding rank
no_array_written = refl

wrong_index_read : rank (op Select) (numbers ∷ byte ∷ []) ≡ Err (wrong_sort 1 byte int)
unfolding rank
wrong_index_read = refl

wrong_index_written : rank (op Store) (numbers ∷ bool ∷ bool ∷ []) ≡ Err (wrong_sort 1 bool int)
unfolding rank
wrong_index_written = refl

wrong_element : rank (op Store) (numbers ∷ int ∷ int ∷ []) ≡ Err (wrong_sort 2 int byte)
unfolding rank
wrong_element = refl

wrong_filling : rank (const_array numbers) (int ∷ []) ≡ Err (wrong_sort 0 int byte)
unfolding rank
wrong_filling = refl

-- a constant array of another sort than an array's: that sort is what is there
filled_no_array : rank (const_array byte) (int ∷ []) ≡ Err (wrong_sort 0 byte int)
unfolding rank
filled_no_array = refl

-- ---- an index or a constant outside its range

-- the operands' sorts come before an index
sorts_before_index : rank (op (Extract 9 0)) (int ∷ []) ≡ Err (wrong_sort 0 int (bit_vector 1))
unfolding rank
sorts_before_index = refl

extract_all : rank (op (Extract 7 0)) (byte ∷ []) ≡ Ok byte
unfolding rank
extract_all = refl

extract_above : rank (op (Extract 8 0)) (byte ∷ []) ≡ Err bad_index
unfolding rank
extract_above = refl

extract_crossed : rank (op (Extract 2 3)) (byte ∷ []) ≡ Err bad_index
unfolding rank
extract_crossed = refl

left_turn_by_width : rank (op (RotL 8)) (byte ∷ []) ≡ Err bad_index
unfolding rank
left_turn_by_width = refl

right_turn_by_width : rank (op (RotR 8)) (byte ∷ []) ≡ Err bad_index
unfolding rank
right_turn_by_width = refl

greatest_whole : rank (op (Whole (pos (2 ^ 127 - 1)))) ([]) ≡ Ok int
unfolding rank
greatest_whole = refl

least_whole : rank (op (Whole (neg_ℤ (pos (2 ^ 127 - 1))))) ([]) ≡ Ok int
unfolding rank
least_whole = refl

whole_below : rank (op (Whole (neg_ℤ (pos (2 ^ 127))))) ([]) ≡ Err bad_index
unfolding rank
whole_below = refl

no_width : rank (op (Bits 0 0)) ([]) ≡ Err bad_index
unfolding rank
no_width = refl

bits_above : rank (op (Bits 8 256)) ([]) ≡ Err bad_index
unfolding rank
bits_above = refl

widest_bits : rank (op (Bits 128 (2 ^ 128 - 1))) ([]) ≡ Ok (bit_vector 128)
unfolding rank
widest_bits = refl

widest_bits_above : rank (op (Bits 128 (2 ^ 128))) ([]) ≡ Err bad_index
unfolding rank
widest_bits_above = refl

-- ---- more than 128 bits

wide_constant : rank (op (Bits 129 0)) ([]) ≡ Err width_limit
unfolding rank
wide_constant = refl

-- beyond 128 bits a constant's bits aren't looked at
wide_constant_of_many_bits : rank (op (Bits 129 (2 ^ 129))) ([]) ≡ Err width_limit
unfolding rank
wide_constant_of_many_bits = refl

wide_join : rank (op Concat) (bit_vector 65 ∷ bit_vector 64 ∷ []) ≡ Err width_limit
unfolding rank
wide_join = refl

widest_join : rank (op Concat) (bit_vector 64 ∷ bit_vector 64 ∷ []) ≡ Ok (bit_vector 128)
unfolding rank
widest_join = refl

wide_extension : rank (op (SignExt 121)) (byte ∷ []) ≡ Err width_limit
unfolding rank
wide_extension = refl

widest_extension : rank (op (ZeroExt 120)) (byte ∷ []) ≡ Ok (bit_vector 128)
unfolding rank
widest_extension = refl

-- the operators that only a table's nodes carry have no rank as heads
table_operator : rank (op (Sym (record { 0 = 0 }))) ([]) ≡ Err bad_index
unfolding rank
table_operator = refl

-- ---- quantifiers: the variables as constants, and the body last

one_bound : rank_quantifier (p ∷ p ∷ []) (bool ∷ bool ∷ []) ≡ Ok bool
one_bound = refl

two_bound : rank_quantifier (p ∷ b ∷ p ∷ []) (bool ∷ byte ∷ bool ∷ []) ≡ Ok bool
two_bound = refl

only_body : rank_quantifier (p ∷ []) (bool ∷ []) ≡ Err wrong_arity
only_body = refl

nothing : rank_quantifier ([]) ([]) ≡ Err wrong_arity
nothing = refl

no_constant : rank_quantifier (apply (op Not) (p ⨾ none) ∷ p ∷ []) (bool ∷ bool ∷ []) ≡ Err (wrong_sort 0 bool bool)
no_constant = refl

applied : rank_quantifier (apply (symbol f) (constant c ⨾ p ⨾ none) ∷ p ∷ []) (byte ∷ bool ∷ []) ≡ Err (wrong_sort 0 byte bool)
applied = refl

whole_bound : rank_quantifier (p ∷ constant c ∷ p ∷ []) (bool ∷ int ∷ bool ∷ []) ≡ Err (wrong_sort 1 int bool)
whole_bound = refl

-- one name with two sorts is bound twice, too
bound_twice : rank_quantifier (p ∷ b ∷ variable (record { name = codes "p"; sort = byte }) ∷ p ∷ []) (bool ∷ byte ∷ byte ∷ bool ∷ []) ≡ Err (wrong_sort 2 byte bool)
bound_twice = refl

body_of_bits : rank_quantifier (p ∷ b ∷ []) (bool ∷ byte ∷ []) ≡ Err (wrong_sort 1 byte bool)
body_of_bits = refl

variables_before_body : rank_quantifier (constant c ∷ b ∷ []) (int ∷ byte ∷ []) ≡ Err (wrong_sort 0 int bool)
variables_before_body = refl

-- ---- the sort of a term

sort_of_constant : sort_of (constant c) ≡ Some int
unfolding rank
sort_of_constant = refl

sort_of_sum : sort_of (apply (op Add) (constant c ⨾ whole (pos 1) ⨾ none)) ≡ Some int
unfolding rank
sort_of_sum = refl

sort_from_below : sort_of (apply (op Not) (apply (op Add) (constant c ⨾ p ⨾ none) ⨾ none)) ≡ None
unfolding rank
sort_from_below = refl

sort_of_quantified : sort_of (quantified universal (record { name = codes "p"; sort = bool } ∷ []) p) ≡ Some bool
unfolding rank
sort_of_quantified = refl

sort_of_unbound : sort_of (quantified universal [] p) ≡ None
unfolding rank
sort_of_unbound = refl

sort_of_bits_quantified : sort_of (quantified existential (record { name = codes "p"; sort = bool } ∷ []) b) ≡ None
unfolding rank
sort_of_bits_quantified = refl

-- ---- which terms are well sorted

sum_is : is_well_sorted (apply (op Add) (constant c ⨾ whole (negsuc 0) ⨾ none)) ≡ true
unfolding rank is_minus_of
sum_is = refl

wrong_sum_is_not : is_well_sorted (apply (op Add) (constant c ⨾ p ⨾ none)) ≡ false
unfolding rank is_minus_of
wrong_sum_is_not = refl

single_conjunct_is_not : is_well_sorted (apply (op And) (p ⨾ none)) ≡ false
unfolding rank is_minus_of
single_conjunct_is_not = refl

two_names_are : is_well_sorted (quantified existential (record { name = codes "x"; sort = bool } ∷ record { name = codes "y"; sort = byte } ∷ []) p) ≡ true
unfolding rank is_minus_of
two_names_are = refl

one_name_twice_is_not : is_well_sorted (quantified existential (record { name = codes "x"; sort = bool } ∷ record { name = codes "x"; sort = byte } ∷ []) p) ≡ false
unfolding rank is_minus_of
one_name_twice_is_not = refl

whole_variable_is_not : is_well_sorted (quantified universal (record { name = codes "x"; sort = int } ∷ []) p) ≡ false
unfolding rank is_minus_of
whole_variable_is_not = refl

array_variable_is_not : is_well_sorted (quantified universal (record { name = codes "x"; sort = numbers } ∷ []) p) ≡ false
unfolding rank is_minus_of
array_variable_is_not = refl

wide_variable_is_not : is_well_sorted (quantified universal (record { name = codes "x"; sort = bit_vector 129 } ∷ []) p) ≡ false
unfolding rank is_minus_of
wide_variable_is_not = refl

no_variable_is_not : is_well_sorted (quantified universal [] p) ≡ false
unfolding rank is_minus_of
no_variable_is_not = refl

minus_of_variable_is : is_well_sorted (apply (op Neg) (constant c ⨾ none)) ≡ true
unfolding rank is_minus_of
minus_of_variable_is = refl

-- the constant -5 is meant
minus_of_constant_is_not : is_well_sorted (apply (op Neg) (whole (pos 5) ⨾ none)) ≡ false
unfolding rank is_minus_of
minus_of_constant_is_not = refl

minus_of_constant_inside_is_not : is_well_sorted (apply (op Equal) (constant c ⨾ apply (op Neg) (whole (pos 0) ⨾ none) ⨾ none)) ≡ false
unfolding rank is_minus_of
minus_of_constant_inside_is_not = refl

minus_below_quantifier_is_not : is_well_sorted (quantified universal (record { name = codes "x"; sort = bool } ∷ []) (apply (op Le) (constant c ⨾ apply (op Neg) (whole (pos 5) ⨾ none) ⨾ none))) ≡ false
unfolding rank is_minus_of
minus_below_quantifier_is_not = refl

greatest_constant_is : is_well_sorted (whole (pos (2 ^ 127 - 1))) ≡ true
unfolding rank is_minus_of
greatest_constant_is = refl

least_constant_is : is_well_sorted (whole (neg_ℤ (pos (2 ^ 127 - 1)))) ≡ true
unfolding rank is_minus_of
least_constant_is = refl

constant_above_is_not : is_well_sorted (whole (pos (2 ^ 127))) ≡ false
unfolding rank is_minus_of
constant_above_is_not = refl

constant_below_is_not : is_well_sorted (whole (neg_ℤ (pos (2 ^ 127)))) ≡ false
unfolding rank is_minus_of
constant_below_is_not = refl

free_sort_is : is_well_sorted (constant (record { name = codes "e"; args = []; result = free_sort (codes "E") })) ≡ true
unfolding rank is_minus_of
free_sort_is = refl

-- an array sort is no index sort
array_index_is_not : is_well_sorted (constant (record { name = codes "a"; args = []; result = array numbers bool })) ≡ false
unfolding rank is_minus_of
array_index_is_not = refl

array_element_is : is_well_sorted (constant (record { name = codes "a"; args = []; result = array bool numbers })) ≡ true
unfolding rank is_minus_of
array_element_is = refl

no_bits_is_not : is_well_sorted (constant (record { name = codes "a"; args = []; result = bit_vector 0 })) ≡ false
unfolding rank is_minus_of
no_bits_is_not = refl

missing_operand_is_not : is_well_sorted (apply (symbol f) (constant c ⨾ none)) ≡ false
unfolding rank is_minus_of
missing_operand_is_not = refl
