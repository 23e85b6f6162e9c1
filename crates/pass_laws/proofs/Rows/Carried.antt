-- Worked rows of models carried over passes.
use Rattle.std.specs.Prelude.{◌≡◌, ℕ, ◌^◌, ◌-◌, true, false, cond, List, [], ◌∷◌, pos, Option, Some, None, refl}
use Rattle.smt_terms.specs.declared.op.Op.TheVariants.{Mul}
use Rattle.smt_terms.specs.Sorts.{int, bit_vector, Symbol}
use Rattle.smt_terms.specs.Term.{op, Term, apply, none, ◌⨾◌, constant}
use Rattle.smt_terms.specs.BitVectors.{nat2bv}
use Rattle.smt_terms.specs.Connectives.{operator_kind, negated, both, either, equal}
use Rattle.smt_terms.specs.Constants.{literal_value}
use Rattle.smt_terms.specs.Equal.{op_eq, symbol_eq}
use Rattle.smt_terms.specs.Operators.{op_value}
use Rattle.smt_terms.specs.Rank.{rank}
use Rattle.smt_terms.specs.Shapes.{is_ite_operator}
use Rattle.smt_terms.specs.Values.{Value, truth, whole, bits, element, table, no_pairs, pair}
use Rattle.smt_terms.specs.Models.{Row, Graph, NumberGraph, Model}
use Rattle.smt_terms.proofs.Written.{named, flag, function, call, for_all, ite, supply, whole as whole_term}
use Rattle.simplify.specs.Simplify.{law}
use Rattle.script_read.specs.Commands.{declare, assert, check}
use Rattle.pass_laws.specs.declared.names.Pass.TheVariants.{Simplify, Nnf, Ite, Cnf, Ackermann}
use Rattle.pass_laws.specs.Carry.{constant_graph, back, forth, back_stages, forth_stages, too_wide, bits_of_assertion, beyond}
use Rattle.pass_laws.proofs.Rows.Given.{Commands, a, b, f, over_arrays, array_names, u, x, y, h, nested, nested_names, byte, p, v, w, choice, choice_names, g, levels, level_names, outliving, outliving_names}

-- ---- models

abbrev no_rows : NumberGraph
no_rows = record { rows = []; otherwise = pos 0 }

abbrev graph_in : List (Symbol × Graph) → Symbol → Option Graph
graph_in [] s = None
graph_in (e ∷ es) s = cond (symbol_eq e.0 s) (Some e.1) (graph_in es s)

-- two elements in each declared sort
abbrev model : List (Symbol × Graph) → Model
model es = record { sizes = λ s. 2; graphs = graph_in es; div_by_zero = no_rows; mod_by_zero = no_rows }

abbrev with_value : Symbol → Value → Symbol × Graph
with_value s d = (s, constant_graph d)

abbrev row : Value → Value → Row
row k r = record { keys = k ∷ []; result = r }

abbrev graph : List Row → Value → Graph
graph rows d = record { rows = rows; otherwise = d }

abbrev n : ℕ → Value
n i = whole (pos i)

-- ---- a function over arrays

abbrev i0 : Symbol
i0 = named "FV0" int

abbrev i1 : Symbol
i1 = named "FV1" int

abbrev all : ℕ → Value
all i = table (n i) no_pairs

abbrev unlike : Model
unlike = model (with_value a (all 1) ∷ with_value b (all 0) ∷ with_value i0 (n 0) ∷ with_value i1 (n 5) ∷ [])

two_rows : (back (Ackermann ∷ []) over_arrays array_names 1 unlike).graphs f ≡ Some (graph (row (all 1) (n 0) ∷ row (all 0) (n 5) ∷ []) (n 0))
unfolding rank op_eq op_value
two_rows = refl

array_stays : (back (Ackermann ∷ []) over_arrays array_names 1 unlike).graphs a ≡ Some (constant_graph (all 1))
unfolding rank op_eq
array_stays = refl

constant_goes : (back (Ackermann ∷ []) over_arrays array_names 1 unlike).graphs i1 ≡ None
unfolding rank op_eq
constant_goes = refl

-- all keys of Bool written to 1: the same array as the constant one, so the second row has the first one's key
abbrev written : Value
written = table (n 0) (pair (truth true) (n 1) (pair (truth false) (n 1) no_pairs))

abbrev alike : Model
alike = model (with_value a (all 1) ∷ with_value b written ∷ with_value i0 (n 0) ∷ with_value i1 (n 0) ∷ [])

one_row : (back (Ackermann ∷ []) over_arrays array_names 1 alike).graphs f ≡ Some (graph (row (all 1) (n 0) ∷ []) (n 0))
unfolding rank op_eq op_value
one_row = refl

abbrev with_function : Model
with_function = model (with_value a (all 1) ∷ with_value b (all 0) ∷ (f, graph (row (all 1) (n 0) ∷ row (all 0) (n 5) ∷ []) (n 0)) ∷ [])

constant_of_application : (forth (Ackermann ∷ []) over_arrays array_names 1 with_function).graphs i1 ≡ Some (constant_graph (n 5))
unfolding rank op_eq
constant_of_application = refl

function_goes : (forth (Ackermann ∷ []) over_arrays array_names 1 with_function).graphs f ≡ None
unfolding rank op_eq
function_goes = refl

array_stays_forth : (forth (Ackermann ∷ []) over_arrays array_names 1 with_function).graphs b ≡ Some (constant_graph (all 0))
unfolding rank op_eq
array_stays_forth = refl

-- ---- a function of a declared sort, applied to its own result

abbrev e : ℕ → Value
e i = element i

abbrev e0 : Symbol
e0 = named "FV0" u

abbrev e1 : Symbol
e1 = named "FV1" u

abbrev e2 : Symbol
e2 = named "FV2" u

abbrev of_constants : Model
of_constants = model (with_value x (e 0) ∷ with_value y (e 1) ∷ with_value e0 (e 1) ∷ with_value e1 (e 0) ∷ with_value e2 (e 0) ∷ [])

swapping : (back (Ackermann ∷ []) nested nested_names 1 of_constants).graphs h ≡ Some (graph (row (e 0) (e 1) ∷ row (e 1) (e 0) ∷ []) (e 0))
unfolding rank op_eq
swapping = refl

abbrev of_function : Model
of_function = model (with_value x (e 0) ∷ with_value y (e 1) ∷ (h, graph (row (e 0) (e 1) ∷ []) (e 0)) ∷ [])

once : (forth (Ackermann ∷ []) nested nested_names 1 of_function).graphs e0 ≡ Some (constant_graph (e 1))
unfolding rank op_eq
once = refl

twice : (forth (Ackermann ∷ []) nested nested_names 1 of_function).graphs e1 ≡ Some (constant_graph (e 0))
unfolding rank op_eq
twice = refl

once_of_the_other : (forth (Ackermann ∷ []) nested nested_names 1 of_function).graphs e2 ≡ Some (constant_graph (e 0))
unfolding rank op_eq
once_of_the_other = refl

-- ---- three passes: a choice of bit vectors, and clauses

abbrev bits_of : ℕ → Value
bits_of i = bits (nat2bv 8 i)

abbrev c0 : Symbol
c0 = named "FV0" byte

abbrev n1 : Symbol
n1 = flag "FV1"

abbrev n2 : Symbol
n2 = flag "FV2"

abbrev choosing : Model
choosing = model (with_value p (truth true) ∷ with_value v (bits_of 2) ∷ with_value w (bits_of 255) ∷ [])

chosen_first : (forth (Simplify ∷ Ite ∷ Cnf ∷ []) choice choice_names 1 choosing).graphs c0 ≡ Some (constant_graph (bits_of 2))
unfolding law literal_value op_value operator_kind rank op_eq is_ite_operator
chosen_first = refl

first_implication : (forth (Simplify ∷ Ite ∷ Cnf ∷ []) choice choice_names 1 choosing).graphs n1 ≡ Some (constant_graph (truth true))
unfolding law literal_value op_value operator_kind rank op_eq is_ite_operator
first_implication = refl

second_implication : (forth (Simplify ∷ Ite ∷ Cnf ∷ []) choice choice_names 1 choosing).graphs n2 ≡ Some (constant_graph (truth true))
unfolding law literal_value op_value operator_kind rank op_eq is_ite_operator
second_implication = refl

abbrev chosen_too : Model
chosen_too = model (with_value p (truth true) ∷ with_value v (bits_of 2) ∷ with_value w (bits_of 255) ∷ with_value c0 (bits_of 2) ∷ with_value n1 (truth true) ∷ with_value n2 (truth true) ∷ [])

first_name_goes : (back (Simplify ∷ Ite ∷ Cnf ∷ []) choice choice_names 1 chosen_too).graphs c0 ≡ None
unfolding law literal_value op_value operator_kind rank op_eq is_ite_operator
first_name_goes = refl

last_name_goes : (back (Simplify ∷ Ite ∷ Cnf ∷ []) choice choice_names 1 chosen_too).graphs n2 ≡ None
unfolding law literal_value op_value operator_kind rank op_eq is_ite_operator
last_name_goes = refl

vector_stays : (back (Simplify ∷ Ite ∷ Cnf ∷ []) choice choice_names 1 chosen_too).graphs w ≡ Some (constant_graph (bits_of 255))
unfolding law literal_value op_value operator_kind rank op_eq is_ite_operator
vector_stays = refl

-- ---- levels: at the second check the second constant is closed, and at the first the third isn't drawn

abbrev i2 : Symbol
i2 = named "FV2" int

at_second_check : (back (Ackermann ∷ []) levels level_names 2 (model (with_value i0 (n 2) ∷ with_value i2 (n 4) ∷ []))).graphs g ≡ Some (graph (row (n 1) (n 2) ∷ row (n 2) (n 4) ∷ []) (n 0))
unfolding rank op_eq op_value
at_second_check = refl

at_first_check : (back (Ackermann ∷ []) levels level_names 1 (model (with_value i0 (n 2) ∷ with_value i1 (n 3) ∷ []))).graphs g ≡ Some (graph (row (n 1) (n 2) ∷ row (n 2) (n 3) ∷ []) (n 0))
unfolding rank op_eq op_value
at_first_check = refl

not_open : (forth (Ackermann ∷ []) levels level_names 2 (model ((g, graph [] (n 7)) ∷ []))).graphs i1 ≡ None
unfolding rank op_eq
not_open = refl

-- ---- a declared name of a closed level has its sort's default

default_value : (forth (Cnf ∷ []) outliving outliving_names 1 (model (with_value p (truth true) ∷ []))).graphs (flag "FV0") ≡ Some (constant_graph (truth false))
unfolding operator_kind rank op_eq op_value
default_value = refl

-- ---- equivalence passes change nothing

nothing : back (Simplify ∷ Nnf ∷ []) choice choice_names 1 choosing ≡ choosing
unfolding law literal_value op_value operator_kind rank op_eq
nothing = refl

-- ---- whole numbers beyond the range: the operand of an application

abbrev m : Symbol
m = named "x" int

abbrev l : Symbol
l = named "y" int

abbrev k : Symbol
k = function "f" (int ∷ []) int

abbrev product : Term
product = apply (op Mul) (constant m ⨾ constant l ⨾ none)

abbrev multiplied : Commands
multiplied = declare m ∷ declare l ∷ declare k ∷ assert 1 (equal (call k (product ∷ [])) (whole_term 0)) ∷ check ∷ []

abbrev factors : ℕ → ℕ → Model
factors i j = model (with_value m (n i) ∷ with_value l (n j) ∷ with_value i0 (n 0) ∷ [])

beyond_range : beyond (back_stages (Ackermann ∷ []) multiplied (supply ("x" ∷ "y" ∷ "f" ∷ []) 0) 1 (factors (2 ^ 64) (2 ^ 63))) ≡ Some 1
unfolding rank op_eq op_value
beyond_range = refl

within_range : beyond (back_stages (Ackermann ∷ []) multiplied (supply ("x" ∷ "y" ∷ "f" ∷ []) 0) 1 (factors (2 ^ 64) (2 ^ 63 - 1))) ≡ None
unfolding rank op_eq op_value
within_range = refl

row_of_product : (back (Ackermann ∷ []) multiplied (supply ("x" ∷ "y" ∷ "f" ∷ []) 0) 1 (factors (2 ^ 64) (2 ^ 63 - 1))).graphs k ≡ Some (graph (row (n 170141183460469231713240559642174554112) (n 0) ∷ []) (n 0))
unfolding rank op_eq op_value
row_of_product = refl

-- ---- the same of the term of a new symbol

abbrev squared : Commands
squared = declare p ∷ declare m ∷ assert 1 (equal (ite (constant p) (apply (op Mul) (constant m ⨾ constant m ⨾ none)) (whole_term 0)) (whole_term 0)) ∷ check ∷ []

beyond_square : beyond (forth_stages (Ite ∷ []) squared (supply ("p" ∷ "x" ∷ []) 0) 1 (model (with_value p (truth false) ∷ with_value m (n (2 ^ 64)) ∷ []))) ≡ Some 1
unfolding operator_kind rank op_eq op_value is_ite_operator
beyond_square = refl

within_square : beyond (forth_stages (Ite ∷ []) squared (supply ("p" ∷ "x" ∷ []) 0) 1 (model (with_value p (truth false) ∷ with_value m (n 3) ∷ []))) ≡ None
unfolding operator_kind rank op_eq op_value is_ite_operator
within_square = refl

-- ---- more than 16 bits on a path

abbrev wide : ℕ → Commands
wide width =
    declare p
    ∷ assert 1 (either (negated (both (constant p) (for_all (named "v" (bit_vector width) ∷ []) (equal (constant (named "v" (bit_vector width))) (constant (named "v" (bit_vector width))))))) (constant p))
    ∷ check ∷ []

seventeen : too_wide (forth_stages (Cnf ∷ []) (wide 17) (supply ("p" ∷ "v" ∷ []) 0) 1 (model (with_value p (truth true) ∷ []))) ≡ Some 1
unfolding operator_kind rank op_eq
seventeen = refl

seventeen_bits : bits_of_assertion 1 (forth_stages (Cnf ∷ []) (wide 17) (supply ("p" ∷ "v" ∷ []) 0) 1 (model (with_value p (truth true) ∷ []))) ≡ 17
unfolding operator_kind rank op_eq
seventeen_bits = refl

sixteen : too_wide (forth_stages (Cnf ∷ []) (wide 16) (supply ("p" ∷ "v" ∷ []) 0) 1 (model (with_value p (truth true) ∷ []))) ≡ None
unfolding operator_kind rank op_eq
sixteen = refl
