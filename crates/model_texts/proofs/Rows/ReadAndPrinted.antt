-- Worked rows: models of texts, as they are printed again.
use Rattle.std.specs.Prelude.{◌≡◌, [], ◌∷◌, codes, refl}
use Rattle.smt_lex.specs.Names.{is_syntax_word, is_command_word}
use Rattle.smt_terms.specs.Sorts.{Sort, bool, int, bit_vector, array, free_sort}
use Rattle.script_read.specs.Commands.{Signature}
use Rattle.model_texts.proofs.Rows.Given.{constant_named, function_named, symbols_alone, again, read_as}

-- ---- constants

abbrev byte : Signature
byte = symbols_alone (constant_named (codes "x") (bit_vector 8) ∷ [])

binary_digits : again byte (codes "((define-fun x () (_ BitVec 8) #b00000001))")
    ≡ read_as (codes "(" ∷ codes "(define-fun x () (_ BitVec 8) #x01)" ∷ codes ")" ∷ [])
unfolding is_syntax_word is_command_word
binary_digits = refl

capital_digits : again byte (codes "sat (model (define-fun |x| () (|_| BitVec |8|) #xAf))")
    ≡ read_as (codes "(" ∷ codes "(define-fun x () (_ BitVec 8) #xaf)" ∷ codes ")" ∷ [])
unfolding is_syntax_word is_command_word
capital_digits = refl

indexed_constant : again byte (codes "((define-fun x () (_ BitVec 8) (_ bv255 8)))")
    ≡ read_as (codes "(" ∷ codes "(define-fun x () (_ BitVec 8) #xff)" ∷ codes ")" ∷ [])
unfolding is_syntax_word is_command_word
indexed_constant = refl

no_entries : again byte (codes "sat\n()\n")
    ≡ read_as (codes "(" ∷ codes "(define-fun x () (_ BitVec 8) #x00)" ∷ codes ")" ∷ [])
unfolding is_syntax_word is_command_word
no_entries = refl

abbrev two : Signature
two = symbols_alone (constant_named (codes "x") (bit_vector 8) ∷ constant_named (codes "y") int ∷ [])

division : again two (codes "((define-fun y () Int 4) (define-fun x () (_ BitVec 8) #xff) (define-fun @div0 ((n Int)) Int (ite (= n 7) 4 0)))")
    ≡ read_as (codes "(" ∷ codes "(define-fun x () (_ BitVec 8) #xff)" ∷ codes "(define-fun y () Int 4)" ∷ codes "(define-fun @div0 ((x!0 Int)) Int (ite (= x!0 7) 4 0))" ∷ codes ")" ∷ [])
unfolding is_syntax_word is_command_word
division = refl

-- a table without rows that is 0 isn't printed
division_everywhere : again two (codes "((define-fun @mod0 ((a Int)) Int (- 1)) (define-fun @div0 ((a Int)) Int 0) (define-fun y () Int (- 170141183460469231731687303715884105727)))")
    ≡ read_as (codes "(" ∷ codes "(define-fun x () (_ BitVec 8) #x00)" ∷ codes "(define-fun y () Int (- 170141183460469231731687303715884105727))" ∷ codes "(define-fun @mod0 ((x!0 Int)) Int (- 1))" ∷ codes ")" ∷ [])
unfolding is_syntax_word is_command_word
division_everywhere = refl

-- a table with a row is, although that says 0 as well
division_with_a_row : again two (codes "((define-fun @mod0 ((a Int)) Int (ite (= a 0) 0 0)))")
    ≡ read_as (codes "(" ∷ codes "(define-fun x () (_ BitVec 8) #x00)" ∷ codes "(define-fun y () Int 0)" ∷ codes "(define-fun @mod0 ((x!0 Int)) Int (ite (= x!0 0) 0 0))" ∷ codes ")" ∷ [])
unfolding is_syntax_word is_command_word
division_with_a_row = refl

-- the second row for 3 is dropped
division_rows : again two (codes "((define-fun @mod0 ((a Int)) Int (ite (= a 3) 1 (ite (= 3 a) 2 (ite (= a (- 3)) 5 0)))))")
    ≡ read_as (codes "(" ∷ codes "(define-fun x () (_ BitVec 8) #x00)" ∷ codes "(define-fun y () Int 0)" ∷ codes "(define-fun @mod0 ((x!0 Int)) Int (ite (= x!0 3) 1 (ite (= x!0 (- 3)) 5 0)))" ∷ codes ")" ∷ [])
unfolding is_syntax_word is_command_word
division_rows = refl

-- ---- arrays

abbrev numbers : Sort
numbers = array bool int

abbrev arrays : Signature
arrays = symbols_alone (constant_named (codes "a") numbers ∷ constant_named (codes "b") numbers ∷ constant_named (codes "FV0") int ∷ constant_named (codes "FV1") int ∷ [])

constant_arrays : again arrays (codes "((define-fun a () (Array Bool Int) ((as const (Array Bool Int)) 1)) (define-fun b () (Array Bool Int) ((as const (Array Bool Int)) 0)) (define-fun FV0 () Int 0) (define-fun FV1 () Int 5))")
    ≡ read_as (codes "(" ∷ codes "(define-fun a () (Array Bool Int) ((as const (Array Bool Int)) 1))" ∷ codes "(define-fun b () (Array Bool Int) ((as const (Array Bool Int)) 0))" ∷ codes "(define-fun FV0 () Int 0)" ∷ codes "(define-fun FV1 () Int 5)" ∷ codes ")" ∷ [])
unfolding is_syntax_word is_command_word
constant_arrays = refl

-- a key that is there already keeps its place
stores : again arrays (codes "((define-fun a () (Array Bool Int) (store (store (store ((as |const| (Array Bool |Int|)) 0) true 1) false 1) true 2)) (define-fun b () (Array Bool Int) (store (store ((as const (Array Bool Int)) 0) true 1) false 1)))")
    ≡ read_as (codes "(" ∷ codes "(define-fun a () (Array Bool Int) (store (store ((as const (Array Bool Int)) 0) true 2) false 1))" ∷ codes "(define-fun b () (Array Bool Int) (store (store ((as const (Array Bool Int)) 0) true 1) false 1))" ∷ codes "(define-fun FV0 () Int 0)" ∷ codes "(define-fun FV1 () Int 0)" ∷ codes ")" ∷ [])
unfolding is_syntax_word is_command_word
stores = refl

abbrev of_arrays : Signature
of_arrays = symbols_alone (function_named (codes "f") (numbers ∷ []) int ∷ [])

array_keys : again of_arrays (codes "((define-fun f ((x!0 (Array Bool Int))) Int (ite (= x!0 ((as const (Array Bool Int)) 1)) 0 (ite (= x!0 ((as const (Array Bool Int)) 0)) 5 0))))")
    ≡ read_as (codes "(" ∷ codes "(define-fun f ((x!0 (Array Bool Int))) Int (ite (= x!0 ((as const (Array Bool Int)) 1)) 0 (ite (= x!0 ((as const (Array Bool Int)) 0)) 5 0)))" ∷ codes ")" ∷ [])
unfolding is_syntax_word is_command_word
array_keys = refl

-- arrays that agree at every key are the same
same_arrays : again of_arrays (codes "((define-fun f ((x!0 (Array Bool Int))) Int (ite (= x!0 ((as const (Array Bool Int)) 1)) 0 (ite (= x!0 (store (store ((as const (Array Bool Int)) 0) true 1) false 1)) 5 0))))")
    ≡ read_as (codes "(" ∷ codes "(define-fun f ((x!0 (Array Bool Int))) Int (ite (= x!0 ((as const (Array Bool Int)) 1)) 0 0))" ∷ codes ")" ∷ [])
unfolding is_syntax_word is_command_word
same_arrays = refl

-- ---- elements

abbrev elements : Signature
elements = record { sorts = codes "U" ∷ []; symbols = constant_named (codes "x") (free_sort (codes "U")) ∷ constant_named (codes "y") (free_sort (codes "U")) ∷ constant_named (codes "FV0") (free_sort (codes "U")) ∷ [] }

elements_in_order : again elements (codes "((define-fun x () U (as @e U)) (define-fun y () U (as @g U)) (define-fun FV0 () U (as @g U)))")
    ≡ read_as (codes "(" ∷ codes "(@sort U (as @U_0 U) (as @U_1 U))" ∷ codes "(define-fun x () U (as @U_0 U))" ∷ codes "(define-fun y () U (as @U_1 U))" ∷ codes "(define-fun FV0 () U (as @U_1 U))" ∷ codes ")" ∷ [])
unfolding is_syntax_word is_command_word
elements_in_order = refl

-- entries for what isn't live are skipped
elements_of_entries : again elements (codes "((declare-sort U 0) (@sort U (as @g U) (as @h U)) (define-fun x () U (as @e U)) (@sort V (as @i V)) (define-fun zz () U (as @j U)) (@sort |U| (as |@e| U) (as @k |U|)))")
    ≡ read_as (codes "(" ∷ codes "(@sort U (as @U_0 U) (as @U_1 U) (as @U_2 U) (as @U_3 U))" ∷ codes "(define-fun x () U (as @U_2 U))" ∷ codes "(define-fun y () U (as @U_0 U))" ∷ codes "(define-fun FV0 () U (as @U_0 U))" ∷ codes ")" ∷ [])
unfolding is_syntax_word is_command_word
elements_of_entries = refl

abbrev over_elements : Signature
over_elements = record { sorts = codes "U" ∷ []; symbols = function_named (codes "f") (free_sort (codes "U") ∷ []) (free_sort (codes "U")) ∷ constant_named (codes "x") (free_sort (codes "U")) ∷ constant_named (codes "y") (free_sort (codes "U")) ∷ [] }

printed_reads_back : again over_elements (codes "(\n(@sort U (as @U_0 U) (as @U_1 U))\n(define-fun f ((x!0 U)) U (ite (= x!0 (as @U_0 U)) (as @U_1 U) (ite (= x!0 (as @U_1 U)) (as @U_0 U) (as @U_0 U))))\n(define-fun x () U (as @U_0 U))\n(define-fun y () U (as @U_1 U))\n)\n")
    ≡ read_as (codes "(" ∷ codes "(@sort U (as @U_0 U) (as @U_1 U))" ∷ codes "(define-fun f ((x!0 U)) U (ite (= x!0 (as @U_0 U)) (as @U_1 U) (ite (= x!0 (as @U_1 U)) (as @U_0 U) (as @U_0 U))))" ∷ codes "(define-fun x () U (as @U_0 U))" ∷ codes "(define-fun y () U (as @U_1 U))" ∷ codes ")" ∷ [])
unfolding is_syntax_word is_command_word
printed_reads_back = refl

abbrev with_bars : Signature
with_bars = record { sorts = codes "my sort" ∷ []; symbols = constant_named (codes "a b") (free_sort (codes "my sort")) ∷ [] }

names_with_bars : again with_bars (codes "((define-fun |a b| () |my sort| (as @z |my sort|)))")
    ≡ read_as (codes "(" ∷ codes "(@sort |my sort| (as |@my sort_0| |my sort|))" ∷ codes "(define-fun |a b| () |my sort| (as |@my sort_0| |my sort|))" ∷ codes ")" ∷ [])
unfolding is_syntax_word is_command_word
names_with_bars = refl

-- ---- functions

abbrev numbers_alone : Signature
numbers_alone = symbols_alone (constant_named (codes "x") int ∷ constant_named (codes "y") int ∷ constant_named (codes "FV0") int ∷ [])

skipped_entry : again numbers_alone (codes "sat\n(model (define-fun x () Int 2) (define-fun zz () Int 9))")
    ≡ read_as (codes "(" ∷ codes "(define-fun x () Int 2)" ∷ codes "(define-fun y () Int 0)" ∷ codes "(define-fun FV0 () Int 0)" ∷ codes ")" ∷ [])
unfolding is_syntax_word is_command_word
skipped_entry = refl

abbrev one_argument : Signature
one_argument = symbols_alone (function_named (codes "f") (int ∷ []) int ∷ [])

one_row : again one_argument (codes "((define-fun f ((x!0 Int)) Int (ite (= x!0 0) 0 0)))")
    ≡ read_as (codes "(" ∷ codes "(define-fun f ((x!0 Int)) Int (ite (= x!0 0) 0 0))" ∷ codes ")" ∷ [])
unfolding is_syntax_word is_command_word
one_row = refl

great_key : again one_argument (codes "((define-fun f ((x Int)) Int (ite (= 170141183460469231713240559642174554112 x) 0 0)))")
    ≡ read_as (codes "(" ∷ codes "(define-fun f ((x!0 Int)) Int (ite (= x!0 170141183460469231713240559642174554112) 0 0))" ∷ codes ")" ∷ [])
unfolding is_syntax_word is_command_word
great_key = refl

abbrev two_arguments : Signature
two_arguments = symbols_alone (function_named (codes "g") (int ∷ bool ∷ []) bool ∷ [])

-- keys stand in the order of the parameters
two_keys : again two_arguments (codes "((define-fun g ((a Int) (b Bool)) Bool (ite (and b (= a 1)) true (ite (and (= 2 a) (not b)) false (ite (and (= b true) (= a 1)) false true)))))")
    ≡ read_as (codes "(" ∷ codes "(define-fun g ((x!0 Int) (x!1 Bool)) Bool (ite (and (= x!0 1) (= x!1 true)) true (ite (and (= x!0 2) (= x!1 false)) false true)))" ∷ codes ")" ∷ [])
unfolding is_syntax_word is_command_word
two_keys = refl

strange_names : again two_arguments (codes "((define-fun g ((|true| Int) (ite Bool)) |Bool| (ite (and (= true 1) (not ite)) true false)))")
    ≡ read_as (codes "(" ∷ codes "(define-fun g ((x!0 Int) (x!1 Bool)) Bool (ite (and (= x!0 1) (= x!1 false)) true false))" ∷ codes ")" ∷ [])
unfolding is_syntax_word is_command_word
strange_names = refl
