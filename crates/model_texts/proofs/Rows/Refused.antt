-- Worked rows: what texts of models are refused for.
use Rattle.std.specs.Prelude.{◌≡◌, [], ◌∷◌, Some, None, codes, refl}
use Rattle.smt_lex.specs.Lex.{bad_byte, bad_token, open_text, unbalanced}
use Rattle.smt_lex.specs.Names.{is_syntax_word, is_command_word}
use Rattle.smt_terms.specs.Sorts.{bool, int, bit_vector, array, free_sort}
use Rattle.script_read.specs.Commands.{Signature}
use Rattle.model_texts.specs.Refusals.{model_form, model_sort, not_a_table, model_number, model_twice, unread}
use Rattle.model_texts.proofs.Rows.Given.{constant_named, function_named, Cases, refusal, found, wanted}

abbrev signature : Signature
signature = record {
  sorts = codes "U" ∷ [];
  symbols = constant_named (codes "x") int ∷ constant_named (codes "v") (bit_vector 8) ∷ constant_named (codes "u") (free_sort (codes "U"))
      ∷ constant_named (codes "m") (array int bool) ∷ function_named (codes "f") (int ∷ bool ∷ []) int ∷ [];
}

abbrev tokens : Cases
tokens =
    (codes "(", Some (unread (unbalanced 1) 1))
    ∷ (codes "()\n)", Some (unread (unbalanced 3) 2))
    ∷ (codes "(007)", Some (unread (bad_token 1) 1))
    ∷ (codes "(\n [)", Some (unread (bad_byte 3) 2))
    ∷ (codes "(\"a", Some (unread (open_text 1) 1))
    ∷ []

of_tokens : found signature tokens ≡ wanted tokens
unfolding is_syntax_word is_command_word
of_tokens = refl

abbrev shapes_of_texts : Cases
shapes_of_texts =
    (codes "", refusal model_form 1 0)
    ∷ (codes "sat\n", refusal model_form 2 4)
    ∷ (codes "unsat ()", refusal model_form 1 0)
    ∷ (codes "sat sat ()", refusal model_form 1 4)
    ∷ (codes "|sat| ()", refusal model_form 1 0)
    ∷ (codes "() ()", refusal model_form 1 3)
    ∷ (codes "sat () sat", refusal model_form 1 7)
    ∷ (codes "(model model)", refusal model_form 1 7)
    ∷ (codes "(|model|)", refusal model_form 1 1)
    ∷ (codes "(define-fun)", refusal model_form 1 1)
    ∷ (codes "((define-fun x () Int true)) ()", refusal model_sort 1 22)
    ∷ (codes "(foo) ()", refusal model_form 1 1)
    ∷ (codes "sat (model)", None)
    ∷ []

of_shapes_of_texts : found signature shapes_of_texts ≡ wanted shapes_of_texts
unfolding is_syntax_word is_command_word
of_shapes_of_texts = refl

abbrev shapes_of_entries : Cases
shapes_of_entries =
    (codes "(())", refusal model_form 1 1)
    ∷ (codes "(5)", refusal model_form 1 1)
    ∷ (codes "((define-fun x () Int))", refusal model_form 1 1)
    ∷ (codes "((define-fun x () Int 1 2))", refusal model_form 1 1)
    ∷ (codes "((define-fun x Int 1))", refusal model_form 1 1)
    ∷ (codes "((define-fun 5 () Int 1))", refusal model_form 1 1)
    ∷ (codes "((|define-fun| x () Int 1))", refusal model_form 1 1)
    ∷ (codes "((define-fun zz ((a Int) (a Bool)) Int 0))", refusal model_form 1 1)
    ∷ (codes "((define-fun f (a b) Int 0))", refusal model_form 1 1)
    ∷ (codes "((define-fun f ((5 Int) (b Bool)) Int 0))", refusal model_form 1 1)
    ∷ (codes "((define-const x Int 1))", refusal model_form 1 1)
    ∷ (codes "((declare-sort S 1))", refusal model_form 1 1)
    ∷ (codes "((declare-sort S))", refusal model_form 1 1)
    ∷ (codes "((declare-sort 5 0))", refusal model_form 1 1)
    ∷ (codes "((@sort))", refusal model_form 1 1)
    ∷ (codes "((define-fun x () Int 1)\n (define-fun zz ((a 5) (|b| (Foo))) \"s\" (bar)) (x))", refusal model_form 2 72)
    ∷ []

of_shapes_of_entries : found signature shapes_of_entries ≡ wanted shapes_of_entries
unfolding is_syntax_word is_command_word
of_shapes_of_entries = refl

abbrev sorts_of_entries : Cases
sorts_of_entries =
    (codes "((define-fun x () Bool true))", refusal model_sort 1 1)
    ∷ (codes "((define-fun x ((a Int)) Int 1))", refusal model_sort 1 1)
    ∷ (codes "((define-fun f ((a Int)) Int 1))", refusal model_sort 1 1)
    ∷ (codes "((define-fun f ((a Bool) (b Int)) Int 1))", refusal model_sort 1 1)
    ∷ (codes "((define-fun v () (_ BitVec 16) #x0000))", refusal model_sort 1 1)
    ∷ (codes "((define-fun @div0 () Int 1))", refusal model_sort 1 1)
    ∷ (codes "((define-fun x () Real foo))", refusal model_sort 1 1)
    ∷ (codes "((define-fun m () (Array Int) foo))", refusal model_sort 1 1)
    ∷ []

of_sorts_of_entries : found signature sorts_of_entries ≡ wanted sorts_of_entries
unfolding is_syntax_word is_command_word
of_sorts_of_entries = refl

abbrev sorts_of_values : Cases
sorts_of_values =
    (codes "((define-fun x () Int true))", refusal model_sort 1 22)
    ∷ (codes "((define-fun x () Int #b1))", refusal model_sort 1 22)
    ∷ (codes "((define-fun v () (_ BitVec 8) #b1))", refusal model_sort 1 31)
    ∷ (codes "((define-fun v () (_ BitVec 8) (_ bv256 7)))", refusal model_sort 1 31)
    ∷ (codes "((define-fun v () (_ BitVec 8) (_ bv1 0)))", refusal model_sort 1 31)
    ∷ (codes "((define-fun v () (_ BitVec 8) 12))", refusal model_sort 1 31)
    ∷ (codes "((define-fun u () U (as @e V)))", refusal model_sort 1 20)
    ∷ (codes "((define-fun u () U 1))", refusal model_sort 1 20)
    ∷ (codes "((define-fun x () Int (as @e Int)))", refusal model_sort 1 22)
    ∷ (codes "((define-fun x () Int ((as const (Array Int Int)) foo)))", refusal model_sort 1 22)
    ∷ (codes "((define-fun m () (Array Int Bool) ((as const (Array Bool Int)) foo)))", refusal model_sort 1 35)
    ∷ (codes "((define-fun m () (Array Int Bool) ((as const (Array Int Bool)) 1)))", refusal model_sort 1 64)
    ∷ (codes "((define-fun x () Int (store foo bar true)))", refusal model_sort 1 22)
    ∷ (codes "((define-fun m () (Array Int Bool) (store ((as const (Array Int Bool)) true) true 1)))", refusal model_sort 1 77)
    ∷ (codes "((@sort U (as @a U) true))", refusal model_sort 1 20)
    ∷ (codes "((define-fun u () U 170141183460469231731687303715884105728))", refusal model_sort 1 20)
    ∷ (codes "((define-fun f ((a Int) (b Bool)) Int (ite (and (= a false) b) foo 0)))", refusal model_sort 1 53)
    ∷ (codes "((define-fun f ((a Int) (b Bool)) Int (ite (and (= a 1) b) true 0)))", refusal model_sort 1 59)
    ∷ []

of_sorts_of_values : found signature sorts_of_values ≡ wanted sorts_of_values
unfolding is_syntax_word is_command_word
of_sorts_of_values = refl

abbrev neither_values_nor_tables : Cases
neither_values_nor_tables =
    (codes "((define-fun x () Int (+ 1 2)))", refusal not_a_table 1 22)
    ∷ (codes "((define-fun x () Int 1.5))", refusal not_a_table 1 22)
    ∷ (codes "((define-fun x () Int x))", refusal not_a_table 1 22)
    ∷ (codes "((define-fun x () Int \"1\"))", refusal not_a_table 1 22)
    ∷ (codes "((define-fun x () Int (- x)))", refusal not_a_table 1 22)
    ∷ (codes "((define-fun x () Int (- 1 2)))", refusal not_a_table 1 22)
    ∷ (codes "((define-fun x () Int ()))", refusal not_a_table 1 22)
    ∷ (codes "((define-fun x () Int let))", refusal not_a_table 1 22)
    ∷ (codes "((define-fun v () (_ BitVec 8) (_ bv1)))", refusal not_a_table 1 31)
    ∷ (codes "((define-fun v () (_ BitVec 8) (_ bv01 8)))", refusal not_a_table 1 31)
    ∷ (codes "((define-fun v () (_ BitVec 8) (_ bv x)))", refusal not_a_table 1 31)
    ∷ (codes "((define-fun u () U (as e U)))", refusal not_a_table 1 20)
    ∷ (codes "((define-fun u () U @e))", refusal not_a_table 1 20)
    ∷ (codes "((define-fun u () U (|as| @e U)))", refusal not_a_table 1 20)
    ∷ (codes "((@sort U foo))", refusal not_a_table 1 10)
    ∷ (codes "((define-fun m () (Array Int Bool) (store foo 1 true)))", refusal not_a_table 1 42)
    ∷ (codes "((define-fun m () (Array Int Bool) (store ((as const (Array Int Bool)) true) 1)))", refusal not_a_table 1 35)
    ∷ (codes "((define-fun m () (Array Int Bool) ((as const) true)))", refusal not_a_table 1 35)
    ∷ []

of_neither_values_nor_tables : found signature neither_values_nor_tables ≡ wanted neither_values_nor_tables
unfolding is_syntax_word is_command_word
of_neither_values_nor_tables = refl

abbrev conditions : Cases
conditions =
    (codes "((define-fun f ((a Int) (b Bool)) Int (ite (= a 1) 2 3)))", refusal not_a_table 1 43)
    ∷ (codes "((define-fun f ((a Int) (b Bool)) Int (ite (and (= a 1) (= a 2) b) 2 3)))", refusal not_a_table 1 43)
    ∷ (codes "((define-fun f ((a Int) (b Bool)) Int (ite (and (= a 1) b (not b)) 2 3)))", refusal not_a_table 1 43)
    ∷ (codes "((define-fun f ((a Int) (b Bool)) Int (ite (and (= a 1) (< a 2)) 2 3)))", refusal not_a_table 1 43)
    ∷ (codes "((define-fun f ((a Int) (b Bool)) Int (ite (and b a) 2 3)))", refusal not_a_table 1 43)
    ∷ (codes "((define-fun f ((a Int) (b Bool)) Int (ite (and (not a) b) 2 3)))", refusal not_a_table 1 43)
    ∷ (codes "((define-fun f ((a Int) (b Bool)) Int (ite (and (= a foo) (= 1 2)) 2 3)))", refusal not_a_table 1 43)
    ∷ (codes "((define-fun f ((a Int) (b Bool)) Int (ite (and (= a b) b) 2 3)))", refusal not_a_table 1 53)
    ∷ (codes "((define-fun f ((a Int) (b Bool)) Int (ite (and (= (+ 1 1) a) b) 2 3)))", refusal not_a_table 1 51)
    ∷ (codes "((define-fun f ((a Int) (b Bool)) Int (ite (and) 2 3)))", refusal not_a_table 1 43)
    ∷ (codes "((define-fun f ((a Int) (b Bool)) Int (ite (and (and (= a 1) b)) 2 3)))", refusal not_a_table 1 43)
    ∷ (codes "((define-fun f ((a Int) (b Bool)) Int (ite (and (= a 1 1) b) 2 3)))", refusal not_a_table 1 43)
    ∷ (codes "((define-fun f ((a Int) (b Bool)) Int (ite true 2 3)))", refusal not_a_table 1 43)
    ∷ (codes "((define-fun f ((a Int) (b Bool)) Int (ite (and b (= a 1)) a 3)))", refusal not_a_table 1 59)
    ∷ (codes "((define-fun f ((a Int) (b Bool)) Int (ite (and b (= a 1)) 2 a)))", refusal not_a_table 1 61)
    ∷ (codes "((define-fun f ((a Int) (b Bool)) Int (ite (and b (= a 1)) 2 (ite b 3 4))))", refusal not_a_table 1 66)
    ∷ (codes "((define-fun f ((a Int) (b Bool)) Int (ite (and b (= a 1)) 2)))", refusal not_a_table 1 38)
    ∷ (codes "((define-fun x () Int (ite true 1 2)))", refusal not_a_table 1 27)
    ∷ (codes "((define-fun x () Int (ite (and) 1 2)))", refusal not_a_table 1 27)
    ∷ []

of_conditions : found signature conditions ≡ wanted conditions
unfolding is_syntax_word is_command_word
of_conditions = refl

abbrev numbers : Cases
numbers =
    (codes "((define-fun x () Int 170141183460469231731687303715884105728))", refusal model_number 1 22)
    ∷ (codes "((define-fun x () Int (- 170141183460469231731687303715884105728)))", refusal model_number 1 22)
    ∷ (codes "((define-fun v () (_ BitVec 8) (_ bv256 8)))", refusal model_number 1 31)
    ∷ (codes "((define-fun f ((a Int) (b Bool)) Int (ite (and (= 170141183460469231731687303715884105728 a) b) true 3)))", refusal model_number 1 51)
    ∷ (codes "((define-fun x () Int 170141183460469231731687303715884105727) (define-fun v () (_ BitVec 8) (_ bv255 8)))", None)
    ∷ []

of_numbers : found signature numbers ≡ wanted numbers
unfolding is_syntax_word is_command_word
of_numbers = refl

abbrev second_entries : Cases
second_entries =
    (codes "sat\n(model (define-fun x () Int 2) (define-fun zz () Int 9) (define-fun x () Int 3))", refusal model_twice 2 60)
    ∷ (codes "((define-fun x () Int 2)\n(define-fun x () Bool foo))", refusal model_twice 2 25)
    ∷ (codes "((define-fun @div0 ((n Int)) Int 1) (define-fun @div0 () Int 1))", refusal model_twice 1 36)
    ∷ (codes "((define-fun zz () Int 2) (define-fun zz () Bool 3) (@sort U) (@sort U (as @a U)) (define-fun @mod0 ((n Int)) Int 1) (define-fun @div0 ((n Int)) Int 1))", None)
    ∷ []

of_second_entries : found signature second_entries ≡ wanted second_entries
unfolding is_syntax_word is_command_word
of_second_entries = refl
