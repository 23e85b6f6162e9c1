-- Worked rows of texts of models that are carried over passes.
use Rattle.std.specs.Prelude.{◌≡◌, ℕ, List, [], ◌∷◌, codes, Ok, Err, refl}
use Rattle.smt_lex.specs.Names.{is_syntax_word, is_command_word, is_theory_name, is_theory_sort, is_reserved_for_declaring, is_reserved_for_let, is_reserved_for_sorts}
use Rattle.smt_terms.specs.Connectives.{operator_kind}
use Rattle.smt_terms.specs.Constants.{literal_value}
use Rattle.smt_terms.specs.Equal.{op_eq}
use Rattle.smt_terms.specs.Operators.{op_value}
use Rattle.smt_terms.specs.Rank.{rank}
use Rattle.smt_terms.specs.Shapes.{is_ite_operator}
use Rattle.smt_terms.specs.Written.{operator_named, written_rank, build}
use Rattle.simplify.specs.Simplify.{law}
use Rattle.script_read.specs.Outlines.{supported}
use Rattle.smt_print.specs.TermForms.{operator_form}
use Rattle.model_texts.specs.ModelText.{model_of}
use Rattle.model_texts.specs.Refusals.{model_number, refused}
use Rattle.pass_laws.specs.declared.names.Pass.TheVariants.{Simplify, Ite, Cnf, Ackermann}
use Rattle.smtrw_answers.specs.Carrying.{signature_behind, translated_text, extended_text}

-- ---- a function of a declared sort

abbrev nested : List ℕ
nested = codes "(declare-sort U 0)\n(declare-fun f (U) U)\n(declare-fun x () U)\n(declare-fun y () U)\n(assert (= (f (f x)) x))\n(assert (= (f y) x))\n(check-sat)\n"

elements : translated_text nested (Ackermann ∷ []) 1 (codes "((define-fun x () U (as @e U)) (define-fun y () U (as @g U)) (define-fun FV0 () U (as @g U)) (define-fun FV1 () U (as @e U)) (define-fun FV2 () U (as @e U)))") ≡ Ok (codes "(\n(@sort U (as @U_0 U) (as @U_1 U))\n(define-fun f ((x!0 U)) U (ite (= x!0 (as @U_0 U)) (as @U_1 U) (ite (= x!0 (as @U_1 U)) (as @U_0 U) (as @U_0 U))))\n(define-fun x () U (as @U_0 U))\n(define-fun y () U (as @U_1 U))\n)\n")
unfolding is_syntax_word is_command_word supported is_theory_name is_theory_sort is_reserved_for_declaring is_reserved_for_let is_reserved_for_sorts operator_named written_rank build rank op_eq op_value operator_form
elements = refl

-- ---- three passes

abbrev choice : List ℕ
choice = codes "(set-info :source |written by hand; x: |)\n(set-logic QF_BV)\n(declare-fun p () Bool)\n(declare-fun x () (_ BitVec 8))\n(declare-fun y () (_ BitVec 8))\n(assert (let ((.def_0 (ite p x y))) (let ((.def_1 (bvult .def_0 (_ bv3 8)))) .def_1)))\n(check-sat)\n(exit)\n ]] not examined\n"

abbrev chosen : List ℕ
chosen = codes "(\n(define-fun p () Bool true)\n(define-fun x () (_ BitVec 8) #x02)\n(define-fun y () (_ BitVec 8) #xff)\n)\n"

abbrev with_names : List ℕ
with_names = codes "(\n(define-fun p () Bool true)\n(define-fun x () (_ BitVec 8) #x02)\n(define-fun y () (_ BitVec 8) #xff)\n(define-fun FV0 () (_ BitVec 8) #x02)\n(define-fun FV1 () Bool true)\n(define-fun FV2 () Bool true)\n)\n"

extension : extended_text choice (Simplify ∷ Ite ∷ Cnf ∷ []) 1 (codes "((define-fun p () Bool true) (define-fun x () (_ BitVec 8) #x02) (define-fun y () (_ BitVec 8) #xff))") ≡ Ok with_names
unfolding law literal_value operator_kind is_ite_operator is_syntax_word is_command_word supported is_theory_name is_theory_sort is_reserved_for_declaring is_reserved_for_let is_reserved_for_sorts operator_named written_rank build rank op_eq op_value operator_form
extension = refl

translation : translated_text choice (Simplify ∷ Ite ∷ Cnf ∷ []) 1 with_names ≡ Ok chosen
unfolding law literal_value operator_kind is_ite_operator is_syntax_word is_command_word supported is_theory_name is_theory_sort is_reserved_for_declaring is_reserved_for_let is_reserved_for_sorts operator_named written_rank build rank op_eq op_value operator_form
translation = refl

-- ---- a symbol declared anew, at the second check

abbrev anew : List ℕ
anew = codes "(push 1)\n(declare-fun x () Int)\n(assert (< x 3))\n(check-sat)\n(pop 1)\n(declare-fun x () (_ BitVec 8))\n(assert (bvult x #x03))\n(check-sat)\n"

second_check : translated_text anew [] 2 (codes "((define-fun x () (_ BitVec 8) #b00000001))") ≡ Ok (codes "(\n(define-fun x () (_ BitVec 8) #x01)\n)\n")
unfolding is_syntax_word is_command_word supported is_theory_name is_theory_sort is_reserved_for_declaring is_reserved_for_let is_reserved_for_sorts operator_named written_rank build rank op_eq op_value operator_form
second_check = refl

-- ---- division by zero

divided : translated_text (codes "(declare-fun x () (_ BitVec 8))\n(declare-fun y () Int)\n(assert (= (bvudiv #x05 #x00) x))\n(assert (= y (div 7 0)))\n(check-sat)\n") (Simplify ∷ []) 1 (codes "((define-fun y () Int 4) (define-fun x () (_ BitVec 8) #xff) (define-fun @div0 ((n Int)) Int (ite (= n 7) 4 0)))") ≡ Ok (codes "(\n(define-fun x () (_ BitVec 8) #xff)\n(define-fun y () Int 4)\n(define-fun @div0 ((x!0 Int)) Int (ite (= x!0 7) 4 0))\n)\n")
unfolding law literal_value is_syntax_word is_command_word supported is_theory_name is_theory_sort is_reserved_for_declaring is_reserved_for_let is_reserved_for_sorts operator_named written_rank build rank op_eq op_value operator_form
divided = refl

-- ---- levels, at the second check

levels : translated_text (codes "(declare-fun g (Int) Int)\n(assert (= (g 1) 2))\n(push 1)\n(assert (= (g 2) 3))\n(check-sat)\n(pop 1)\n(assert (= (g 2) 4))\n(check-sat)\n") (Ackermann ∷ []) 2 (codes "((define-fun FV0 () Int 2) (define-fun FV2 () Int 4))") ≡ Ok (codes "(\n(define-fun g ((x!0 Int)) Int (ite (= x!0 1) 2 (ite (= x!0 2) 4 0)))\n)\n")
unfolding is_syntax_word is_command_word supported is_theory_name is_theory_sort is_reserved_for_declaring is_reserved_for_let is_reserved_for_sorts operator_named written_rank build rank op_eq op_value operator_form
levels = refl

-- ---- declarations that outlive their level

outliving : extended_text (codes "(set-option :global-declarations true)\n(push 1)\n(declare-fun p () Bool)\n(assert (not (and p p)))\n(pop 1)\n(assert p)\n(check-sat)\n") (Cnf ∷ []) 1 (codes "((define-fun p () Bool true))") ≡ Ok (codes "(\n(define-fun p () Bool true)\n(define-fun FV0 () Bool false)\n)\n")
unfolding operator_kind is_syntax_word is_command_word supported is_theory_name is_theory_sort is_reserved_for_declaring is_reserved_for_let is_reserved_for_sorts operator_named written_rank build rank op_eq op_value operator_form
outliving = refl

-- ---- an extended value, and one beyond the range, whose text wouldn't be read

abbrev squared : List ℕ
squared = codes "(declare-fun p () Bool)\n(declare-fun x () Int)\n(assert (= (ite p (* x x) 0) 0))\n(check-sat)\n"

square : extended_text squared (Ite ∷ []) 1 (codes "((define-fun p () Bool false) (define-fun x () Int 3))") ≡ Ok (codes "(\n(define-fun p () Bool false)\n(define-fun x () Int 3)\n(define-fun FV0 () Int 0)\n)\n")
unfolding operator_kind is_ite_operator is_syntax_word is_command_word supported is_theory_name is_theory_sort is_reserved_for_declaring is_reserved_for_let is_reserved_for_sorts operator_named written_rank build rank op_eq op_value operator_form
square = refl

abbrev beyond_range : List ℕ
beyond_range = codes "(\n(define-fun p () Bool true)\n(define-fun x () Int 18446744073709551616)\n(define-fun FV0 () Int 340282366920938463463374607431768211456)\n)\n"

great_square : extended_text squared (Ite ∷ []) 1 (codes "((define-fun p () Bool true) (define-fun x () Int 18446744073709551616))") ≡ Ok beyond_range
unfolding operator_kind is_ite_operator is_syntax_word is_command_word supported is_theory_name is_theory_sort is_reserved_for_declaring is_reserved_for_let is_reserved_for_sorts operator_named written_rank build rank op_eq op_value operator_form
great_square = refl

great_square_refused : model_of beyond_range (signature_behind squared (Ite ∷ []) 1) ≡ Err (refused (record { cause = model_number; line = 4; byte = 96 }))
unfolding operator_kind is_ite_operator is_syntax_word is_command_word supported is_theory_name is_theory_sort is_reserved_for_declaring is_reserved_for_let is_reserved_for_sorts operator_named written_rank build rank op_eq op_value operator_form
great_square_refused = refl
