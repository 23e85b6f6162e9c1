-- Worked rows of how a run ends by its texts.
use Rattle.std.specs.Prelude.{◌≡◌, ℕ, List, [], ◌∷◌, codes, Option, Some, None, refl}
use Rattle.smt_lex.specs.Names.{is_syntax_word, is_command_word, is_theory_name, is_theory_sort, is_reserved_for_declaring, is_reserved_for_let, is_reserved_for_sorts}
use Rattle.smt_terms.specs.Connectives.{operator_kind}
use Rattle.smt_terms.specs.Equal.{op_eq}
use Rattle.smt_terms.specs.Operators.{op_value}
use Rattle.smt_terms.specs.Rank.{rank}
use Rattle.smt_terms.specs.Shapes.{is_ite_operator}
use Rattle.smt_terms.specs.Written.{operator_named, written_rank, build}
use Rattle.script_read.specs.Outlines.{supported}
use Rattle.smt_print.specs.TermForms.{operator_form}
use Rattle.pass_laws.specs.declared.names.Pass.TheVariants.{Ite, Cnf, Ackermann}
use Rattle.smtrw_answers.specs.declared.status.Why.TheVariants.{NoSuchCheck}
use Rattle.smtrw_answers.specs.declared.status.Status.{Status}
use Rattle.smtrw_answers.specs.declared.status.Status.TheVariants.{Refused, Usage, ModelRefused, Beyond128, PassRefused}
use Rattle.smtrw_answers.specs.Endings.{script_end, rewrite_end, translate_end, extend_end}

abbrev refused : ℕ → ℕ → ℕ → ℕ → Option Status
refused code command line byte = Some (Refused (record { code = code; command = command; line = line; byte = byte }))

-- ---- the script

popped_too_far : rewrite_end (codes "(push 1)\n(pop 2)\n") [] ≡ refused 36 2 2 9
unfolding is_syntax_word is_command_word supported is_theory_name is_theory_sort is_reserved_for_declaring is_reserved_for_let is_reserved_for_sorts operator_named written_rank build rank
popped_too_far = refl

not_a_literal : rewrite_end (codes "(declare-fun a () Bool)\n(check-sat-assuming (a (not (not a))))\n") [] ≡ refused 32 2 2 47
unfolding is_syntax_word is_command_word supported is_theory_name is_theory_sort is_reserved_for_declaring is_reserved_for_let is_reserved_for_sorts operator_named written_rank build rank
not_a_literal = refl

not_closed : script_end (codes "(assert a") ≡ refused 13 0 1 9
not_closed = refl

backslash : script_end (codes "|a\\b|") ≡ refused 10 0 1 2
backslash = refl

open_text : script_end (codes "(echo \"x)") ≡ refused 12 0 1 6
open_text = refl

leading_zero : script_end (codes "007") ≡ refused 11 0 1 0
leading_zero = refl

nothing : rewrite_end [] [] ≡ None
nothing = refl

-- ---- the check's number, and then the model

abbrev anew : List ℕ
anew = codes "(push 1)\n(declare-fun x () Int)\n(assert (< x 3))\n(check-sat)\n(pop 1)\n(declare-fun x () (_ BitVec 8))\n(assert (bvult x #x03))\n(check-sat)\n"

abbrev one : List ℕ
one = codes "((define-fun x () (_ BitVec 8) #b00000001))"

wrong_sort : translate_end anew [] 1 one ≡ Some (ModelRefused 61 1 1)
unfolding is_syntax_word is_command_word supported is_theory_name is_theory_sort is_reserved_for_declaring is_reserved_for_let is_reserved_for_sorts operator_named written_rank build rank operator_form
wrong_sort = refl

right_sort : translate_end anew [] 2 one ≡ None
unfolding is_syntax_word is_command_word supported is_theory_name is_theory_sort is_reserved_for_declaring is_reserved_for_let is_reserved_for_sorts operator_named written_rank build rank operator_form
right_sort = refl

no_such_check : translate_end anew [] 3 one ≡ Some (Usage (record { word = 0; why = NoSuchCheck 3 2 }))
unfolding is_syntax_word is_command_word supported is_theory_name is_theory_sort is_reserved_for_declaring is_reserved_for_let is_reserved_for_sorts operator_named written_rank build rank operator_form
no_such_check = refl

-- ---- the passes

quantified_use : rewrite_end (codes "(declare-fun g (Bool) Bool) (assert (forall ((z Bool)) (= (g z) z)))") (Ackermann ∷ []) ≡ Some (PassRefused 50 1)
unfolding is_syntax_word is_command_word supported is_theory_name is_theory_sort is_reserved_for_declaring is_reserved_for_let is_reserved_for_sorts operator_named written_rank build rank op_eq
quantified_use = refl

-- ---- terms that have to be evaluated

abbrev multiplied : List ℕ
multiplied = codes "(declare-fun x () Int)\n(declare-fun y () Int)\n(declare-fun f (Int) Int)\n(assert (= (f (* x y)) 0))\n(check-sat)\n"

beyond_range : translate_end multiplied (Ackermann ∷ []) 1 (codes "((define-fun x () Int 18446744073709551616) (define-fun y () Int 9223372036854775808))") ≡ Some (Beyond128 1)
unfolding is_syntax_word is_command_word supported is_theory_name is_theory_sort is_reserved_for_declaring is_reserved_for_let is_reserved_for_sorts operator_named written_rank build rank op_eq op_value operator_form
beyond_range = refl

within_range : translate_end multiplied (Ackermann ∷ []) 1 (codes "((define-fun x () Int 18446744073709551616) (define-fun y () Int 9223372036854775807))") ≡ None
unfolding is_syntax_word is_command_word supported is_theory_name is_theory_sort is_reserved_for_declaring is_reserved_for_let is_reserved_for_sorts operator_named written_rank build rank op_eq op_value operator_form
within_range = refl

given_twice : translate_end multiplied (Ackermann ∷ []) 1 (codes "sat\n(model (define-fun x () Int 2) (define-fun zz () Int 9) (define-fun x () Int 3))") ≡ Some (ModelRefused 64 2 60)
unfolding is_syntax_word is_command_word supported is_theory_name is_theory_sort is_reserved_for_declaring is_reserved_for_let is_reserved_for_sorts operator_named written_rank build rank op_eq op_value operator_form
given_twice = refl

too_many_bits : extend_end (codes "(declare-fun p () Bool)\n(assert (or (not (and p (forall ((v (_ BitVec 17))) (= v v)))) p))\n(check-sat)\n") (Cnf ∷ []) 1 (codes "((define-fun p () Bool true))") ≡ Some (PassRefused 71 1)
unfolding operator_kind is_syntax_word is_command_word supported is_theory_name is_theory_sort is_reserved_for_declaring is_reserved_for_let is_reserved_for_sorts operator_named written_rank build rank op_eq operator_form
too_many_bits = refl

abbrev squared : List ℕ
squared = codes "(declare-fun p () Bool)\n(declare-fun x () Int)\n(assert (= (ite p (* x x) 0) 0))\n(check-sat)\n"

-- the value that isn't chosen counts too
square_beyond_range : extend_end squared (Ite ∷ []) 1 (codes "((define-fun p () Bool false) (define-fun x () Int 18446744073709551616))") ≡ Some (Beyond128 1)
unfolding operator_kind is_ite_operator is_syntax_word is_command_word supported is_theory_name is_theory_sort is_reserved_for_declaring is_reserved_for_let is_reserved_for_sorts operator_named written_rank build rank op_eq op_value operator_form
square_beyond_range = refl

square_within_range : extend_end squared (Ite ∷ []) 1 (codes "((define-fun p () Bool false) (define-fun x () Int 3))") ≡ None
unfolding operator_kind is_ite_operator is_syntax_word is_command_word supported is_theory_name is_theory_sort is_reserved_for_declaring is_reserved_for_let is_reserved_for_sorts operator_named written_rank build rank op_eq op_value operator_form
square_within_range = refl
