-- Worked rows of checks as clauses, and of what solvers answer about them.
use Rattle.std.specs.Prelude.{◌≡◌, ℕ, List, [], codes, Ok, Err, Some, None, refl}
use Rattle.std.specs.Fmt.{digits}
use Rattle.smt_lex.specs.Names.{is_syntax_word, is_command_word, is_theory_name, is_theory_sort, is_reserved_for_declaring, is_reserved_for_let, is_reserved_for_sorts}
use Rattle.smt_terms.specs.Equal.{op_eq}
use Rattle.smt_terms.specs.Rank.{rank}
use Rattle.smt_terms.specs.Written.{operator_named, written_rank, build}
use Rattle.script_read.specs.Outlines.{supported}
use Rattle.smt_print.specs.TermForms.{operator_form}
use Rattle.dimacs_link.specs.AnswerTexts.{reading}
use Rattle.smtrw_answers.specs.declared.status.Why.TheVariants.{NoSuchCheck}
use Rattle.smtrw_answers.specs.declared.status.Status.TheVariants.{Usage, ModelRefused, PassRefused}
use Rattle.smtrw_answers.specs.Endings.{dimacs_end, answer_end}
use Rattle.smtrw_answers.specs.Linking.{linked_text, answer_text}

-- ---- two clauses

abbrev two : List ℕ
two = codes "(declare-fun a () Bool)\n(declare-fun b () Bool)\n(assert (or (not a) b))\n(assert a)\n(check-sat)\n"

abbrev both_true : List ℕ
both_true = codes "s SATISFIABLE\nv 1 2 0\n"

abbrev third : List ℕ
third = codes "s SATISFIABLE\nv 1 3 0\n"

two_linked : linked_text two [] 1 ≡ codes "p cnf 2 2\n-1 2 0\n1 0\n"
unfolding digits is_syntax_word is_command_word supported is_theory_name is_theory_sort is_reserved_for_declaring is_reserved_for_let is_reserved_for_sorts operator_named written_rank build rank op_eq
two_linked = refl

a_model : answer_text two [] 1 both_true ≡ Ok (codes "(\n(define-fun a () Bool true)\n(define-fun b () Bool true)\n)\n")
unfolding reading is_syntax_word is_command_word supported is_theory_name is_theory_sort is_reserved_for_declaring is_reserved_for_let is_reserved_for_sorts operator_named written_rank build rank op_eq operator_form
a_model = refl

no_model : answer_text two [] 1 (codes "c x\n\ns UNSATISFIABLE") ≡ Ok (codes "unsat\n")
unfolding reading is_syntax_word is_command_word supported is_theory_name is_theory_sort is_reserved_for_declaring is_reserved_for_let is_reserved_for_sorts operator_named written_rank build rank op_eq
no_model = refl

not_said : answer_text two [] 1 (codes "s UNKNOWN\n") ≡ Ok (codes "unknown\n")
unfolding reading is_syntax_word is_command_word supported is_theory_name is_theory_sort is_reserved_for_declaring is_reserved_for_let is_reserved_for_sorts operator_named written_rank build rank op_eq
not_said = refl

-- ---- how runs end

well_linked : dimacs_end two [] 1 ≡ None
unfolding is_syntax_word is_command_word supported is_theory_name is_theory_sort is_reserved_for_declaring is_reserved_for_let is_reserved_for_sorts operator_named written_rank build rank op_eq
well_linked = refl

no_such_check : dimacs_end two [] 2 ≡ Some (Usage (record { word = 0; why = NoSuchCheck 2 1 }))
unfolding is_syntax_word is_command_word supported is_theory_name is_theory_sort is_reserved_for_declaring is_reserved_for_let is_reserved_for_sorts operator_named written_rank build rank op_eq
no_such_check = refl

no_clause : dimacs_end (codes "(declare-fun a () Bool)\n(declare-fun b () Bool)\n(assert (and a b))\n(check-sat)\n") [] 1 ≡ Some (PassRefused 96 1)
unfolding is_syntax_word is_command_word supported is_theory_name is_theory_sort is_reserved_for_declaring is_reserved_for_let is_reserved_for_sorts operator_named written_rank build rank op_eq
no_clause = refl

well_answered : answer_end two [] 1 both_true ≡ None
unfolding reading is_syntax_word is_command_word supported is_theory_name is_theory_sort is_reserved_for_declaring is_reserved_for_let is_reserved_for_sorts operator_named written_rank build rank op_eq
well_answered = refl

-- the text has two constants
third_of_two : answer_end two [] 1 third ≡ Some (ModelRefused 95 2 18)
unfolding reading is_syntax_word is_command_word supported is_theory_name is_theory_sort is_reserved_for_declaring is_reserved_for_let is_reserved_for_sorts operator_named written_rank build rank op_eq
third_of_two = refl

refused_place : answer_text two [] 1 third ≡ Err 18
unfolding reading is_syntax_word is_command_word supported is_theory_name is_theory_sort is_reserved_for_declaring is_reserved_for_let is_reserved_for_sorts operator_named written_rank build rank op_eq
refused_place = refl
