-- Worked rows of checks over bit vectors as texts over truth values, and of their models carried back.
use Rattle.std.specs.Prelude.{◌≡◌, ℕ, List, [], codes, Ok, Some, None, refl}
use Rattle.smt_lex.specs.Names.{is_syntax_word, is_command_word, is_theory_name, is_theory_sort, is_reserved_for_declaring, is_reserved_for_let, is_reserved_for_sorts}
use Rattle.smt_terms.specs.Equal.{op_eq}
use Rattle.smt_terms.specs.Rank.{rank}
use Rattle.smt_terms.specs.Written.{operator_named, written_rank, build}
use Rattle.script_read.specs.Outlines.{supported}
use Rattle.smt_print.specs.TermForms.{operator_form}
use Rattle.bit_blast.specs.Circuits.{circuit}
use Rattle.smtrw_answers.specs.declared.status.Why.TheVariants.{NoSuchCheck}
use Rattle.smtrw_answers.specs.declared.status.Status.TheVariants.{Usage, ModelRefused, PassRefused}
use Rattle.smtrw_answers.specs.Blasting.{blasted_text, unblasted_text}
use Rattle.smtrw_answers.specs.Endings.{blast_end, unblast_end}

-- ---- a bit vector of one bit

abbrev one_bit : List ℕ
one_bit = codes "(declare-fun x () (_ BitVec 1))\n(assert (= (bvadd x #b1) #b0))\n(check-sat)\n"

abbrev bit_true : List ℕ
bit_true = codes "((define-fun FV0 () Bool true))"

a_sum : blasted_text one_bit [] 1 ≡ codes "(declare-fun FV0 () Bool)\n(assert (let ((.def_0 (xor FV0 true))) (let ((.def_1 (xor .def_0 false))) (let ((.def_2 (= .def_1 false))) .def_2))))\n(check-sat)\n"
unfolding is_syntax_word is_command_word supported is_theory_name is_theory_sort is_reserved_for_declaring is_reserved_for_let is_reserved_for_sorts operator_named written_rank build rank op_eq operator_form circuit
a_sum = refl

a_bit : unblasted_text one_bit [] 1 bit_true ≡ Ok (codes "(\n(define-fun x () (_ BitVec 1) #b1)\n)\n")
unfolding is_syntax_word is_command_word supported is_theory_name is_theory_sort is_reserved_for_declaring is_reserved_for_let is_reserved_for_sorts operator_named written_rank build rank op_eq operator_form circuit
a_bit = refl

-- ---- how runs end

well_blasted : blast_end one_bit [] 1 ≡ None
unfolding is_syntax_word is_command_word supported is_theory_name is_theory_sort is_reserved_for_declaring is_reserved_for_let is_reserved_for_sorts operator_named written_rank build rank
well_blasted = refl

no_such_check : blast_end one_bit [] 2 ≡ Some (Usage (record { word = 0; why = NoSuchCheck 2 1 }))
unfolding is_syntax_word is_command_word supported is_theory_name is_theory_sort is_reserved_for_declaring is_reserved_for_let is_reserved_for_sorts operator_named written_rank build rank
no_such_check = refl

whole_numbers : blast_end (codes "(declare-fun x () Int)\n(assert (< x 3))\n(check-sat)\n") [] 1 ≡ Some (PassRefused 90 1)
unfolding is_syntax_word is_command_word supported is_theory_name is_theory_sort is_reserved_for_declaring is_reserved_for_let is_reserved_for_sorts operator_named written_rank build rank
whole_numbers = refl

well_unblasted : unblast_end one_bit [] 1 bit_true ≡ None
unfolding is_syntax_word is_command_word supported is_theory_name is_theory_sort is_reserved_for_declaring is_reserved_for_let is_reserved_for_sorts operator_named written_rank build rank op_eq operator_form circuit
well_unblasted = refl

-- a model's text is one over the truth values
vector_in_model : unblast_end one_bit [] 1 (codes "((define-fun FV0 () (_ BitVec 1) #b1))") ≡ Some (ModelRefused 61 1 1)
unfolding is_syntax_word is_command_word supported is_theory_name is_theory_sort is_reserved_for_declaring is_reserved_for_let is_reserved_for_sorts operator_named written_rank build rank op_eq operator_form circuit
vector_in_model = refl

-- ---- a literal of the check is asserted

a_literal : blasted_text (codes "(declare-fun p () Bool)\n(check-sat-assuming (p))\n") [] 1 ≡ codes "(declare-fun p () Bool)\n(assert p)\n(check-sat)\n"
unfolding is_syntax_word is_command_word supported is_theory_name is_theory_sort is_reserved_for_declaring is_reserved_for_let is_reserved_for_sorts operator_named written_rank build rank op_eq operator_form circuit
a_literal = refl
