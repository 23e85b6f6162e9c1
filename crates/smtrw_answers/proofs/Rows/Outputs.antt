-- Worked rows of what the commands write.
use Rattle.std.specs.Prelude.{◌≡◌, [], ◌∷◌, length, codes, refl}
use Rattle.smt_lex.specs.Names.{is_syntax_word, is_command_word, is_theory_name, is_theory_sort, is_reserved_for_declaring, is_reserved_for_let, is_reserved_for_sorts}
use Rattle.smt_terms.specs.Connectives.{operator_kind}
use Rattle.smt_terms.specs.Constants.{literal_value}
use Rattle.smt_terms.specs.Equal.{op_eq}
use Rattle.smt_terms.specs.Operators.{op_value}
use Rattle.smt_terms.specs.Rank.{rank}
use Rattle.smt_terms.specs.Written.{operator_named, written_rank, build}
use Rattle.simplify.specs.Simplify.{law}
use Rattle.script_read.specs.Outlines.{supported}
use Rattle.smt_print.specs.TermForms.{operator_form}
use Rattle.smtrw_answers.specs.Outputs.{count_line, stats_lines, next_state, drawn, step_at, steps_from, demo_script, demo_line}

-- ---- the numbers of a script

exchanged : stats_lines (codes "(declare-fun x () Int)\n(declare-fun y () Int)\n(assert (let ((x y) (y x)) (< x (+ y 1))))\n") ≡ codes "commands 3\ndeclarations 2\nassertions 1\nchecks 0\nnodes 5\n"
unfolding count_line is_syntax_word is_command_word supported is_theory_name is_theory_sort is_reserved_for_declaring is_reserved_for_let is_reserved_for_sorts operator_named written_rank build rank op_eq
exchanged = refl

-- definitions, sorts and `exit` are commands and no declarations; nodes are shared by assertions; a variable is a node
several : stats_lines (codes "(declare-sort S 0)(declare-const a Bool)(define-fun f ((x Bool)) Bool (not x))(assert (f a))(assert (or a (not a)))(assert (forall ((x Bool)) (or x a)))(check-sat-assuming (a))(check-sat)(exit)(nothing") ≡ codes "commands 9\ndeclarations 1\nassertions 3\nchecks 2\nnodes 6\n"
unfolding count_line is_syntax_word is_command_word supported is_theory_name is_theory_sort is_reserved_for_declaring is_reserved_for_let is_reserved_for_sorts operator_named written_rank build rank op_eq
several = refl

-- ---- the demonstration

first_draws : drawn 1 ∷ drawn (next_state 1) ∷ drawn (next_state (next_state 1)) ∷ [] ≡ 16838 ∷ 5758 ∷ 10113 ∷ []
first_draws = refl

first_term : step_at 1 0 ≡ codes "(xor b6 b1)"
first_term = refl

one_step : steps_from 1 0 1 ≡ codes "(let ((t0 (xor b6 b1))) t0)"
one_step = refl

bytes_in : length (demo_script 1 1) ≡ 267
bytes_in = refl

line_of_one_step : demo_line 1 1 ≡ codes "demo seed 1 size 1: 267 bytes in, 6 assertions out, 761 bytes out\n"
unfolding law literal_value op_value operator_kind is_syntax_word is_command_word supported is_theory_name is_theory_sort is_reserved_for_declaring is_reserved_for_let is_reserved_for_sorts operator_named written_rank build rank op_eq operator_form
line_of_one_step = refl
