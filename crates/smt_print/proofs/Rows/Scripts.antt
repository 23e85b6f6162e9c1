-- Worked rows: texts of scripts, as they are printed when they were read.
use Rattle.std.specs.Prelude.{◌≡◌, ℕ, List, [], ◌∷◌, ◌++◌, Result, Ok, Err, codes, refl}
use Rattle.smt_lex.specs.Lexicon.{line_feed}
use Rattle.smt_lex.specs.Names.{is_syntax_word, is_command_word, is_theory_name, is_theory_sort, is_reserved_for_declaring, is_reserved_for_let, is_reserved_for_sorts}
use Rattle.smt_terms.specs.Equal.{op_eq}
use Rattle.smt_terms.specs.Fresh.{Supply}
use Rattle.smt_terms.specs.Rank.{rank}
use Rattle.smt_terms.specs.Term.{Term}
use Rattle.smt_terms.specs.Written.{operator_named, written_rank, build}
use Rattle.script_read.specs.Commands.{Command}
use Rattle.script_read.specs.Outlines.{supported}
use Rattle.script_terms.specs.Refusals.{Unaccepted}
use Rattle.script_read.specs.Script.{script}
use Rattle.smt_print.specs.declared.layout.Layout.{Layout}
use Rattle.smt_print.specs.declared.layout.Layout.TheVariants.{Tree, Dag}
use Rattle.smt_print.specs.TermForms.{operator_form}
use Rattle.smt_print.specs.Text.{lines}

-- what was read, printed; nothing where it is refused
abbrev lines_of : Layout → Result (List (Command Term) × Supply) Unaccepted → List ℕ
lines_of layout (Ok r) = lines layout r.0
lines_of layout (Err fault) = []

abbrev again : Layout → List ℕ → List ℕ
again layout bytes = lines_of layout (script bytes)

abbrev lines_from : List (List ℕ) → List ℕ
lines_from [] = []
lines_from (l ∷ ls) = l ++ line_feed ∷ lines_from ls

-- ---- commands that are passed on, and the others

passed_on : again Tree (codes "( set-logic\n QF_BV ) (set-info  :source |a  b;|) (set-info :k ( a ( b ) \"c  \"\"d\" ()))(set-option :o 1.50)(get-info :name) (echo \"x\")\t(get-model); a comment\n")
    ≡ lines_from (codes "(set-logic QF_BV)" ∷ codes "(set-info :source |a  b;|)" ∷ codes "(set-info :k (a (b) \"c  \"\"d\" ()))" ∷ codes "(set-option :o 1.50)" ∷ codes "(get-info :name)" ∷ codes "(echo \"x\")" ∷ codes "(get-model)" ∷ [])
unfolding supported is_syntax_word is_command_word is_theory_name is_theory_sort is_reserved_for_declaring is_reserved_for_let is_reserved_for_sorts operator_named written_rank build rank operator_form
passed_on = refl

commands : again Tree (codes "(set-option :global-declarations true)(declare-sort U 0)(define-sort V () U)(declare-sort |a sort| 0)(declare-const c Bool)(declare-fun f (V (Array Int |a sort|)) (_ BitVec 8))(push)(pop 1)(push 2)(check-sat)(check-sat-assuming ())(check-sat-assuming ( c (not  c)))(reset-assertions)(reset)(set-option :global-declarations false)(exit) ]] not examined")
    ≡ lines_from (codes "(set-option :global-declarations true)" ∷ codes "(declare-sort U 0)" ∷ codes "(declare-sort |a sort| 0)" ∷ codes "(declare-fun c () Bool)" ∷ codes "(declare-fun f (U (Array Int |a sort|)) (_ BitVec 8))" ∷ codes "(push 1)" ∷ codes "(pop 1)" ∷ codes "(push 2)" ∷ codes "(check-sat)" ∷ codes "(check-sat-assuming ())" ∷ codes "(check-sat-assuming (c (not c)))" ∷ codes "(reset-assertions)" ∷ codes "(reset)" ∷ codes "(set-option :global-declarations false)" ∷ codes "(exit)" ∷ [])
unfolding supported is_syntax_word is_command_word is_theory_name is_theory_sort is_reserved_for_declaring is_reserved_for_let is_reserved_for_sorts operator_named written_rank build rank operator_form
commands = refl

-- ---- scripts with assertions

bars : again Tree (codes "(declare-const |let| Bool) (declare-fun |abc| () Bool) (assert (or |let| abc))")
    ≡ lines_from (codes "(declare-fun |let| () Bool)" ∷ codes "(declare-fun abc () Bool)" ∷ codes "(assert (or |let| abc))" ∷ [])
unfolding supported is_syntax_word is_command_word is_theory_name is_theory_sort is_reserved_for_declaring is_reserved_for_let is_reserved_for_sorts operator_named written_rank build rank operator_form
bars = refl

parallel_let : again Tree (codes "(declare-const x Int)(declare-const y Int)(assert (let ((x y) (y x)) (< x (+ y 1))))")
    ≡ lines_from (codes "(declare-fun x () Int)" ∷ codes "(declare-fun y () Int)" ∷ codes "(assert (< y (+ x 1)))" ∷ [])
unfolding supported is_syntax_word is_command_word is_theory_name is_theory_sort is_reserved_for_declaring is_reserved_for_let is_reserved_for_sorts operator_named written_rank build rank operator_form
parallel_let = refl

renamed_variable : again Tree (codes "(assert (forall ((x Bool)) (let ((y x)) (exists ((x Bool)) (xor x y)))))")
    ≡ lines_from (codes "(assert (forall ((x Bool)) (exists ((FV0 Bool)) (xor FV0 x))))" ∷ [])
unfolding supported is_syntax_word is_command_word is_theory_name is_theory_sort is_reserved_for_declaring is_reserved_for_let is_reserved_for_sorts operator_named written_rank build rank operator_form
renamed_variable = refl

expanded_definition : again Tree (codes "(define-fun f ((a Bool)) Bool (exists ((x Bool)) (xor x a)))\n(assert (forall ((x Bool)) (f x)))")
    ≡ lines_from (codes "(assert (forall ((x Bool)) (exists ((FV0 Bool)) (xor FV0 x))))" ∷ [])
unfolding supported is_syntax_word is_command_word is_theory_name is_theory_sort is_reserved_for_declaring is_reserved_for_let is_reserved_for_sorts operator_named written_rank build rank operator_form op_eq
expanded_definition = refl

-- in the other layout literals stay as they are
as_graphs : again Dag (codes "(declare-const c Bool)(assert c)(assert (and (not c) (not c)))(check-sat-assuming ((not c)))")
    ≡ lines_from (codes "(declare-fun c () Bool)" ∷ codes "(assert c)" ∷ codes "(assert (let ((.def_0 (not c))) (let ((.def_1 (and .def_0 .def_0))) .def_1)))" ∷ codes "(check-sat-assuming ((not c)))" ∷ [])
unfolding supported is_syntax_word is_command_word is_theory_name is_theory_sort is_reserved_for_declaring is_reserved_for_let is_reserved_for_sorts operator_named written_rank build rank operator_form op_eq
as_graphs = refl
