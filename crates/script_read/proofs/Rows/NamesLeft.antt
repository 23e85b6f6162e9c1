-- Worked rows: the names in commands, and the names that are left behind a text.
use Rattle.std.specs.Prelude.{◌≡◌, [], ◌∷◌, codes, flat_map, refl, Some, option_map}
use Rattle.smt_lex.specs.Names.{is_command_word, is_syntax_word, is_theory_name, is_theory_sort, is_reserved_for_declaring, is_reserved_for_let, is_reserved_for_sorts}
use Rattle.smt_terms.specs.Fresh.{next_name}
use Rattle.smt_terms.specs.Rank.{rank}
use Rattle.smt_terms.specs.Sorts.{bool, int}
use Rattle.smt_terms.specs.Term.{universal, quantified, constant}
use Rattle.smt_terms.specs.Connectives.{negated}
use Rattle.smt_terms.specs.Written.{operator_named}
use Rattle.script_read.specs.Commands.{declare_sort, declare, assert, check_assuming, push}
use Rattle.script_read.specs.Laws.{names_in_command}
use Rattle.script_read.specs.Outlines.{supported}
use Rattle.script_read.specs.Script.{script}
use Rattle.script_read.proofs.Rows.Given.{read_as, supply_of, symbol_named, constant_named, variable_named, call}

of_a_declaration : names_in_command (declare (symbol_named (codes "f") (int ∷ []) bool)) ≡ codes "f" ∷ []
of_a_declaration = refl

-- names of sorts aren't names of symbols
of_a_sort : names_in_command (declare_sort (codes "S")) ≡ []
of_a_sort = refl

of_an_assertion : names_in_command (assert 1 (quantified universal (variable_named (codes "x") bool ∷ []) (call (symbol_named (codes "p") (bool ∷ []) bool) (constant (constant_named (codes "y") bool))))) ≡ codes "x" ∷ codes "p" ∷ codes "y" ∷ []
of_an_assertion = refl

of_literals : names_in_command (check_assuming (constant (constant_named (codes "a") bool) ∷ negated (constant (constant_named (codes "b") bool)) ∷ [])) ≡ codes "a" ∷ codes "b" ∷ []
of_literals = refl

of_a_push : names_in_command (push 2) ≡ []
of_a_push = refl

-- `FV0` is declared, so the quantified `FV0` is drawn again, and `FV2` is left
drawn : flat_map names_in_command (read_as (codes "(declare-const FV0 Bool)(assert (exists ((FV0 Bool)) FV0))")) ≡ codes "FV0" ∷ codes "FV1" ∷ codes "FV1" ∷ []
unfolding is_command_word is_syntax_word supported is_theory_name is_theory_sort is_reserved_for_declaring is_reserved_for_let is_reserved_for_sorts operator_named rank
drawn = refl

left : option_map next_name (supply_of (script (codes "(declare-const FV0 Bool)(assert (exists ((FV0 Bool)) FV0))"))) ≡ Some (codes "FV2")
unfolding is_command_word is_syntax_word supported is_theory_name is_theory_sort is_reserved_for_declaring is_reserved_for_let is_reserved_for_sorts operator_named rank
left = refl
