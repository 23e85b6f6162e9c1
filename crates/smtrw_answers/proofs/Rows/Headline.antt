-- What the sentence on rewriting lets through, and what it doesn't: a text is a rewriting of itself by no passes, and one that
-- asserts `false` is none of one that asserts `true`.
use Rattle.std.specs.Prelude.{◌≡◌, ℕ, true, false, List, [], ◌∷◌, pos, codes, None, refl}
use Rattle.std.proofs.Common.{arith}
use Rattle.smt_lex.specs.Names.{is_syntax_word, is_command_word, is_theory_name, is_theory_sort, is_reserved_for_declaring, is_reserved_for_let, is_reserved_for_sorts}
use Rattle.smt_terms.specs.Operators.{op_value}
use Rattle.smt_terms.specs.Rank.{rank}
use Rattle.smt_terms.specs.Models.{NumberGraph, Model, IsModel, IsModelOver}
use Rattle.script_read.specs.Commands.{live}
use Rattle.script_read.specs.Outlines.{supported}
use Rattle.script_read.specs.Script.{fault}
use Rattle.script_read.specs.Scenes.{Asserted, forms_script}
use Rattle.smtrw_answers.specs.Headline.{IsPoint, IsModelAt, MeanTheSame, IsRewriting}

alike : (as_forms : List Asserted) (m : Model) → MeanTheSame as_forms as_forms m
alike [] m = tt
alike (a ∷ as_forms) m = (refl, alike as_forms m)

by_no_passes : (b : List ℕ) → fault b ≡ None → IsRewriting b [] b
by_no_passes b is_accepted =
    record {
      accepted = is_accepted;
      same_points = refl;
      equivalence = λ ps k p. record { signatures = refl; count = refl; meanings = λ m valid. alike (live (forms_script b) k) m };
      translation = λ k p m valid satisfied. (valid, satisfied);
      extension = λ k p m valid satisfied. (valid, satisfied);
    }

-- ---- a false text

abbrev no_rows : NumberGraph
no_rows = record { rows = []; otherwise = pos 0 }

abbrev least_model : Model
least_model = record { sizes = λ s. 1; graphs = λ f. None; div_by_zero = no_rows; mod_by_zero = no_rows }

abbrev asserting_true : List ℕ
asserting_true = codes "(assert true)"

abbrev asserting_false : List ℕ
asserting_false = codes "(assert false)"

least_is_model : IsModel least_model
least_is_model = record { sizes = λ s. omega arith; graphs = λ f. tt; div_by_zero = refl; mod_by_zero = refl }

least_over_nothing : IsModelOver [] [] least_model
least_over_nothing = record { valid = least_is_model; graphs = λ f. refl; sizes = λ s h. refl }

least_at : IsModelAt asserting_true 1 least_model
unfolding is_syntax_word is_command_word supported is_theory_name is_theory_sort is_reserved_for_declaring is_reserved_for_let is_reserved_for_sorts rank
least_at = least_over_nothing

first_point : IsPoint asserting_true 1
unfolding is_syntax_word is_command_word supported is_theory_name is_theory_sort is_reserved_for_declaring is_reserved_for_let is_reserved_for_sorts rank
first_point = (omega arith, omega arith)

false_is_none : IsRewriting asserting_true [] asserting_false → false ≡ true
unfolding is_syntax_word is_command_word supported is_theory_name is_theory_sort is_reserved_for_declaring is_reserved_for_let is_reserved_for_sorts op_value rank
false_is_none r = (r.extension 1 first_point least_model least_at refl).1
