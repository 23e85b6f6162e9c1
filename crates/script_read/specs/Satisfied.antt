-- Satisfaction of commands with terms: every live assertion and every literal of a point is true in a model.
use Rattle.std.specs.Prelude.{ℕ, Bool, ◌&&◌, List}
use Rattle.std.specs.List.{list_all}
use Rattle.smt_terms.specs.Models.{Model}
use Rattle.smt_terms.specs.Term.{Term}
use Rattle.smt_terms.specs.Val.{no_variables, val}
use Rattle.smt_terms.specs.Values.{is_true}
use Rattle.script_read.specs.Commands.{Command, live, literals}

abbrev pub is_true_in : Model → Term → Bool
is_true_in m t = is_true (val m t no_variables)

abbrev pub sat : Model → List (Command Term) → ℕ → Bool
sat m cs k = list_all (is_true_in m) (live cs k) && list_all (is_true_in m) (literals cs k)
