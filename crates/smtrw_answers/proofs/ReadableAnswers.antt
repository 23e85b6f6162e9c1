-- The values of a model that truth values stand for can be read.
use Rattle.std.proofs.Common.{◌≡◌, refl, Bool, true, false, if◌then◌else◌, List, Option, Some, None}
use Rattle.std.specs.Prelude.{IfSome}
use Rattle.std.specs.List.{list_any}
use Rattle.smt_terms.specs.Equal.{symbol_eq}
use Rattle.smt_terms.specs.Sorts.{Sort, Symbol}
use Rattle.smt_terms.specs.Values.{default_value}
use Rattle.smt_terms.proofs.Tests.{and_true}
use Rattle.script_read.specs.Commands.{Signature}
use Rattle.models.specs.GraphRows.{default_graph}
use Rattle.model_texts.specs.Laws.{is_readable, is_readable_graph}
use Rattle.dimacs_link.specs.AnswerModels.{value_of, given_graph, answered}
use Rattle.smtrw_answers.proofs.ReadableValues.{of_sort_readable, IsReadableModel}

graph_given : (o : Option Bool) (b : Bool) (s : Sort) → IfSome (given_graph o (if b then Some (default_graph s) else None)) (λ g. is_readable_graph g ≡ true)
graph_given (Some v) b s = refl
graph_given None true s = and_true true (is_readable (default_value s)) refl (of_sort_readable s)
graph_given None false s = tt

pub answered_readable : (sig : Signature) (cs : List Symbol) (vs : List Bool) → IsReadableModel (answered sig cs vs)
answered_readable sig cs vs = record {
  graphs = λ f. graph_given (value_of cs vs f) (list_any (symbol_eq f) sig.symbols) f.result;
  div_by_zero = refl;
  mod_by_zero = refl;
}
