-- The whole numbers of a model that was lifted can be read where those of the model of truth values can.
use Rattle.std.proofs.Common.{◌≡◌, refl, Bool, true, false, cond, List, [], ◌∷◌, Some, None}
use Rattle.std.specs.Prelude.{IfSome}
use Rattle.std.specs.List.{list_any}
use Rattle.smt_terms.specs.Equal.{symbol_eq}
use Rattle.smt_terms.specs.Groups.{Named}
use Rattle.smt_terms.specs.Models.{Model}
use Rattle.smt_terms.specs.Sorts.{Sort, bool, int, bit_vector, array, free_sort, Symbol}
use Rattle.smt_terms.proofs.Tests.{and_true}
use Rattle.model_texts.specs.Laws.{is_readable, is_readable_graph}
use Rattle.bit_blast.specs.Carried.{everywhere, lifted_value, lifted}
use Rattle.smtrw_answers.proofs.ReadableValues.{of_sort_readable, IsReadableModel, graph_readable}

value_readable : (ns : Named) (m : Model) → IsReadableModel m → (f : Symbol) (args : List Sort) (result : Sort) → is_readable (lifted_value ns m f args result) ≡ true
value_readable ns m is f [] bool = graph_readable f m.sizes (m.graphs f) [] (is.graphs f)
value_readable ns m is f [] int = refl
value_readable ns m is f [] (bit_vector width) = refl
value_readable ns m is f [] (free_sort n) = refl
value_readable ns m is f [] (array i e) = of_sort_readable (array i e)
value_readable ns m is f (s ∷ ss) result = of_sort_readable result

graph_lifted : (symbols : List Symbol) (ns : Named) (m : Model) → IsReadableModel m → (f : Symbol) → IfSome ((lifted symbols ns m).graphs f) (λ g. is_readable_graph g ≡ true)
graph_lifted symbols ns m is f = by (list_any (symbol_eq f) symbols)
  where
    by : (b : Bool) → IfSome (cond b (Some (everywhere (lifted_value ns m f f.args f.result))) None) (λ g. is_readable_graph g ≡ true)
    by true = and_true true (is_readable (lifted_value ns m f f.args f.result)) refl (value_readable ns m is f f.args f.result)
    by false = tt

pub lifted_readable : (symbols : List Symbol) (ns : Named) (m : Model) → IsReadableModel m → IsReadableModel (lifted symbols ns m)
lifted_readable symbols ns m is = record { graphs = graph_lifted symbols ns m is; div_by_zero = refl; mod_by_zero = refl }
