-- The tables of functions whose applications gave way to constants (SMT-LIB 2.6, section 5.3): a row for each application, with
-- the values of its operands as keys and the value of its constant as result.
use Rattle.std.specs.Prelude.{Bool, false, cond, List, [], ◌∷◌, ◌++◌, flat_map}
use Rattle.std.specs.List.{list_any}
use Rattle.smt_terms.specs.Sorts.{Sort, Symbol}
use Rattle.smt_terms.specs.Term.{Head, op, symbol, const_array, Term, apply, quantified, list, constant}
use Rattle.smt_terms.specs.Equal.{symbol_eq}
use Rattle.smt_terms.specs.Groups.{Named, with_constants_each}
use Rattle.smt_terms.specs.Values.{Sizes, all_same, default_value}
use Rattle.smt_terms.specs.Models.{Row, Graph, Model}
use Rattle.smt_terms.specs.Val.{no_variables, val, vals}

abbrev pub applies : Symbol → Head → Bool
applies f (op o) = false
applies f (symbol g) = symbol_eq f g
applies f (const_array s) = false

-- the operands of an application, in which applications gave way to their constants
abbrev pub operands_of : Named → Term → List Term
operands_of ns (apply h ts) = list (with_constants_each ns ts)
operands_of ns (quantified q xs t) = []

-- the row of an application of f with its constant v: the values of its operands, in which applications gave way to their
-- constants, and the value of the constant
abbrev pub application_row : Model → Named → Symbol → Symbol → Term → List Row
application_row m ns f v (apply h ts) =
    cond (applies f h)
    (record { keys = vals m (with_constants_each ns ts) no_variables; result = val m (constant v) no_variables } ∷ [])
    []
application_row m ns f v (quantified q xs t) = []

-- the rows with one more, unless its keys are there already
abbrev pub with_row : List Sort → Sizes → List Row → Row → List Row
with_row args sizes rows r = cond (list_any (λ q. all_same args sizes q.keys r.keys) rows) rows (rows ++ r ∷ [])

abbrev pub with_rows : List Sort → Sizes → List Row → List Row → List Row
with_rows args sizes rows [] = rows
with_rows args sizes rows (r ∷ rs) = with_rows args sizes (with_row args sizes rows r) rs

-- a row for each live application of the function, in the order drawn
abbrev pub application_graph : Model → Named → Symbol → Graph
application_graph m ns f =
    record { rows = with_rows f.args m.sizes [] (flat_map (λ n. application_row m ns f n.0 n.1) ns); otherwise = default_value f.result }
