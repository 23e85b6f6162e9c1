-- Worked rows of what is told of removed applications: one is on the outer level, one on an inner level that is closed before the
-- second check, and one inside another comes behind it.
use Rattle.std.specs.Prelude.{◌≡◌, ℕ, cond, List, [], ◌∷◌, pos, Option, Some, None, refl}
use Rattle.smt_terms.specs.Equal.{op_eq, symbol_eq}
use Rattle.smt_terms.specs.Fresh.{Supply}
use Rattle.smt_terms.specs.Groups.{Named}
use Rattle.smt_terms.specs.Models.{Row, Graph, NumberGraph, Model}
use Rattle.smt_terms.specs.Operators.{op_value}
use Rattle.smt_terms.specs.Rank.{rank}
use Rattle.smt_terms.specs.Sorts.{int, Symbol}
use Rattle.smt_terms.specs.Term.{Term, constant}
use Rattle.smt_terms.specs.Connectives.{equal}
use Rattle.smt_terms.specs.Values.{Value, whole}
use Rattle.smt_terms.proofs.Written.{named, function, call, supply, whole as whole_term}
use Rattle.script_read.specs.Commands.{Command, declare, assert, check, push, pop}
use Rattle.pass_laws.specs.declared.names.Pass.TheVariants.{Ackermann}
use Rattle.pass_laws.specs.Carry.{Asked, constant_graph}
use Rattle.pass_laws.specs.LiveGroups.{Drawn, all_told, met_at, Operands, removed_operands, with_tables, with_met_alone, asked_back_by}
use Rattle.pass_laws.specs.Passed.{replacements}
use Rattle.pass_laws.proofs.Rows.Given.{Commands}

abbrev f : Symbol
f = function "f" (int ∷ []) int

abbrev g : Symbol
g = function "g" (int ∷ []) int

abbrev of : Symbol → Term → Term
of h t = call h (t ∷ [])

abbrev closing : Commands
closing =
    declare g
    ∷ assert 1 (equal (of g (whole_term 1)) (whole_term 2))
    ∷ push 1
    ∷ declare f
    ∷ assert 2 (equal (of f (of g (whole_term 1))) (whole_term 3))
    ∷ check
    ∷ pop 1
    ∷ assert 3 (equal (of g (of g (whole_term 2))) (whole_term 4))
    ∷ check ∷ []

abbrev names : Supply
names = supply ("f" ∷ "g" ∷ "Int" ∷ "=" ∷ []) 0

abbrev i0 : Symbol
i0 = named "FV0" int

abbrev i1 : Symbol
i1 = named "FV1" int

abbrev i2 : Symbol
i2 = named "FV2" int

abbrev i3 : Symbol
i3 = named "FV3" int

-- ---- what is told

abbrev drawn : ℕ → Named → Drawn
drawn i ns = record { number = i; symbols = ns }

abbrev outer : Drawn
outer = drawn 1 ((i0, of g (whole_term 1)) ∷ [])

abbrev inner : Drawn
inner = drawn 2 ((i1, of f (of g (whole_term 1))) ∷ [])

abbrev last : Drawn
last = drawn 3 ((i2, of g (whole_term 2)) ∷ (i3, of g (of g (whole_term 2))) ∷ [])

abbrev steps : List (Command Drawn)
steps = declare g ∷ assert 1 outer ∷ push 1 ∷ declare f ∷ assert 2 inner ∷ check ∷ pop 1 ∷ assert 3 last ∷ check ∷ []

told_steps : all_told (replacements Ackermann closing names).0 ≡ steps
unfolding rank op_eq
told_steps = refl

-- ---- what is met

both_levels : (met_at 1 steps).live ≡ outer ∷ inner ∷ []
both_levels = refl

both_functions : (met_at 1 steps).functions ≡ g ∷ f ∷ []
both_functions = refl

open_levels_alone : (met_at 2 steps).live ≡ outer ∷ last ∷ []
open_levels_alone = refl

-- a function goes with the level that declares it
open_functions_alone : (met_at 2 steps).functions ≡ g ∷ []
open_functions_alone = refl

-- ---- what took the places of operands

abbrev ops : Operands
ops = removed_operands closing names

written_operand : ops i0 ≡ whole_term 1 ∷ []
unfolding rank op_eq
written_operand = refl

constant_of_the_outer_level : ops i1 ≡ constant i0 ∷ []
unfolding rank op_eq
constant_of_the_outer_level = refl

constant_of_the_same_assertion : ops i3 ≡ constant i2 ∷ []
unfolding rank op_eq
constant_of_the_same_assertion = refl

of_no_constant : ops g ≡ []
unfolding rank op_eq
of_no_constant = refl

-- ---- the terms that are evaluated

abbrev asked : ℕ → Term → Asked
asked i t = record { number = i; term = t }

asked_first : asked_back_by (Some ops) (met_at 1 steps) ≡ asked 1 (whole_term 1) ∷ asked 2 (constant i0) ∷ []
unfolding rank op_eq
asked_first = refl

asked_second : asked_back_by (Some ops) (met_at 2 steps) ≡ asked 1 (whole_term 1) ∷ asked 3 (whole_term 2) ∷ asked 3 (constant i2) ∷ []
unfolding rank op_eq
asked_second = refl

-- ---- tables

abbrev no_rows : NumberGraph
no_rows = record { rows = []; otherwise = pos 0 }

abbrev graph_in : List (Symbol × Graph) → Symbol → Option Graph
graph_in [] s = None
graph_in (e ∷ es) s = cond (symbol_eq e.0 s) (Some e.1) (graph_in es s)

abbrev model : List (Symbol × Graph) → Model
model es = record { sizes = λ s. 2; graphs = graph_in es; div_by_zero = no_rows; mod_by_zero = no_rows }

abbrev n : ℕ → Value
n i = whole (pos i)

abbrev with_value : Symbol → ℕ → Symbol × Graph
with_value s i = (s, constant_graph (n i))

abbrev row : ℕ → ℕ → Row
row k r = record { keys = n k ∷ []; result = n r }

abbrev graph : List Row → Graph
graph rows = record { rows = rows; otherwise = n 0 }

abbrev first : Model
first = model (with_value i0 2 ∷ with_value i1 3 ∷ [])

abbrev second : Model
second = model (with_value i0 2 ∷ with_value i2 3 ∷ with_value i3 4 ∷ [])

outer_row : (with_tables ops steps (met_at 1 steps) first).graphs g ≡ Some (graph (row 1 2 ∷ []))
unfolding rank op_eq op_value
outer_row = refl

inner_row : (with_tables ops steps (met_at 1 steps) first).graphs f ≡ Some (graph (row 2 3 ∷ []))
unfolding rank op_eq op_value
inner_row = refl

rows_of_open_levels : (with_tables ops steps (met_at 2 steps) second).graphs g ≡ Some (graph (row 1 2 ∷ row 2 3 ∷ row 3 4 ∷ []))
unfolding rank op_eq op_value
rows_of_open_levels = refl

-- equal operands have one row, that of the application that came first
one_row : (with_tables ops steps (met_at 2 steps) (model (with_value i0 2 ∷ with_value i2 1 ∷ with_value i3 2 ∷ []))).graphs g ≡ Some (graph (row 1 2 ∷ row 2 1 ∷ []))
unfolding rank op_eq op_value
one_row = refl

no_table_of_a_closed_level : (with_tables ops steps (met_at 2 steps) second).graphs f ≡ None
unfolding rank op_eq op_value
no_table_of_a_closed_level = refl

constant_goes : (with_tables ops steps (met_at 2 steps) second).graphs i2 ≡ None
unfolding rank op_eq op_value
constant_goes = refl

-- ---- the other way

abbrev before : Model
before = model ((g, graph (row 1 2 ∷ row 2 3 ∷ row 3 4 ∷ [])) ∷ [])

value_of_application : (with_met_alone (met_at 2 steps) before).graphs i3 ≡ Some (constant_graph (n 4))
unfolding rank op_eq op_value
value_of_application = refl

function_goes : (with_met_alone (met_at 2 steps) before).graphs g ≡ None
unfolding rank op_eq op_value
function_goes = refl

closed_constant : (with_met_alone (met_at 2 steps) before).graphs i1 ≡ None
unfolding rank op_eq op_value
closed_constant = refl
