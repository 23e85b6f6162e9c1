-- The bodies of functions in model texts: a value, or `(ite CONDITION VALUE BODY)`, where the condition says what each
-- parameter is.
use Rattle.std.specs.Prelude.{ℕ, ◌==◌, Bool, true, false, if◌then◌else◌, List, [], ◌∷◌, map, count_by, codes, Option, Some, None, option_and_then}
use Rattle.std.specs.List.{list_any, list_all}
use Rattle.smt_lex.specs.Forms.{Form, atom, node, Forms, none, ◌⨾◌}
use Rattle.smt_terms.specs.Equal.{name_eq, sort_eq}
use Rattle.smt_terms.specs.Models.{Row, Graph}
use Rattle.smt_terms.specs.Sorts.{Name, Sort, bool, Variable}
use Rattle.smt_terms.specs.Values.{Value, truth, Sizes, all_same}
use Rattle.script_terms.specs.Parts.{place_of, symbol_in, is_name}
use Rattle.model_texts.specs.Refusals.{not_a_table}
use Rattle.model_texts.specs.Reading.{Reading, ◌>>=◌, gives, refuses}
use Rattle.model_texts.specs.ValueForms.{value_in}

-- ---- equations

-- what a parameter is equal to
pub data Side : Type 0 where
  holds : Bool → Side
  written : Form → Side

pub record Equation : Type 0 where
  pub parameter : Variable
  pub side : Side

abbrev pub parameter_named : List Variable → Name → Option Variable
parameter_named [] n = None
parameter_named (x ∷ xs) n = if name_eq x.name n then Some x else parameter_named xs n

abbrev pub parameter_in : List Variable → Form → Option Variable
parameter_in xs f = option_and_then (parameter_named xs) (symbol_in f)

-- a truth value stands alone or below a `not`
abbrev pub truth_equation : Bool → Option Variable → Option Equation
truth_equation b None = None
truth_equation b (Some x) = if sort_eq x.sort bool then Some (record { parameter = x; side = holds b }) else None

-- the first side that is a parameter, and the other one
abbrev pub equation_of : Option Variable → Option Variable → Form → Form → Option Equation
equation_of (Some x) other f g = Some (record { parameter = x; side = written g })
equation_of None (Some x) f g = Some (record { parameter = x; side = written f })
equation_of None None f g = None

-- `(= x V)`, `(= V x)`, `x` or `(not x)`
abbrev pub equation : List Variable → Form → Option Equation
equation xs (atom t) = truth_equation true (parameter_in xs (atom t))
equation xs (node place (f ⨾ g ⨾ none)) = if is_name (codes "not") (symbol_in f) then truth_equation false (parameter_in xs g) else None
equation xs (node place (f ⨾ g ⨾ h ⨾ none)) =
    if is_name (codes "=") (symbol_in f) then equation_of (parameter_in xs g) (parameter_in xs h) g h else None
equation xs (node place _) = None

-- ---- conditions: an equation, or `and` over equations

abbrev pub with_equation : Option Equation → Option (List Equation) → Option (List Equation)
with_equation (Some e) (Some es) = Some (e ∷ es)
with_equation _ _ = None

abbrev pub all_equations : List Variable → Forms → Option (List Equation)
all_equations xs none = Some []
all_equations xs (f ⨾ fs) = with_equation (equation xs f) (all_equations xs fs)

abbrev pub conjuncts : Form → Forms
conjuncts (node place (f ⨾ g ⨾ gs)) = if is_name (codes "and") (symbol_in f) then g ⨾ gs else node place (f ⨾ g ⨾ gs) ⨾ none
conjuncts f = f ⨾ none

abbrev pub names_each_once : List Variable → List Equation → Bool
names_each_once xs es = list_all (λ x. count_by (λ e. name_eq e.parameter.name x.name) es == 1) xs

abbrev pub where_each_once : List Variable → List Equation → Option (List Equation)
where_each_once xs es = if names_each_once xs es then Some es else None

-- the equations of a condition that names each parameter exactly once
abbrev pub equations : List Variable → Form → Option (List Equation)
equations xs f = option_and_then (where_each_once xs) (all_equations xs (conjuncts f))

-- ---- keys

pub record Key : Type 0 where
  pub name : Name
  pub value : Value

abbrev pub side_value : Sort → Side → Reading Value
side_value s (holds b) = gives (truth b)
side_value s (written f) = value_in f s

-- the values of equations from left to right
abbrev pub keys_of : List Equation → Reading (List Key)
keys_of [] = gives []
keys_of (e ∷ es) = do
  v ← side_value e.parameter.sort e.side
  ks ← keys_of es
  gives (record { name = e.parameter.name; value = v } ∷ ks)

abbrev pub key_named : List Key → Name → Value
key_named [] n = truth false
key_named (k ∷ ks) n = if name_eq k.name n then k.value else key_named ks n

-- the values of the parameters, in their order
abbrev pub keys_in_order : List Variable → List Equation → Reading (List Value)
keys_in_order xs es = keys_of es >>= λ ks. gives (map (λ x. key_named ks x.name) xs)

abbrev pub condition_values : ℕ → List Variable → Option (List Equation) → Reading (List Value)
condition_values place xs None = refuses not_a_table place
condition_values place xs (Some es) = keys_in_order xs es

-- the shape of a condition is examined before its values
abbrev pub condition : List Variable → Form → Reading (List Value)
condition xs f = condition_values (place_of f) xs (equations xs f)

-- ---- bodies

abbrev pub value_everywhere : Reading Value → Reading Graph
value_everywhere value = value >>= λ v. gives (record { rows = []; otherwise = v })

abbrev pub row_first : Reading (List Value) → Reading Value → Reading Graph → Reading Graph
row_first keys result body = do
  ks ← keys
  v ← result
  g ← body
  gives (record { rows = record { keys = ks; result = v } ∷ g.rows; otherwise = g.otherwise })

abbrev pub body_in : Form → List Variable → Sort → Reading Graph
body_in (node place (f ⨾ c ⨾ v ⨾ b ⨾ none)) xs s =
    if is_name (codes "ite") (symbol_in f) then row_first (condition xs c) (value_in v s) (body_in b xs s)
    else value_everywhere (value_in (node place (f ⨾ c ⨾ v ⨾ b ⨾ none)) s)
body_in f xs s = value_everywhere (value_in f s)

-- ---- rows: the first one with the keys counts

abbrev pub rows_behind : List Sort → Sizes → List Row → List Row → List Row
rows_behind args sizes earlier [] = []
rows_behind args sizes earlier (r ∷ rows) =
    if list_any (λ q. all_same args sizes q.keys r.keys) earlier then rows_behind args sizes earlier rows
    else r ∷ rows_behind args sizes (r ∷ earlier) rows

abbrev pub first_rows : List Sort → Sizes → List Row → List Row
first_rows args sizes rows = rows_behind args sizes [] rows
