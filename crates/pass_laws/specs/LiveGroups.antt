-- The groups of a pass that are live at a check, those whose symbols alone are, and the functions with arguments: they are found
-- from the check back through the commands before it. SMT-LIB 2.6, sections 4.1.4 and 4.1.7, for levels and global declarations.
use Rattle.std.specs.Prelude.{ℕ, ◌+◌, ◌-◌, ◌==◌, Bool, true, false, cond, not, ◌&&◌, ◌||◌, if◌then◌else◌, List, [], ◌∷◌, ◌++◌, map, flat_map, Option, Some, None, All, IsTrue}
use Rattle.smt_terms.specs.Equal.{symbol_eq}
use Rattle.smt_terms.specs.Free.{is_among}
use Rattle.smt_terms.specs.Fresh.{Supply}
use Rattle.smt_terms.specs.Groups.{Named}
use Rattle.smt_terms.specs.Models.{Row, Graph, Model}
use Rattle.smt_terms.specs.Sorts.{Sort, Symbol}
use Rattle.smt_terms.specs.Term.{Term, apply, quantified, constant}
use Rattle.smt_terms.specs.Val.{no_variables, val}
use Rattle.smt_terms.specs.Values.{default_value}
use Rattle.ackermann.specs.Ackermann.{one_level, live, Acked, ack}
use Rattle.ackermann.specs.Tables.{applies, operands_of, with_rows}
use Rattle.script_read.specs.Commands.{Command, declare, assert, check, check_assuming, push, pop, reset, reset_assertions, globals}
use Rattle.models.specs.ModelView.{without_functions}
use Rattle.pass_laws.specs.Carry.{Asked, Stage, asked_for, with_graphs, graph_applied, graph_dropped, graph_given, term_for}
use Rattle.pass_laws.specs.Passed.{Replacement, Way, acked, onward}

-- the new symbols that an assertion brought, with the terms that they stand for, and the number of the assertion
pub record Drawn : Type 0 where
  pub number : ℕ
  pub symbols : Named

abbrev pub drawn_of : Replacement → Drawn
drawn_of r = record { number = r.number; symbols = r.group.symbols }

-- a declaration, where it is of a function with arguments
abbrev pub told_function : List Sort → Symbol → List (Command Drawn)
told_function [] f = []
told_function (s ∷ ss) f = declare f ∷ []

-- the commands that tell what is live, with what was drawn
abbrev pub told : Command Replacement → List (Command Drawn)
told (declare f) = told_function f.args f
told (assert i r) = assert i (drawn_of r) ∷ []
told check = check ∷ []
told (check_assuming ls) = check ∷ []
told (push n) = push n ∷ []
told (pop n) = pop n ∷ []
told reset = reset ∷ []
told reset_assertions = reset_assertions ∷ []
told (globals b) = globals b ∷ []
told _ = []

abbrev pub all_told : List (Command Replacement) → List (Command Drawn)
all_told rs = flat_map told rs

-- ---- commands before a check

-- those before check k, counted from 1
abbrev pub before_check : ℕ → List (Command Drawn) → List (Command Drawn)
before_check k [] = []
before_check k (check ∷ cs) = if k == 1 then [] else check ∷ before_check (k - 1) cs
before_check k (c ∷ cs) = c ∷ before_check k cs

-- whether declarations outlive their levels behind commands
abbrev pub global_behind : Bool → List (Command Drawn) → Bool
global_behind global [] = global
global_behind global (globals b ∷ cs) = global_behind b cs
global_behind global (reset ∷ cs) = global_behind false cs
global_behind global (c ∷ cs) = global_behind global cs

-- so many levels are open behind commands above the outermost
abbrev pub opened_by : Command Term → ℕ → ℕ
opened_by (push n) k = k + n
opened_by (pop n) k = k - n
opened_by reset k = 0
opened_by reset_assertions k = 0
opened_by _ k = k

abbrev pub opened_from : ℕ → List (Command Term) → ℕ
opened_from k [] = k
opened_from k (c ∷ cs) = opened_from (opened_by c k) cs

abbrev pub levels_open : List (Command Term) → ℕ
levels_open cs = opened_from 0 cs

-- ---- what is met among commands that stand last

pub record Met : Type 0 where
  -- no assertion before these commands is live behind them, and no declaration
  pub anew : Bool
  pub gone : Bool
  -- so many levels that were open before them are closed behind them
  pub closed : ℕ
  -- what was drawn for live assertions, and for others whose symbols are live
  pub live : List Drawn
  pub idle : List Drawn
  -- the functions with arguments that are live
  pub functions : List Symbol

abbrev pub nothing_met : Met
nothing_met = record { anew = false; gone = false; closed = 0; live = []; idle = []; functions = [] }

abbrev pub with_drawn : Bool → Drawn → Met → Met
with_drawn global d m =
    if not m.anew && m.closed == 0 then record m { live = d ∷ m.live }
    else (if global && not m.gone then record m { idle = d ∷ m.idle } else m)

abbrev pub with_declared : Bool → Symbol → Met → Met
with_declared global f m = if not m.gone && (global || m.closed == 0) then record m { functions = f ∷ m.functions } else m

-- one command more, which stands before the others
abbrev pub met_before : Bool → Command Drawn → Met → Met
met_before global (declare f) m = with_declared global f m
met_before global (assert i d) m = with_drawn global d m
met_before global (push n) m = record m { closed = m.closed - n }
met_before global (pop n) m = record m { closed = m.closed + n }
met_before global reset m = record m { anew = true; gone = true }
met_before global reset_assertions m = record m { anew = true; gone = m.gone || not global }
met_before global _ m = m

abbrev pub met_in : Bool → List (Command Drawn) → Met
met_in global [] = nothing_met
met_in global (c ∷ cs) = met_before global c (met_in global cs)

-- what is met before check k
abbrev pub met_at : ℕ → List (Command Drawn) → Met
met_at k cs = met_in (global_behind false (before_check k cs)) (before_check k cs)

-- ---- models

abbrev pub symbols_in : List Drawn → List Symbol
symbols_in ds = flat_map (λ d. map (λ n. n.0) d.symbols) ds

abbrev pub drawn_in_command : Command Drawn → List Drawn
drawn_in_command (assert i d) = d ∷ []
drawn_in_command _ = []

abbrev pub all_drawn : List (Command Drawn) → List Drawn
all_drawn cs = flat_map drawn_in_command cs

-- the values of all new symbols dropped
abbrev pub without_drawn : List (Command Drawn) → Model → Model
without_drawn cs m = with_graphs m (graph_dropped (symbols_in (all_drawn cs)) m.graphs)

-- each symbol of a live group with the value of its term, and each other one that is live with its sort's default
abbrev pub with_met : Met → Model → Model
with_met g m = with_graphs m (λ f. graph_given m (term_for (flat_map (λ d. d.symbols) g.live) f) (is_among (symbols_in g.idle) f) f (m.graphs f))

-- the terms that must be evaluated
abbrev pub asked_of : Met → List Asked
asked_of g = flat_map (λ d. asked_for d.number (map (λ n. n.1) d.symbols)) g.live

-- ---- models where applications were removed

-- what took the places of the operands of an application, by its constant
abbrev pub Operands : Type 0
Operands = Symbol → List Term

-- the last one of a constant counts
abbrev pub operands_in : List (Symbol × List Term) → Symbol → List Term
operands_in [] v = []
operands_in (p ∷ ps) v = cond (symbol_eq v p.0) p.1 (operands_in ps v)

abbrev pub operands_with : List (Symbol × List Term) → Named → Named → List (Symbol × List Term)
operands_with ps ns [] = ps
operands_with ps ns (n ∷ new) = operands_with ((n.0, operands_of ns n.1) ∷ ps) ns new

-- behind commands, from what was known before them
abbrev pub operands_behind : List (Symbol × List Term) → List (Command Term) → Way → List (Symbol × List Term)
operands_behind ps [] w = ps
operands_behind ps (assert i t ∷ cs) w =
    let a : Acked = ack t w.levels w.names in
    operands_behind (operands_with ps (live w.levels ++ a.group.symbols) a.group.symbols) cs (acked a).1
operands_behind ps (c ∷ cs) w = operands_behind ps cs (onward c w)

-- what took the places of the operands of each application that was removed
abbrev pub removed_operands : List (Command Term) → Supply → Operands
removed_operands cs s = operands_in (operands_behind [] cs (record { levels = one_level; names = s }))

-- the row of an application of f with its constant v
abbrev pub row_by : Model → Operands → Symbol → Symbol → Term → List Row
row_by m ops f v (apply h ts) =
    cond (applies f h) (record { keys = map (λ u. val m u no_variables) (ops v); result = val m (constant v) no_variables } ∷ []) []
row_by m ops f v (quantified q xs t) = []

abbrev pub graph_by : Model → Operands → Named → Symbol → Graph
graph_by m ops ns f = record { rows = with_rows f.args m.sizes [] (flat_map (λ n. row_by m ops f n.0 n.1) ns); otherwise = default_value f.result }

-- the values of all new symbols dropped, and each function that is live with a row for each live application
abbrev pub with_tables : Operands → List (Command Drawn) → Met → Model → Model
with_tables ops cs g m =
    with_graphs m (graph_applied g.functions (graph_by m ops (flat_map (λ d. d.symbols) g.live)) (graph_dropped (symbols_in (all_drawn cs)) m.graphs))

abbrev pub is_applied : Symbol → Term → Bool
is_applied f (apply h ts) = applies f h
is_applied f (quantified q xs t) = false

-- the functions of live applications are live
abbrev pub AreApplied : Met → Type 0
AreApplied g = All (λ d. All (λ n. (f : Symbol) → IsTrue (is_applied f n.1) → IsTrue (is_among g.functions f)) d.symbols) g.live

-- the same as `with_met`, and functions with arguments left out
abbrev pub with_met_alone : Met → Model → Model
with_met_alone g m =
    with_graphs m (λ f. graph_given m (term_for (flat_map (λ d. d.symbols) g.live) f) (is_among (symbols_in g.idle) f) f ((without_functions m).graphs f))

-- ---- over stages, each by what it tells

-- the commands, and where applications were removed, what took the places of their operands
pub record Told : Type 0 where
  pub commands : List (Command Drawn)
  pub operands : Option Operands

abbrev pub back_over_by : Option Operands → List (Command Drawn) → Met → Model → Model
back_over_by None cs g m = without_drawn cs m
back_over_by (Some ops) cs g m = with_tables ops cs g m

abbrev pub forth_over_by : Option Operands → Met → Model → Model
forth_over_by None g m = with_met g m
forth_over_by (Some ops) g m = with_met_alone g m

-- the terms that must be evaluated on the way back
abbrev pub asked_back_by : Option Operands → Met → List Asked
asked_back_by None g = []
asked_back_by (Some ops) g = flat_map (λ d. flat_map (λ n. asked_for d.number (ops n.0)) d.symbols) g.live

abbrev pub met_of : ℕ → Told → Met
met_of k st = met_at k st.commands

-- from behind the last one to before the first
abbrev pub back_by : ℕ → List Told → Model → Model
back_by k [] m = m
back_by k (st ∷ sts) m = back_over_by st.operands st.commands (met_of k st) (back_by k sts m)

abbrev pub back_stages_by : ℕ → List Told → Model → List Stage
back_stages_by k [] m = []
back_stages_by k (st ∷ sts) m = back_stages_by k sts m ++ record { model = back_by k sts m; asked = asked_back_by st.operands (met_of k st) } ∷ []

-- from before the first one to behind the last
abbrev pub forth_by : ℕ → List Told → Model → Model
forth_by k [] m = m
forth_by k (st ∷ sts) m = forth_by k sts (forth_over_by st.operands (met_of k st) m)

abbrev pub forth_stages_by : ℕ → List Told → Model → List Stage
forth_stages_by k [] m = []
forth_stages_by k (st ∷ sts) m = record { model = m; asked = asked_of (met_of k st) } ∷ forth_stages_by k sts (forth_over_by st.operands (met_of k st) m)
