-- Models carried over passes, pass by pass: from the script behind the passes to the one before them, from the last pass to
-- the first, and the other way, from the first to the last. Sizes of sorts and division by zero stay, and equivalence passes
-- change nothing (SMT-LIB 2.6, section 5.3, for values of terms).
use Rattle.std.specs.Prelude.{ℕ, ◌-◌, ◌^◌, ◌==◌, max, min, Bool, true, false, not, cond, nat_lt, List, [], ◌∷◌, ◌++◌, map, filter, flat_map, Option, Some, None}
use Rattle.smt_terms.specs.Sorts.{Sort, Symbol}
use Rattle.smt_terms.specs.Term.{Term}
use Rattle.smt_terms.specs.Equal.{symbol_eq}
use Rattle.smt_terms.specs.Free.{is_among}
use Rattle.smt_terms.specs.Fresh.{Supply}
use Rattle.smt_terms.specs.Groups.{Named}
use Rattle.smt_terms.specs.Values.{Value, default_value}
use Rattle.smt_terms.specs.Models.{Graph, Model}
use Rattle.smt_terms.specs.Val.{no_variables, val, fits, bits_bound}
use Rattle.ackermann.specs.Tables.{operands_of, application_graph}
use Rattle.script_read.specs.Commands.{Command, assert, live, signature}
use Rattle.pass_laws.specs.declared.names.Pass.{Pass}
use Rattle.pass_laws.specs.declared.names.Pass.TheVariants.{Ackermann}
use Rattle.pass_laws.specs.Passed.{Replacement, replacements, apply_pass, least, or_later}

-- ---- the groups of a pass at a point

-- those of the live assertions, in order
abbrev pub live_groups : Pass → List (Command Term) → Supply → ℕ → List Replacement
live_groups p cs s k = live (replacements p cs s).0 k

-- their symbols with the terms that they stand for, in the order drawn. A symbol and the assertion that drew it are on one
-- level, so for the removal of applications these are the live ones with their constants.
abbrev pub live_symbols : Pass → List (Command Term) → Supply → ℕ → Named
live_symbols p cs s k = flat_map (λ r. r.group.symbols) (live_groups p cs s k)

abbrev pub drawn_by : Command Replacement → List Symbol
drawn_by (assert i r) = map (λ n. n.0) r.group.symbols
drawn_by _ = []

-- all new symbols of the pass
abbrev pub new_symbols : Pass → List (Command Term) → Supply → List Symbol
new_symbols p cs s = flat_map drawn_by (replacements p cs s).0

-- ---- graphs

abbrev pub with_graphs : Model → (Symbol → Option Graph) → Model
with_graphs m graphs = record { sizes = m.sizes; graphs = graphs; div_by_zero = m.div_by_zero; mod_by_zero = m.mod_by_zero }

abbrev pub constant_graph : Value → Graph
constant_graph v = record { rows = []; otherwise = v }

abbrev pub are_some : List Sort → Bool
are_some [] = false
are_some (s ∷ ss) = true

abbrev pub has_arguments : Symbol → Bool
has_arguments f = are_some f.args

-- ---- from behind a pass to before it

abbrev pub graph_dropped : List Symbol → (Symbol → Option Graph) → Symbol → Option Graph
graph_dropped fs graphs f = cond (is_among fs f) None (graphs f)

abbrev pub graph_applied : List Symbol → (Symbol → Graph) → (Symbol → Option Graph) → Symbol → Option Graph
graph_applied fs made graphs f = cond (is_among fs f) (Some (made f)) (graphs f)

-- the live functions with arguments
abbrev pub live_functions : List (Command Term) → ℕ → List Symbol
live_functions cs k = filter has_arguments (signature cs k).symbols

-- the values of new symbols are dropped; where applications were removed, the functions get their rows
abbrev pub back_over : Pass → List (Command Term) → Supply → ℕ → Model → Model
back_over Ackermann cs s k m =
    with_graphs m
    (graph_applied (live_functions cs k) (application_graph m (live_symbols Ackermann cs s k))
    (graph_dropped (new_symbols Ackermann cs s) m.graphs))
back_over p cs s k m = with_graphs m (graph_dropped (new_symbols p cs s) m.graphs)

-- over a list of passes, before which these commands stand with these names
abbrev pub back : List Pass → List (Command Term) → Supply → ℕ → Model → Model
back [] cs s k m = m
back (p ∷ ps) cs s k m = back_over p cs s k (back ps (apply_pass p cs s).0 (apply_pass p cs s).1 k m)

-- ---- from before a pass to behind it

abbrev pub term_for : Named → Symbol → Option Term
term_for [] f = None
term_for (n ∷ ns) f = cond (symbol_eq n.0 f) (Some n.1) (term_for ns f)

-- the new symbols that are declared at the point
abbrev pub declared_new : Pass → List (Command Term) → Supply → ℕ → List Symbol
declared_new p cs s k = filter (is_among (new_symbols p cs s)) (signature (apply_pass p cs s).0 k).symbols

-- where applications were removed, functions with arguments are left out
abbrev pub graph_kept : Pass → (Symbol → Option Graph) → Symbol → Option Graph
graph_kept Ackermann graphs f = cond (has_arguments f) None (graphs f)
graph_kept p graphs f = graphs f

-- a new symbol has the value of its term where its assertion is live, else its sort's default; another symbol keeps its graph.
-- Only new symbols have a term
abbrev pub graph_given : Model → Option Term → Bool → Symbol → Option Graph → Option Graph
graph_given m (Some t) declared f other = Some (constant_graph (val m t no_variables))
graph_given m None true f other = Some (constant_graph (default_value f.result))
graph_given m None false f other = other

abbrev pub forth_over : Pass → List (Command Term) → Supply → ℕ → Model → Model
forth_over p cs s k m =
    with_graphs m
    (λ f. graph_given m (term_for (live_symbols p cs s k) f) (is_among (declared_new p cs s k) f) f (graph_kept p m.graphs f))

abbrev pub forth : List Pass → List (Command Term) → Supply → ℕ → Model → Model
forth [] cs s k m = m
forth (p ∷ ps) cs s k m = forth ps (apply_pass p cs s).0 (apply_pass p cs s).1 k (forth_over p cs s k m)

-- ---- the terms that must be evaluated

-- a term, and the number of its assertion
pub record Asked : Type 0 where
  pub number : ℕ
  pub term : Term

-- those of a pass, with the model in which they are evaluated
pub record Stage : Type 0 where
  pub model : Model
  pub asked : List Asked

abbrev pub asked_for : ℕ → List Term → List Asked
asked_for i ts = map (λ t. record { number = i; term = t }) ts

-- the operands of the live applications, in which applications gave way to their constants
abbrev pub asked_back : Pass → List (Command Term) → Supply → ℕ → List Asked
asked_back Ackermann cs s k =
    flat_map (λ r. flat_map (λ n. asked_for r.number (operands_of (live_symbols Ackermann cs s k) n.1)) r.group.symbols) (live_groups Ackermann cs s k)
asked_back p cs s k = []

-- the terms that the new symbols of live assertions stand for
abbrev pub asked_forth : Pass → List (Command Term) → Supply → ℕ → List Asked
asked_forth p cs s k = flat_map (λ r. asked_for r.number (map (λ n. n.1) r.group.symbols)) (live_groups p cs s k)

-- in the order in which the passes come: from the last to the first, and from the first to the last
abbrev pub back_stages : List Pass → List (Command Term) → Supply → ℕ → Model → List Stage
back_stages [] cs s k m = []
back_stages (p ∷ ps) cs s k m =
    back_stages ps (apply_pass p cs s).0 (apply_pass p cs s).1 k m
    ++ record { model = back ps (apply_pass p cs s).0 (apply_pass p cs s).1 k m; asked = asked_back p cs s k } ∷ []

abbrev pub forth_stages : List Pass → List (Command Term) → Supply → ℕ → Model → List Stage
forth_stages [] cs s k m = []
forth_stages (p ∷ ps) cs s k m =
    record { model = m; asked = asked_forth p cs s k } ∷ forth_stages ps (apply_pass p cs s).0 (apply_pass p cs s).1 k (forth_over p cs s k m)

-- ---- the refusals: quantifiers over more than 16 bits on a path, and whole numbers outside the range

abbrev pub most_bits : ℕ
most_bits = 16

abbrev pub numbers : List Asked → List ℕ
numbers as_terms = map (λ a. a.number) as_terms

abbrev pub all_asked : List Stage → List Asked
all_asked stages = flat_map (λ st. st.asked) stages

-- the least assertion with a term that binds too many bits
abbrev pub too_wide : List Stage → Option ℕ
too_wide stages = least (numbers (filter (λ a. nat_lt most_bits (bits_bound a.term)) (all_asked stages)))

abbrev pub greatest_bound : List Asked → ℕ
greatest_bound [] = 0
greatest_bound (a ∷ as_terms) = max (bits_bound a.term) (greatest_bound as_terms)

-- the bits of that assertion's terms, in 32 bits
abbrev pub bits_of_assertion : ℕ → List Stage → ℕ
bits_of_assertion i stages = min (2 ^ 32 - 1) (greatest_bound (filter (λ a. a.number == i) (all_asked stages)))

-- the least assertion with a term of a value beyond the range, at the first pass that has one
abbrev pub beyond_at : Stage → Option ℕ
beyond_at st = least (numbers (filter (λ a. not (fits st.model a.term no_variables)) st.asked))

abbrev pub beyond : List Stage → Option ℕ
beyond [] = None
beyond (st ∷ sts) = or_later (beyond_at st) (beyond sts)
