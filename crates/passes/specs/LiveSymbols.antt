-- The new symbols of a pass that are live at a check, one by one, with the models and the refusals that come of them; and the
-- same over the numbers of a table. SMT-LIB 2.6, section 5.3, for the values of terms.
use Rattle.std.specs.Prelude.{◌≡◌, ℕ, ◌-◌, ◌^◌, ◌==◌, ◌&&◌, min, Bool, true, false, not, cond, nat_lt, nat_le, List, [], ◌∷◌, map, filter, flat_map, Result, Ok, Err, Option, Some, None, All}
use Rattle.std.specs.List.{list_any}
use Rattle.smt_terms.specs.declared.ids.NodeId.{NodeId}
use Rattle.smt_terms.specs.declared.ids.SymId.{SymId}
use Rattle.smt_terms.specs.Free.{is_among}
use Rattle.smt_terms.specs.Groups.{Named}
use Rattle.smt_terms.specs.Models.{Model, IsModel}
use Rattle.smt_terms.specs.Rank.{sort_of}
use Rattle.smt_terms.specs.Sorts.{Symbol}
use Rattle.smt_terms.specs.Term.{Term}
use Rattle.smt_terms.specs.Val.{no_variables, val, fits, bits_bound}
use Rattle.smt_terms.specs.Values as plain
use Rattle.smt_terms.specs.Values.{default_value}
use Rattle.smt_values.specs.Meaning.{meaning}
use Rattle.smt_values.specs.Valid.{IsValue}
use Rattle.smt_values.specs.declared.value.Value.{Value}
use Rattle.term_table.specs.Formulas.{Formulas, symbol_at, tree, sort_or_bool, IsNode, IsSymbol}
use Rattle.term_groups.specs.Seen.{named_at}
use Rattle.models.specs.ModelView.{ModelLists, model_at, with_graph, without_functions, IsModelOf}
use Rattle.evaluation.specs.Evaluated.{breaks}
use Rattle.pass_laws.specs.Carry.{Asked, Stage, with_graphs, graph_dropped, graph_given, term_for, constant_graph, most_bits, greatest_bound, numbers, beyond}
use Rattle.passes.specs.Carrying.{breaks_in}
use Rattle.pass_laws.specs.LiveGroups.{Met, Told, met_of, symbols_in}
use Rattle.pass_laws.specs.Passed.{least}
use Rattle.passes.specs.Plans.{Uses, HasUse}
use Rattle.passes.specs.declared.carrying.CarryFault.{CarryFault}
use Rattle.passes.specs.declared.carrying.CarryFault.TheVariants.{EvalWidth, Beyond128 as BeyondRange, Memory}
use Rattle.passes.specs.declared.carrying.Beyond.{Beyond}
use Rattle.passes.specs.declared.carrying.Valuation.{Valuation}
use Rattle.passes.specs.declared.searching.Live.{Live as CodeLive}
use Rattle.passes.specs.declared.searching.LiveSymbol.{LiveSymbol}
use Rattle.passes.specs.declared.searching.Search.{Search}
use Rattle.passes.specs.declared.carrying.Wide.{Wide}

-- ---- one by one

-- a symbol with the term that it stands for, and the number of the assertion that brought it
pub record Given : Type 0 where
  pub number : ℕ
  pub symbol : Symbol
  pub term : Term

-- those of live assertions, the other new symbols that are live, and the functions with arguments that are
pub record Live : Type 0 where
  pub given : List Given
  pub idle : List Symbol
  pub functions : List Symbol

abbrev pub given_by : ℕ → Named → List Given
given_by i ns = map (λ n. record { number = i; symbol = n.0; term = n.1 }) ns

abbrev pub live_of : Met → Live
live_of g = record { given = flat_map (λ d. given_by d.number d.symbols) g.live; idle = symbols_in g.idle; functions = g.functions }

-- ---- models

abbrev pub named_in : List Given → Named
named_in gs = map (λ g. (g.symbol, g.term)) gs

-- functions with arguments left out where applications were removed
abbrev pub kept_over : Bool → Model → Model
kept_over true m = without_functions m
kept_over false m = m

-- each symbol of a live assertion with the value of its term, and each other one that is live with its sort's default
abbrev pub with_live : Bool → Live → Model → Model
with_live removes r m = with_graphs m (λ f. graph_given m (term_for (named_in r.given) f) (is_among r.idle f) f ((kept_over removes m).graphs f))

-- the values of these symbols dropped
abbrev pub dropped_at : Formulas → List (SymId × NodeId) → Model → Model
dropped_at t ps m = with_graphs m (graph_dropped (map (λ n. n.0) (named_at t ps)) m.graphs)

abbrev pub with_defaults : List Symbol → Model → Model
with_defaults fs m = with_graphs m (λ f. cond (is_among fs f) (Some (constant_graph (default_value f.result))) (m.graphs f))

-- symbols with their values, of which the first one counts
abbrev pub with_each : List (Symbol × plain.Value) → Model → Model
with_each [] m = m
with_each (p ∷ ps) m = with_graph p.0 (Some (constant_graph p.1)) (with_each ps m)

-- ---- terms to be evaluated

abbrev pub asked_in : List Given → List Asked
asked_in gs = map (λ g. record { number = g.number; term = g.term }) gs

abbrev pub all_asked_in : List Live → List Asked
all_asked_in rs = flat_map (λ r. asked_in r.given) rs

-- the least assertion among these with a term that binds too many bits, and the bits of an assertion's terms
abbrev pub widest_of : List Asked → Option ℕ
widest_of qs = least (numbers (filter (λ q. nat_lt most_bits (bits_bound q.term)) qs))

abbrev pub bits_among : ℕ → List Asked → ℕ
bits_among i qs = min (2 ^ 32 - 1) (greatest_bound (filter (λ q. q.number == i) qs))

-- the least assertion among these with a term of a value beyond the range
abbrev pub beyond_of : Model → List Asked → Option ℕ
beyond_of m qs = least (numbers (filter (λ q. not (fits m q.term no_variables)) qs))

abbrev pub breaks_among : Model → List Asked → ℕ → Term → Bool
breaks_among m qs i u = list_any (λ q. (q.number == i) && breaks m u q.term no_variables) qs

-- ---- over the numbers of a table

abbrev pub given_at : Formulas → LiveSymbol → Given
given_at t a = record { number = a.assertion; symbol = symbol_at t a.symbol; term = tree t a.term }

abbrev pub live_at : Formulas → CodeLive → Live
live_at t r = record { given = map (given_at t) r.given.items; idle = map (symbol_at t) r.idle.items; functions = map (symbol_at t) r.functions.items }

abbrev pub lives_at : Formulas → List CodeLive → List Live
lives_at t rs = map (live_at t) rs

-- these are live at check k, stage by stage
abbrev pub AreLiveAt : Formulas → ℕ → List Told → List CodeLive → Type 0
AreLiveAt t k sts rs = lives_at t rs ≡ map (λ st. live_of (met_of k st)) sts

-- a symbol with a term of its sort
abbrev pub IsLiveOver : Formulas → LiveSymbol → Type 0
IsLiveOver t a = IsSymbol t a.symbol × IsNode t a.term × ((symbol_at t a.symbol).result ≡ sort_or_bool (sort_of (tree t a.term)))

pub record AreLiveOver (t : Formulas) (r : CodeLive) : Type 0 where
  pub given : All (IsLiveOver t) r.given.items
  pub idle : All (IsSymbol t) r.idle.items
  pub functions : All (IsSymbol t) r.functions.items

-- the application of a constant is known, where applications were removed
abbrev pub HasUseOf : Formulas → Option Uses → LiveSymbol → Type 0
HasUseOf t uses a = HasUse t uses (a.symbol, a.term)

-- what a search found so far
pub record IsSearched (t : Formulas) (s : Search) (g : Met) : Type 0 where
  pub anew : s.is_anew ≡ g.anew
  pub gone : s.is_gone ≡ g.gone
  pub closed : s.closed ≡ g.closed
  pub given : map (given_at t) s.given ≡ (live_of g).given
  pub idle : map (symbol_at t) s.idle ≡ (live_of g).idle
  pub functions : map (symbol_at t) s.functions ≡ g.functions

pub record IsSearchOver (t : Formulas) (s : Search) : Type 0 where
  pub given : All (IsLiveOver t) s.given
  pub idle : All (IsSymbol t) s.idle
  pub functions : All (IsSymbol t) s.functions

-- ---- answers

-- the least assertion among terms with one that binds too many bits, with the bits of its terms
abbrev pub IsWidest : List Asked → Option Wide → Type 0
IsWidest qs None = widest_of qs ≡ None
IsWidest qs (Some w) = (widest_of qs ≡ Some w.assertion) × (w.bits ≡ bits_among w.assertion qs)

abbrev pub IsTooWide : List Asked → CarryFault → Type 0
IsTooWide qs (EvalWidth a bits) = (widest_of qs ≡ Some a) × (bits ≡ bits_among a qs)
IsTooWide qs Memory = Unit {0}
IsTooWide qs _ = ⊥

-- a value of a symbol, which the model may be given
abbrev pub IsValueFor : Formulas → ModelLists → SymId × Value → Type 0
IsValueFor t m p = IsSymbol t p.0 × IsValue (symbol_at t p.0).result (model_at t m).sizes p.1

abbrev pub valued_at : Formulas → SymId × Value → Symbol × plain.Value
valued_at t p = (symbol_at t p.0, meaning p.1)

-- values of terms in a model, for the symbols that stand for them
abbrev pub values_in : Model → List Given → List (Symbol × plain.Value)
values_in m gs = map (λ g. (g.symbol, val m g.term no_variables)) gs

pub record AreValues (t : Formulas) (m : ModelLists) (gs : List Given) (vs : List (SymId × Value)) : Type 0 where
  pub within : beyond_of (model_at t m) (asked_in gs) ≡ None
  pub values : map (valued_at t) vs ≡ values_in (model_at t m) gs
  pub each : All (IsValueFor t m) vs

-- the least assertion among terms with one of a value beyond the range, and a node that has such a value in a term of it
abbrev pub IsLeastBeyond : Formulas → Model → List Asked → Option Beyond → Type 0
IsLeastBeyond t m qs None = beyond_of m qs ≡ None
IsLeastBeyond t m qs (Some b) = (beyond_of m qs ≡ Some b.assertion) × IsNode t b.node × (breaks_among m qs b.assertion (tree t b.node) ≡ true)

abbrev pub IsBeyondAmong : Formulas → Model → List Asked → CarryFault → Type 0
IsBeyondAmong t m qs (BeyondRange a k) = (beyond_of m qs ≡ Some a) × IsNode t k × (breaks_among m qs a (tree t k) ≡ true)
IsBeyondAmong t m qs Memory = Unit {0}
IsBeyondAmong t m qs _ = ⊥

-- whether no term of this assertion has to be valued any more
abbrev pub is_settled : Option Beyond → ℕ → Bool
is_settled None a = false
is_settled (Some b) a = nat_le b.assertion a

-- the values that were found of terms so far
pub record IsValuation (t : Formulas) (m : ModelLists) (gs : List Given) (v : Valuation) : Type 0 where
  pub beyond : IsLeastBeyond t (model_at t m) (asked_in gs) v.beyond
  pub values : v.beyond ≡ None → map (valued_at t) v.values.items ≡ values_in (model_at t m) gs
  pub each : All (IsValueFor t m) v.values.items

-- the model behind a pass
pub record Gives (t : Formulas) (r : Live) (removes : Bool) (old new : ModelLists) : Type 0 where
  pub within : beyond_of (model_at t old) (asked_in r.given) ≡ None
  pub model : model_at t new ≡ with_live removes r (model_at t old)
  pub numbers : IsModelOf t new
  pub valid : IsModel (model_at t new)

-- with these terms to be evaluated, none of which binds too many bits, the answer is this model or a refusal of it
abbrev pub Answers : Formulas → List Stage → Model → Result ModelLists CarryFault → Type 0
Answers t stages m (Ok r) = (beyond stages ≡ None) × (model_at t r ≡ m) × IsModelOf t r × IsModel (model_at t r)
Answers t stages m (Err (BeyondRange a k)) = (beyond stages ≡ Some a) × IsNode t k × (breaks_in t stages a k ≡ true)
Answers t stages m (Err Memory) = Unit {0}
Answers t stages m (Err _) = ⊥
