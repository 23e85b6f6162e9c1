-- What is known of commands behind a pass that puts groups in the place of assertions: what they declare and assert at each
-- point, and the statements of the laws that rest on it.
use Rattle.std.specs.Prelude.{◌≡◌, ℕ, ◌||◌, List, [], ◌∷◌, map, filter, flat_map, IsTrue}
use Rattle.smt_terms.specs.Fresh.{Supply}
use Rattle.smt_terms.specs.Free.{is_among}
use Rattle.smt_terms.specs.Groups.{Named}
use Rattle.smt_terms.specs.Models.{Model}
use Rattle.smt_terms.specs.Sorts.{Symbol}
use Rattle.smt_terms.specs.Term.{Term}
use Rattle.term_groups.specs.Drawing.{ConstantsAreNew}
use Rattle.term_groups.specs.Grouping.{IsGroupOf, MakesGroups, symbols_of}
use Rattle.script_read.specs.Commands.{Command, with_asserted, assert, kinds, live, literals, signature}
use Rattle.pass_laws.specs.Carry.{drawn_by, with_graphs, graph_dropped, graph_given, term_for}
use Rattle.pass_laws.specs.Groups.{Making, groups_from, spelled, in_groups}
use Rattle.pass_laws.specs.Laws.{IsReady, CarriesModels, CarriesSignatures}
use Rattle.pass_laws.specs.Passed.{Replacement}

-- the commands before the pass, and those behind it
abbrev pub inputs : List (Command Replacement) → List (Command Term)
inputs rs = map (with_asserted (λ r. r.term)) rs

abbrev pub outputs : List (Command Replacement) → List (Command Term)
outputs rs = flat_map spelled rs

-- all new symbols
abbrev pub drawn_in : List (Command Replacement) → List Symbol
drawn_in rs = flat_map drawn_by rs

-- those of the live assertions, with their terms
abbrev pub live_pairs : List (Command Replacement) → ℕ → Named
live_pairs rs k = flat_map (λ r. r.group.symbols) (live rs k)

-- the points before the pass and behind it, one by one
pub record PointsOfGroups (rs : List (Command Replacement)) : Type 0 where
  pub kinds : kinds (outputs rs) ≡ kinds (inputs rs)
  pub live_before : (k : ℕ) → live (inputs rs) k ≡ map (λ r. r.term) (live rs k)
  pub live_behind : (k : ℕ) → live (outputs rs) k ≡ flat_map (λ r. r.group.asserts) (live rs k)
  pub literals : (k : ℕ) → literals (outputs rs) k ≡ literals (inputs rs) k
  pub sorts : (k : ℕ) → (signature (outputs rs) k).sorts ≡ (signature (inputs rs) k).sorts
  -- what was declared is declared still, and nothing else is but new symbols, those of live assertions among them
  pub stays : (k : ℕ) (f : Symbol) → IsTrue (is_among (signature (inputs rs) k).symbols f) → IsTrue (is_among (signature (outputs rs) k).symbols f)
  pub comes : (k : ℕ) (f : Symbol) → IsTrue (is_among (signature (outputs rs) k).symbols f) → IsTrue (is_among (signature (inputs rs) k).symbols f || is_among (drawn_in rs) f)
  pub declared : (k : ℕ) (f : Symbol) → IsTrue (is_among (symbols_of (live_pairs rs k)) f) → IsTrue (is_among (signature (outputs rs) k).symbols f)

-- each assertion's group is one for it, with names from behind those of the assertions before it
abbrev pub AreGrouped : List (Command Replacement) → Supply → Supply → Type 0
AreGrouped [] s r = r ≡ s
AreGrouped (assert i a ∷ rs) s r = (q : Supply) × (IsGroupOf a.term s (record { group = a.group; names = q }) × AreGrouped rs q r)
AreGrouped (c ∷ rs) s r = AreGrouped rs s r

-- ---- models

-- from behind the pass to before it: the values of new symbols are dropped
abbrev pub without_new : List (Command Replacement) → Model → Model
without_new rs m = with_graphs m (graph_dropped (drawn_in rs) m.graphs)

-- from before the pass to behind it, at a point: each new symbol of a live assertion gets the value of its term
abbrev pub with_values : List (Command Replacement) → ℕ → Model → Model
with_values rs k m =
    with_graphs m
    (λ f. graph_given m (term_for (live_pairs rs k) f) (is_among (filter (is_among (drawn_in rs)) (signature (outputs rs) k).symbols) f) f (m.graphs f))

-- ---- the laws

-- each group has an assertion, so that something is asserted behind the pass wherever something was before it
abbrev pub GroupsHavePoints : Type 0
GroupsHavePoints = (rs : List (Command Replacement)) (s r : Supply) → AreGrouped rs s r → PointsOfGroups rs

-- the commands are those before the pass, and each group is one for its assertion
pub record IsGrouping (make : Making) (cs : List (Command Term)) (s : Supply) : Type 0 where
  pub before : inputs (groups_from make cs s).0 ≡ cs
  pub grouped : AreGrouped (groups_from make cs s).0 s (groups_from make cs s).1

abbrev pub ReadyCommandsAreGrouped : Type 0
ReadyCommandsAreGrouped = (make : Making) → MakesGroups make → ConstantsAreNew → (cs : List (Command Term)) (s : Supply) → IsReady cs s → IsGrouping make cs s

abbrev pub GroupsAreReady : Type 0
GroupsAreReady = (make : Making) → MakesGroups make → ConstantsAreNew → (cs : List (Command Term)) (s : Supply) → IsReady cs s → IsReady (in_groups make cs s).0 (in_groups make cs s).1

abbrev pub GroupsKeepModels : Type 0
GroupsKeepModels = (make : Making) → MakesGroups make → ConstantsAreNew → (cs : List (Command Term)) (s : Supply) → IsReady cs s
    → CarriesModels cs (in_groups make cs s).0 (λ k m. without_new (groups_from make cs s).0 m) (λ k m. with_values (groups_from make cs s).0 k m)

abbrev pub GroupsKeepSignatures : Type 0
GroupsKeepSignatures = (make : Making) → MakesGroups make → ConstantsAreNew → (cs : List (Command Term)) (s : Supply) → IsReady cs s
    → CarriesSignatures cs (in_groups make cs s).0 (λ k m. without_new (groups_from make cs s).0 m) (λ k m. with_values (groups_from make cs s).0 k m)
