-- Nodes that have a definition, the latest first: SMT-LIB 2.6, section 3.6.1; and how their numbers are kept.
use Rattle.std.specs.Prelude.{◌≡◌, ℕ, ◌<◌, Bool, ◌==◌, List, [], ◌∷◌, All, length, map, reverse, get_or, if◌then◌else◌}
use Rattle.std.specs.List.{list_any}
use Rattle.smt_terms.specs.declared.ids.NodeId.{NodeId}
use Rattle.smt_print.specs.declared.scope.Defined.{Defined}

abbrev pub has_node : List NodeId → NodeId → Bool
has_node ks k = list_any (λ j. k.0 == j.0) ks

-- how many definitions stand before that of a node
abbrev pub number_of : List NodeId → NodeId → ℕ
number_of [] k = 0
number_of (j ∷ ks) k = if k.0 == j.0 then length ks else number_of ks k

-- the nodes with a definition in the current scope, and in those around it
pub record Nodes : Type 0 where
  pub current : List NodeId
  pub outer : List (List NodeId)

abbrev pub node_of : Defined → NodeId
node_of d = d.node

-- the nodes of definitions, the latest first
abbrev pub nodes_of : List Defined → List NodeId
nodes_of ds = map node_of (reverse ds)

abbrev pub place_in : List ℕ → ℕ → ℕ
place_in places i = get_or places i 0

abbrev pub with_place : (ℕ → ℕ) → Defined → ℕ → ℕ
with_place places d i = if i == d.node.0 then d.around else places i

-- the places as they were before these definitions, the latest first
abbrev pub taken_back : (ℕ → ℕ) → List Defined → ℕ → ℕ
taken_back places [] = places
taken_back places (d ∷ ds) = taken_back (with_place places d) ds

-- each definition, the latest first, stood at its node's place when it was made
abbrev pub ArePlaced : (ℕ → ℕ) → List Defined → Type 0
ArePlaced places [] = Unit {0}
ArePlaced places (d ∷ ds) = (places d.node.0 ≡ length ds) × ArePlaced (with_place places d) ds

-- the same of the definitions of each scope, the innermost first
abbrev pub AreAllPlaced : (ℕ → ℕ) → List (List Defined) → Type 0
AreAllPlaced places [] = Unit {0}
AreAllPlaced places (ds ∷ dss) = ArePlaced places (reverse ds) × AreAllPlaced (taken_back places (reverse ds)) dss

-- the definitions in the current scope and in those around it are placed
pub record IsScoped (places : List ℕ) (current : List Defined) (outer : List (List Defined)) : Type 0 where
  pub placed : AreAllPlaced (place_in places) (current ∷ outer)
  pub within : All (λ d. d.node.0 < length places) current
  pub outer_within : All (All (λ d. d.node.0 < length places)) outer
