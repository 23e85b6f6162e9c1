-- How the live assertions at a check are found: from the first command on, with the number of levels that are open.
use Rattle.std.specs.Prelude.{ℕ, ◌+◌, ◌-◌, min, max, nat_lt, Bool, true, false, if◌then◌else◌, List, [], ◌∷◌, map, reverse}
use Rattle.smt_terms.specs.declared.ids.NodeId.{NodeId}
use Rattle.script_read.specs.declared.scripts.Command.{Command}
use Rattle.script_read.specs.declared.scripts.Command.TheVariants.{DeclareSort, Declare, Assert, CheckAssuming, Push, Pop, Reset, ResetAssertions}
use Rattle.models.specs.GoingBack.{global_behind}

-- how many levels are left where n are closed; where declarations are global, the first one stays
abbrev pub levels_left : Bool → ℕ → ℕ → ℕ
levels_left true n levels = max (levels - n) (min levels 1)
levels_left false n levels = levels - n

-- how many levels are open behind a command; where none is, a declaration or an assertion opens the first
abbrev pub levels_behind : Bool → Command → ℕ → ℕ
levels_behind global (DeclareSort s) levels = max levels 1
levels_behind global (Declare f) levels = max levels 1
levels_behind global (Assert id number) levels = max levels 1
levels_behind global (Push n) levels = levels + n
levels_behind global (Pop n) levels = levels_left global n levels
levels_behind global Reset levels = 1
levels_behind global ResetAssertions levels = 1
levels_behind global _ levels = levels

-- a node that is asserted, its number, and the number of levels that are open there
abbrev pub Placed : Type 0
Placed = NodeId × ℕ × ℕ

-- assertions, the latest first, but for those at the head that stand on levels above these
abbrev pub on_levels : ℕ → List Placed → List Placed
on_levels levels [] = []
on_levels levels (p ∷ ps) = if nat_lt levels p.2 then on_levels levels ps else p ∷ ps

abbrev pub placed_behind : ℕ → Command → List Placed → List Placed
placed_behind levels (Assert id number) ps = (id, number, levels) ∷ ps
placed_behind levels (Pop n) ps = on_levels levels ps
placed_behind levels Reset ps = []
placed_behind levels ResetAssertions ps = []
placed_behind levels _ ps = ps

-- what stands behind commands
pub record Open : Type 0 where
  pub levels : ℕ
  pub global : Bool
  -- the live assertions, the latest first
  pub placed : List Placed

abbrev pub first_open : Open
first_open = record { levels = 1; global = false; placed = [] }

abbrev pub open_behind : Command → Open → Open
open_behind c o =
    record { levels = levels_behind o.global c o.levels; global = global_behind o.global c; placed = placed_behind (levels_behind o.global c o.levels) c o.placed }

abbrev pub open_behind_all : Open → List Command → Open
open_behind_all o [] = o
open_behind_all o (c ∷ cs) = open_behind_all (open_behind c o) cs

-- the live assertions behind commands, in order, each with its number
abbrev pub live_behind : List Command → List (NodeId × ℕ)
live_behind cs = map (λ p. (p.0, p.1)) (reverse (open_behind_all first_open cs).placed)

-- the literals of a check
abbrev pub assumed_by : Command → List NodeId
assumed_by (CheckAssuming ids) = ids
assumed_by _ = []
