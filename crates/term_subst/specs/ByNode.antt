-- What is found of nodes, by their numbers.
use Rattle.std.specs.Prelude.{◌==◌, List, [], ◌∷◌, Option, Some, None, if◌then◌else◌}
use Rattle.smt_terms.specs.declared.ids.NodeId.{NodeId}

-- what a node has, the first one
abbrev pub found_in : {A : Type 0} → List (NodeId × A) → NodeId → Option A
found_in [] n = None
found_in (p ∷ ps) n = if n.0 == p.0.0 then Some p.1 else found_in ps n
