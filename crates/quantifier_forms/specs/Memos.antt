-- Results of nodes, by versions.
use Rattle.std.specs.Prelude.{◌≡◌, ℕ, ◌&&◌, ◌==◌, List, [], ◌∷◌, Option, Some, None, unwrap_or, if◌then◌else◌}
use Rattle.smt_terms.specs.declared.ids.NodeId.{NodeId}
use Rattle.quantifier_forms.specs.declared.memo.Site.{Site}

abbrev pub Results : Type 0
Results = List (Site × NodeId)

-- the result of a node in a version
abbrev pub result_in : Results → ℕ → NodeId → Option NodeId
result_in [] v k = None
result_in (p ∷ ps) v k = if (v == p.0.version) && (k.0 == p.0.node.0) then Some p.1 else result_in ps v k

-- the result, or else the node itself
abbrev pub known_in : Results → ℕ → NodeId → NodeId
known_in ps v k = unwrap_or (result_in ps v k) k

-- the node k has this result in the version v, and all else is as it was
pub record Sets (old new : Results) (v : ℕ) (k r : NodeId) : Type 0 where
  pub here : (j : NodeId) → j.0 ≡ k.0 → result_in new v j ≡ Some r
  pub others : (w : ℕ) (j : NodeId) → (w ≡ v → j.0 ≡ k.0 → ⊥) → result_in new w j ≡ result_in old w j
