-- How the live applications are kept: by the numbers of their nodes, and from each the way to the one of its function before it.
use Rattle.std.specs.Prelude.{◌≡◌, ℕ, ◌==◌, List, [], ◌∷◌, ◌++◌, map, if◌then◌else◌}
use Rattle.smt_terms.specs.declared.ids.NodeId.{NodeId}
use Rattle.smt_terms.specs.declared.ids.SymId.{SymId}
use Rattle.ackermann.specs.declared.uses.Entry.{Entry}
use Rattle.ackermann.specs.declared.uses.LiveUse.{LiveUse}
use Rattle.ackermann.specs.LiveUses.{reach}

abbrev pub uses_in : List (NodeId × Entry) → List LiveUse
uses_in es = map (λ (e : NodeId × Entry). e.1.live) es

abbrev pub reach_in : List (SymId × ℕ) → SymId → ℕ
reach_in [] f = 0
reach_in (p ∷ ps) f = if f.0 == p.0.0 then p.1 else reach_in ps f

-- behind these, each stands at its node and has the way to the last one of its function before it
abbrev pub AreChained : List LiveUse → List (NodeId × Entry) → Type 0
AreChained before [] = Unit {0}
AreChained before (e ∷ es) = (e.0.0 ≡ e.1.live.node.0) × (e.1.earlier ≡ reach e.1.live.function before) × AreChained (before ++ e.1.live ∷ []) es

pub record AreKept (es : List (NodeId × Entry)) (ps : List (SymId × ℕ)) : Type 0 where
  pub chained : AreChained [] es
  pub reached : (f : SymId) → reach_in ps f ≡ reach f (uses_in es)
