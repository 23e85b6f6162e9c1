-- Results of quantified nodes under cut maps, by the numbers of nodes and symbols.
use Rattle.std.specs.Prelude.{◌≡◌, Bool, true, false, ◌&&◌, ◌==◌, List, [], ◌∷◌, reverse, Option, Some, None, if◌then◌else◌}
use Rattle.smt_terms.specs.declared.ids.NodeId.{NodeId}
use Rattle.term_subst.specs.declared.chosen.Key.{Key}
use Rattle.term_subst.specs.Maps.{Pairs}

abbrev pub pairs_eq : Pairs → Pairs → Bool
pairs_eq [] [] = true
pairs_eq (p ∷ ps) (q ∷ qs) = (p.0.0 == q.0.0) && ((p.1.0 == q.1.0) && pairs_eq ps qs)
pairs_eq _ _ = false

abbrev pub is_key : Key → NodeId → Pairs → Bool
is_key key k ps = pairs_eq key.cut.items ps && (key.node.0 == k.0)

-- the result of a node under a cut map, the first one
abbrev pub chosen_in : List (Key × NodeId) → NodeId → Pairs → Option NodeId
chosen_in [] k ps = None
chosen_in (e ∷ es) k ps = if is_key e.0 k ps then Some e.1 else chosen_in es k ps

-- from either end the same is found
abbrev pub ReadsAlike : List (Key × NodeId) → Type 0
ReadsAlike es = (k : NodeId) (ps : Pairs) → chosen_in (reverse es) k ps ≡ chosen_in es k ps
