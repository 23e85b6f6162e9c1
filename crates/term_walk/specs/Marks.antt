-- Marks at the numbers of nodes.
use Rattle.std.specs.Prelude.{◌≡◌, ℕ, zero, suc, ◌+◌, ◌≤◌, Bool, true, false, ◌||◌, ◌==◌, List, [], ◌∷◌, All, get_or, if◌then◌else◌}
use Rattle.smt_terms.specs.declared.ids.NodeId.{NodeId}
use Rattle.smt_terms.specs.Groups.{has_term}
use Rattle.smt_terms.specs.Term.{Term}
use Rattle.term_table.specs.Formulas.{Formulas, tree, trees_at, operands, IsNode}
use Rattle.term_walk.specs.Subterms.{all_subterms}

abbrev pub is_marked : List Bool → ℕ → Bool
is_marked ms i = get_or ms i false

abbrev pub has_number : List NodeId → ℕ → Bool
has_number [] i = false
has_number (k ∷ ks) i = k.0 == i || has_number ks i

-- how many of the first n numbers have a mark
abbrev pub marked_below : List Bool → ℕ → ℕ
marked_below ms zero = 0
marked_below ms (suc n) = marked_below ms n + (if is_marked ms n then 1 else 0)

-- a node of this term, with a mark
pub record HasMark (t : Formulas) (ms : List Bool) (u : Term) : Type 0 where
  pub id : NodeId
  pub node : IsNode t id
  pub term : tree t id ≡ u
  pub marked : is_marked ms id.0 ≡ true

-- marks at the roots and at subterms of theirs alone, where the operands of each marked node from number n on have marks
pub record AreMarkedFrom (t : Formulas) (roots : List NodeId) (n : ℕ) (ms : List Bool) : Type 0 where
  pub within : (k : NodeId) → is_marked ms k.0 ≡ true → has_term (all_subterms (trees_at t roots)) (tree t k) ≡ true
  pub begun : All (λ k. is_marked ms k.0 ≡ true) roots
  pub closed : (k : NodeId) → n ≤ k.0 → is_marked ms k.0 ≡ true → All (HasMark t ms) (operands (tree t k))
