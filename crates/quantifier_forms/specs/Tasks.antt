-- A stack of what is left to do for a listing, the next first.
use Rattle.std.specs.Prelude.{◌≡◌, ℕ, zero, suc, ◌+◌, ◌<◌, ◌⊎◌, Bool, true, false, ◌||◌, ◌==◌, List, [], ◌∷◌, ◌++◌, All, length, get_or, if◌then◌else◌}
use Rattle.smt_terms.specs.declared.ids.NodeId.{NodeId}
use Rattle.smt_terms.specs.Term.{Term}
use Rattle.term_table.specs.Formulas.{Formulas, no_tree, tree, operands, IsNode}
use Rattle.term_walk.specs.FreeLists.{has_node}
use Rattle.quantifier_forms.specs.declared.tasks.Task.{Task}
use Rattle.quantifier_forms.specs.declared.tasks.Task.TheVariants.{Enter, Leave}
use Rattle.quantifier_forms.specs.Listing.{listed as listing}

abbrev pub task_node : Task → NodeId
task_node (Enter k) = k
task_node (Leave k) = k

-- whether the node is left by one of these tasks
abbrev pub is_left : List Task → NodeId → Bool
is_left [] k = false
is_left (Enter j ∷ is) k = is_left is k
is_left (Leave j ∷ is) k = k.0 == j.0 || is_left is k

-- what the tasks still list behind these terms
abbrev pub after_tasks : (Term → Bool) → (Term → Bool) → Formulas → List Task → List Term → List Term
after_tasks skips opens t [] ts = ts
after_tasks skips opens t (Enter k ∷ is) ts = after_tasks skips opens t is (listing skips opens (tree t k) ts)
after_tasks skips opens t (Leave k ∷ is) ts = after_tasks skips opens t is (ts ++ tree t k ∷ [])

-- each task is for a node below those that are left later
abbrev pub Descend : List Task → Type 0
Descend [] = Unit {0}
Descend (i ∷ is) = ((k : NodeId) → is_left is k ≡ true → (task_node i).0 < k.0) × Descend is

-- the tests on nodes are those on their terms
abbrev pub TellAlike : Formulas → (NodeId → Bool) → (Term → Bool) → Type 0
TellAlike t f p = (k : NodeId) → IsNode t k → f k ≡ p (tree t k)

-- how the tasks stand to the nodes that were met and to those that are listed: a node that was met is listed, or is left
-- by a task
pub record Stands (t : Formulas) (tasks : List Task) (met ls : List NodeId) : Type 0 where
  pub nodes : All (λ i. IsNode t (task_node i)) tasks
  pub listed : All (IsNode t) ls
  pub known : (k : NodeId) → has_node met k ≡ true → (has_node ls k ≡ true) ⊎ (is_left tasks k ≡ true)
  pub met_listed : (k : NodeId) → has_node ls k ≡ true → has_node met k ≡ true
  pub met_left : (k : NodeId) → is_left tasks k ≡ true → has_node met k ≡ true
  pub descend : Descend tasks

-- the work at the nodes below n that weren't met
abbrev pub work_left : Formulas → List NodeId → ℕ → ℕ
work_left t met zero = 0
work_left t met (suc n) = work_left t met n + (if has_node met (record { 0 = n }) then 0 else suc (length (operands (get_or t.trees n no_tree))))
