-- The survey of a node's free symbols, on its way.
use Rattle.std.specs.Prelude.{◌≡◌, true, List, [], ◌∷◌, map, All}
use Rattle.smt_terms.specs.declared.ids.NodeId.{NodeId}
use Rattle.smt_terms.specs.Free.{free, without, with_more}
use Rattle.smt_terms.specs.Sorts.{Symbol}
use Rattle.term_table.specs.Formulas.{Formulas, tree, IsNode, IsSymbol}
use Rattle.term_walk.specs.FreeLists.{named, has_node, AreAmong}
use Rattle.term_walk.specs.Binders.{is_quantified}
use Rattle.term_subst.specs.declared.survey.Inner.{Inner}
use Rattle.term_subst.specs.declared.survey.Scope.{Scope}
use Rattle.term_subst.specs.declared.survey.Task.{Task}
use Rattle.term_subst.specs.declared.survey.Task.TheVariants.{Visit, Leave, Close}
use Rattle.term_subst.specs.Steps.{Step, visit, build, close, bound_in}

abbrev pub symbols_in : Formulas → Scope → List Symbol
symbols_in t s = named t s.symbols.keys

-- the free symbols of each node that a scope has are listed there
pub record IsScope (t : Formulas) (s : Scope) : Type 0 where
  pub symbols : All (IsSymbol t) s.symbols.keys
  pub listed : (k : NodeId) → has_node s.nodes.keys k ≡ true → AreAmong (free (tree t k)) (symbols_in t s)

pub record IsInner (t : Formulas) (i : Inner) : Type 0 where
  pub node : IsNode t i.node
  pub binder : is_quantified (tree t i.node) ≡ true
  pub outer : IsScope t i.outer

abbrev pub IsTask : Formulas → Task → Type 0
IsTask t (Visit k) = IsNode t k
IsTask t (Leave k) = IsNode t k
IsTask t (Close i) = IsInner t i

abbrev pub AreTasks : Formulas → List Task → Type 0
AreTasks t [] = Unit {0}
AreTasks t (task ∷ tasks) = IsTask t task × AreTasks t tasks

-- these tasks, where this is listed, lead to the symbols of the goal
abbrev pub LeadsTo : Formulas → List Symbol → List Task → List Symbol → Type 0
LeadsTo t fs [] goal = fs ≡ goal
LeadsTo t fs (Visit k ∷ tasks) goal = LeadsTo t (with_more fs (free (tree t k))) tasks goal
LeadsTo t fs (Leave k ∷ tasks) goal = AreAmong (free (tree t k)) fs × LeadsTo t fs tasks goal
LeadsTo t fs (Close i ∷ tasks) goal =
    (without (bound_in (tree t i.node)) fs ≡ free (tree t i.node)) × LeadsTo t (with_more (symbols_in t i.outer) (free (tree t i.node))) tasks goal

pub record Surveys (t : Formulas) (s : Scope) (tasks : List Task) (goal : List Symbol) : Type 0 where
  pub scope : IsScope t s
  pub tasks_are : AreTasks t tasks
  pub leads : LeadsTo t (symbols_in t s) tasks goal

-- the tasks as steps, which say how much is left to do
abbrev pub task_at : Formulas → Task → Step
task_at t (Visit k) = visit (tree t k)
task_at t (Leave k) = build (tree t k)
task_at t (Close i) = close (record { term = tree t i.node; cut = []; renamed = []; outer = [] })

abbrev pub tasks_at : Formulas → List Task → List Step
tasks_at t tasks = map (task_at t) tasks
