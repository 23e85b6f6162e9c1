-- The applications that are live, over the nodes of a table: each with its constant and with what its operands became.
use Rattle.std.specs.Prelude.{◌≡◌, ℕ, zero, suc, ◌<◌, ◌==◌, Bool, true, List, [], ◌∷◌, ◌++◌, map, filter, length, All, Option, Some, None, if◌then◌else◌}
use Rattle.smt_terms.specs.declared.ids.NodeId.{NodeId}
use Rattle.smt_terms.specs.declared.ids.SymId.{SymId}
use Rattle.smt_terms.specs.Connectives.{implies, equal}
use Rattle.smt_terms.specs.Groups.{Named, has_term, with_constants}
use Rattle.smt_terms.specs.Rank.{IsWellSorted}
use Rattle.smt_terms.specs.Term.{symbol, Term, over, constant}
use Rattle.quantifier_forms.specs.Rebuilding.{IsLike, AreLike}
use Rattle.term_groups.specs.Grouping.{terms_of}
use Rattle.term_table.specs.Formulas.{Formulas, symbol_at, tree, trees_at, operands, IsNode, AreNodes, IsSymbol}
use Rattle.ackermann.specs.Ackermann.{all_equal}
use Rattle.ackermann.specs.Removals.{inner_uses}
use Rattle.ackermann.specs.declared.uses.LiveUse.{LiveUse}

-- ---- in the order drawn

-- the constant of a node
abbrev pub constant_in : List LiveUse → NodeId → Option NodeId
constant_in [] k = None
constant_in (u ∷ us) k = if k.0 == u.node.0 then Some u.constant else constant_in us k

abbrev pub is_use_of : SymId → LiveUse → Bool
is_use_of f u = f.0 == u.function.0

-- the applications of a function
abbrev pub uses_of : SymId → List LiveUse → List LiveUse
uses_of f us = filter (is_use_of f) us

abbrev pub farther : ℕ → Bool → ℕ
farther zero here = if here then 1 else 0
farther (suc n) here = suc (suc n)

-- how many there are up to the last one of a function, or 0 where it has none
abbrev pub reach : SymId → List LiveUse → ℕ
reach f [] = 0
reach f (u ∷ us) = farther (reach f us) (is_use_of f u)

-- ---- as terms

abbrev pub named_uses : Formulas → List LiveUse → Named
named_uses t us = map (λ u. (symbol_at t u.symbol, tree t u.node)) us

-- an application of the table, with its constant, and what may take the places of its operands
pub record IsUseIn (t : Formulas) (u : LiveUse) : Type 0 where
  pub is_node : IsNode t u.node
  pub is_function : IsSymbol t u.function
  pub is_symbol : IsSymbol t u.symbol
  pub is_constant : IsNode t u.constant
  pub sorted : IsWellSorted (tree t u.node)
  pub are_results : AreNodes t u.operands.items
  pub some : 0 < length (operands (tree t u.node))
  pub term : tree t u.node ≡ over (symbol (symbol_at t u.function)) (operands (tree t u.node))
  pub constant_term : tree t u.constant ≡ constant (symbol_at t u.symbol)
  pub like : IsLike (tree t u.node) (tree t u.constant)
  pub alike : AreLike (operands (tree t u.node)) (trees_at t u.operands.items)

-- its operands became what these constants make of them
abbrev pub IsSettled : Formulas → Named → LiveUse → Type 0
IsSettled t ns u = trees_at t u.operands.items ≡ map (with_constants ns) (operands (tree t u.node))

-- behind the terms of the first list each has the applications inside its operands before it
abbrev pub AreBehind : List Term → List Term → Type 0
AreBehind ds [] = Unit {0}
AreBehind ds (t ∷ ts) = All (λ u. has_term ds u ≡ true) (inner_uses t) × AreBehind (ds ++ t ∷ []) ts

pub record AreUsesIn (t : Formulas) (us : List LiveUse) : Type 0 where
  pub each : All (IsUseIn t) us
  pub behind : AreBehind [] (terms_of (named_uses t us))
  pub settled : All (IsSettled t (named_uses t us)) us

-- ---- what is said of two of them

-- the equations of two lists of operands
abbrev pub equal_each : List Term → List Term → List Term
equal_each (r ∷ rs) (q ∷ qs) = equal r q ∷ equal_each rs qs
equal_each _ _ = []

-- what equal operands say of the constants
abbrev pub said : Formulas → LiveUse → LiveUse → Term
said t u v =
    implies (all_equal (equal_each (trees_at t u.operands.items) (trees_at t v.operands.items))) (equal (tree t u.constant) (tree t v.constant))
