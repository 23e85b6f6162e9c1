-- The assertions that are live at a check, with their numbers, and the literals that it assumes: SMT-LIB 2.6, sections 4.1.4,
-- 4.2.2 and 4.2.5.
use Rattle.std.specs.Prelude.{ℕ, List, ◌++◌, map, All}
use Rattle.smt_terms.specs.declared.ids.NodeId.{NodeId}
use Rattle.smt_terms.specs.Term.{Term}
use Rattle.term_table.specs.Formulas.{Formulas, tree, IsNode}
use Rattle.script_read.specs.Commands.{Command, assert, check_assuming, with_asserted, live, literals}

-- what is asserted with its assertion's number, and a literal with 0
abbrev pub with_number : {A : Type 0} → Command A → Command (A × ℕ)
with_number (assert i a) = assert i (a, i)
with_number (check_assuming ls) = check_assuming (map (λ l. (l, 0)) ls)
with_number c = with_asserted (λ a. (a, 0)) c

-- what is live at point k, in order, and then the literals of that point
abbrev pub live_terms : {A : Type 0} → List (Command A) → ℕ → List (A × ℕ)
live_terms cs k = live (map with_number cs) k ++ literals (map with_number cs) k

-- nodes with numbers, as terms with numbers
abbrev pub numbered_at : Formulas → List (NodeId × ℕ) → List (Term × ℕ)
numbered_at t ps = map (λ p. (tree t p.0, p.1)) ps

abbrev pub AreNumbered : Formulas → List (NodeId × ℕ) → Type 0
AreNumbered t ps = All (λ p. IsNode t p.0) ps
