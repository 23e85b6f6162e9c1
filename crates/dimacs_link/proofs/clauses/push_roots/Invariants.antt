use Rattle.std.proofs.Common.{◌≡◌, List, All, ◌++◌, take, true, flat_map}
use Rattle.smt_terms.specs.Sorts.{Symbol}
use Rattle.term_table.specs.Formulas.{trees_at}
use Rattle.dimacs_link.specs.Clauses.{clauses, clause_text, is_clause}
use Rattle.dimacs_link.specs.Constants.{AreNumbersOf}
use Rattle.dimacs_link.proofs.clauses.push_roots.Given as goal

abbrev pub invariant-loop-root : goal.invariant-loop-root
invariant-loop-root l =
    (cs : List Symbol) → AreNumbersOf l.table cs l.numbers → All (λ u. is_clause cs u ≡ true) (trees_at l.table l.roots)
    → l.text.items ≡ l.fn.text.items ++ flat_map clause_text (clauses cs (trees_at l.table (take l.root-index l.roots)))
