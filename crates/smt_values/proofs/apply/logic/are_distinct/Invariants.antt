use Rattle.std.proofs.Common.{◌≡◌, drop, map}
use Rattle.std.specs.Prelude.{All}
use Rattle.smt_terms.specs.Sorts.{Sort}
use Rattle.smt_terms.specs.Values.{same, Sizes}
use Rattle.smt_terms.specs.Operators.{all_distinct}
use Rattle.smt_values.specs.Meaning.{scalar_value, scalar_sort}
use Rattle.smt_values.proofs.apply.logic.are_distinct.Given as goal

abbrev pub invariant-loop-i : goal.invariant-loop-i
invariant-loop-i l = (s : Sort) (sizes : Sizes) → All (λ a. scalar_sort a ≡ s) l.args → all_distinct (same s sizes) (map scalar_value (drop l.i l.args)) ≡ all_distinct (same s sizes) (map scalar_value l.args)
