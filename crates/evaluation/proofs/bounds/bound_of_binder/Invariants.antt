use Rattle.std.proofs.Common.{◌≡◌, ◌+◌, take}
use Rattle.smt_terms.specs.Val.{bound_bits, bits_bound}
use Rattle.term_table.specs.Formulas.{tree}
use Rattle.evaluation.specs.Choices.{variables_at}
use Rattle.evaluation.specs.Evaluated.{told_bits}
use Rattle.evaluation.proofs.BinderParts.{body_in}
use Rattle.evaluation.proofs.bounds.bound_of_binder.Given as goal

abbrev pub invariant-loop-variable : goal.invariant-loop-variable
invariant-loop-variable l = l.bits ≡ told_bits (bound_bits (variables_at l.table (take l.variable-index l.variable-items)) + bits_bound (body_in (tree l.table l.fn.id)))
