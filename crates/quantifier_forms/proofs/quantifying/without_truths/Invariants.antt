use Rattle.std.proofs.Common.{List, take}
use Rattle.smt_terms.specs.Sorts.{Variable}
use Rattle.normal_forms.specs.Quantifiers.{not_bool}
use Rattle.quantifier_forms.specs.Variables.{AreVariables}
use Rattle.quantifier_forms.proofs.quantifying.without_truths.Given as goal

abbrev pub invariant-loop-variable : goal.invariant-loop-variable
invariant-loop-variable l = (xs : List Variable) → AreVariables l.fn.table l.variables xs → AreVariables l.fn.table l.left.items (not_bool (take l.variable-index xs))
