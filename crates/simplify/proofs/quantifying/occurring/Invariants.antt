use Rattle.std.proofs.Common.{List, take}
use Rattle.smt_terms.specs.Sorts.{Variable}
use Rattle.term_table.specs.Formulas.{tree}
use Rattle.quantifier_forms.specs.Variables.{AreVariables}
use Rattle.simplify.specs.Occurring.{occurring}
use Rattle.simplify.proofs.quantifying.occurring.Given as goal

abbrev pub invariant-loop-variable : goal.invariant-loop-variable
invariant-loop-variable l = (xs : List Variable) → AreVariables l.fn.table l.variables xs → AreVariables l.fn.table l.kept.items (occurring (tree l.fn.table l.fn.body) (take l.variable-index xs))
