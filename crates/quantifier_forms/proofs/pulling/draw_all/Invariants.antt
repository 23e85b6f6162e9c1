use Rattle.std.proofs.Common.{List}
use Rattle.smt_terms.specs.Sorts.{Variable}
use Rattle.term_subst.specs.State.{Gains}
use Rattle.quantifier_forms.specs.Variables.{AreVariables}
use Rattle.quantifier_forms.proofs.Pulled.{FreshSome}
use Rattle.quantifier_forms.proofs.pulling.draw_all.Given as goal

abbrev pub invariant-loop-variable : goal.invariant-loop-variable
invariant-loop-variable l = record {
  gains : Gains l.fn.table l.table l.fn.fresh l.fresh;
  fresh : (xs : List Variable) → AreVariables l.fn.table l.variables xs → FreshSome l.table xs l.variable-index l.renamed.items l.map l.fn.fresh l.fresh;
}
