use Rattle.term_subst.specs.State.{AreFindings, Gains}
use Rattle.term_subst.proofs.Renamed.{RenamesSome}
use Rattle.term_subst.proofs.renaming.rename.Given as goal

abbrev pub invariant-loop-variable : goal.invariant-loop-variable
invariant-loop-variable l = record {
  gains : Gains l.fn.table l.table l.fn.fresh l.fresh;
  findings : AreFindings l.table l.findings;
  renames : RenamesSome l.fn.table l.table l.cut l.variables l.variable-index l.renamed.items l.map l.fn.fresh l.fresh;
}
