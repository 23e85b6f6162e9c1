use Rattle.std.proofs.Common.{◌≡◌, ◌++◌, ℕ, List}
use Rattle.smt_lex.specs.FormText.{form_text}
use Rattle.term_table.specs.Formulas.{tree}
use Rattle.smt_print.specs.DagSteps.{AreScopes, LeadsFrom, weights}
use Rattle.smt_print.specs.TermForms.{dag_form}
use Rattle.smt_print.proofs.dag.print_dag.Given as goal

abbrev pub invariant-loop-step : goal.invariant-loop-step
invariant-loop-step g l = record {
  scopes : AreScopes l.table l.draft.scopes;
  printed : (done : List ℕ) × (g.O.Output.text l.out ≡ g.O.Output.text l.fn.out ++ done)
      × LeadsFrom l.table l.fn.root l.draft.scopes l.draft.dag (done ++ l.draft.text) (l.fn.draft.text ++ form_text (dag_form (tree l.table l.fn.root)));
}

abbrev pub decreases-loop-step : goal.decreases-loop-step
decreases-loop-step g l = weights l.table l.draft.dag
