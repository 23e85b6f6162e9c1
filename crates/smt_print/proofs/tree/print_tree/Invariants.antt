use Rattle.std.proofs.Common.{◌≡◌, ◌++◌, ℕ, List}
use Rattle.smt_lex.specs.FormText.{form_text}
use Rattle.term_table.specs.Formulas.{tree}
use Rattle.smt_print.specs.TermForms.{tree_form}
use Rattle.smt_print.specs.TreeSteps.{Leads, weights}
use Rattle.smt_print.proofs.tree.print_tree.Given as goal

abbrev pub invariant-loop-step : goal.invariant-loop-step
invariant-loop-step g l = record {
  printed : (done : List ℕ) × (g.O.Output.text l.out ≡ g.O.Output.text l.fn.out ++ done)
      × Leads l.table l.draft.tree (done ++ l.draft.text) (l.fn.draft.text ++ form_text (tree_form (tree l.table l.fn.root)));
}

abbrev pub decreases-loop-step : goal.decreases-loop-step
decreases-loop-step g l = weights l.table l.draft.tree
