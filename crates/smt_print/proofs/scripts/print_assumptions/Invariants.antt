use Rattle.std.proofs.Common.{◌++◌}
use Rattle.std.specs.Prelude.{codes}
use Rattle.term_table.specs.Formulas.{tree}
use Rattle.smt_print.specs.Prefix.{Drafts}
use Rattle.smt_print.specs.TermForms.{tree_form}
use Rattle.smt_print.proofs.ListTexts.{list_begun}
use Rattle.smt_print.proofs.scripts.print_assumptions.Given as goal

abbrev pub invariant-loop-i : goal.invariant-loop-i
invariant-loop-i g l =
    Drafts (g.O.Output.text l.fn.out) l.fn.draft.text (g.O.Output.text l.out) l.draft.text (codes "(check-sat-assuming " ++ list_begun (λ k. tree_form (tree l.fn.table k)) l.literals l.i)
