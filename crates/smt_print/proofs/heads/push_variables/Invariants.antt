use Rattle.std.proofs.Common.{◌≡◌, ◌++◌, List, map}
use Rattle.smt_terms.specs.Sorts.{Variable}
use Rattle.smt_terms.specs.Term.{variable}
use Rattle.term_table.specs.Formulas.{trees_at}
use Rattle.term_table.specs.WrittenForms.{variable_form}
use Rattle.smt_print.proofs.ListTexts.{list_begun}
use Rattle.smt_print.proofs.heads.push_variables.Given as goal

abbrev pub invariant-loop-place : goal.invariant-loop-place
invariant-loop-place l = (xs : List Variable) → trees_at l.fn.table l.ids ≡ map variable xs → l.out ≡ l.fn.out ++ list_begun variable_form xs l.place
