use Rattle.std.proofs.Common.{◌≡◌, ◌≤◌, List, length, drop}
use Rattle.smt_terms.specs.Sorts.{Variable}
use Rattle.smt_terms.specs.SubstLaws.{GivesNone, names_within}
use Rattle.term_table.specs.Formulas.{tree}
use Rattle.term_walk.specs.Walking.{GrowsTo}
use Rattle.term_subst.specs.Substituting.{IsLater, NeverGivesGained}
use Rattle.normal_forms.specs.Nodes.{IsFormula}
use Rattle.normal_forms.specs.Quantifiers.{substitute_each}
use Rattle.normal_forms.specs.Shape.{quantifier_seen}
use Rattle.quantifier_forms.specs.Variables.{AreVariables}
use Rattle.boolean_quantifiers.specs.Working.{IsWork}
use Rattle.boolean_quantifiers.proofs.self_substitution.substitute_each.Given as goal

abbrev pub invariant-loop-place : goal.invariant-loop-place
invariant-loop-place l = record {
  within : l.place ≤ length l.variables;
  formula : IsFormula l.table l.form;
  term : (xs : List Variable) → AreVariables l.fn.table l.variables xs → (tree l.table l.form, l.fresh) ≡ substitute_each (quantifier_seen l.universal) (drop l.place xs) (tree l.fn.table l.fn.body, l.fn.fresh);
  names : GivesNone l.fresh (names_within (tree l.table l.form));
  later : IsLater l.fn.fresh l.fresh;
  drawn : NeverGivesGained l.fresh l.fn.table.symbols l.table.symbols;
  work : IsWork l.table l.work;
  grows : GrowsTo l.fn.table l.table;
}
