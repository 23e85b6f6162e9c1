use Rattle.smt_terms.specs.SubstLaws.{GivesNone, names_within}
use Rattle.term_table.specs.Formulas.{tree}
use Rattle.term_walk.specs.Walking.{GrowsTo}
use Rattle.term_subst.specs.Substituting.{IsLater, NeverGivesGained}
use Rattle.normal_forms.specs.Nodes.{IsFormula}
use Rattle.normal_forms.specs.Prenex.{quantifiers}
use Rattle.quantifier_forms.specs.Pulling.{AreFronts, fronts_at}
use Rattle.quantifier_forms.specs.Reaching.{AreBare, AreReached}
use Rattle.quantifier_forms.proofs.Turned.{LeadsOn}
use Rattle.quantifier_forms.proofs.prenex_form.pull_all.Given as goal

abbrev pub invariant-loop-from : goal.invariant-loop-from
invariant-loop-from l = record {
  formula : IsFormula l.table l.matrix;
  bare : AreBare l.table l.bare.keys;
  order : AreReached l.table l.bare.keys l.matrix l.order.items;
  names : GivesNone l.fresh (names_within (tree l.table l.matrix));
  prefix : AreFronts l.table l.prefix.items;
  leads : LeadsOn (tree l.fn.table l.fn.root) l.fn.fresh (fronts_at l.table l.prefix.items) (tree l.table l.matrix) l.fresh;
  later : IsLater l.fn.fresh l.fresh;
  drawn : NeverGivesGained l.fresh l.fn.table.symbols l.table.symbols;
  grows : GrowsTo l.fn.table l.table;
}

abbrev pub decreases-loop-from : goal.decreases-loop-from
decreases-loop-from l = quantifiers (tree l.table l.matrix)
