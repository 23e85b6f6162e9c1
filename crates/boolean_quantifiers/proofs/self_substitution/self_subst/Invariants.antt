use Rattle.std.proofs.Common.{◌≡◌}
use Rattle.term_walk.specs.Walking.{GrowsTo}
use Rattle.term_subst.specs.Substituting.{IsLater, NeverGivesGained}
use Rattle.quantifier_forms.proofs.Sweeps.{AreDone}
use Rattle.boolean_quantifiers.specs.Solving.{AllMayStand, AreTold, after}
use Rattle.boolean_quantifiers.specs.Working.{IsWork}
use Rattle.boolean_quantifiers.proofs.self_substitution.self_subst.Given as goal

abbrev pub invariant-loop-node : goal.invariant-loop-node
invariant-loop-node l = record {
  grows : GrowsTo l.fn.table l.table;
  later : IsLater l.fn.fresh l.fresh;
  drawn : NeverGivesGained l.fresh l.fn.table.symbols l.table.symbols;
  names : (after l.fn.table l.fn.fresh l.node-items l.node-index).names ≡ l.fresh;
  stand : AllMayStand l.table l.fresh l.results;
  told : AreTold l.table (after l.fn.table l.fn.fresh l.node-items l.node-index).solved l.results;
  work : IsWork l.table l.work;
  done : AreDone l.results 0 l.node-items l.node-index;
}
