-- A plan in a table that only gains.
use Rattle.std.proofs.Common.{List}
use Rattle.smt_terms.specs.Fresh.{Supply}
use Rattle.smt_terms.specs.Term.{Term}
use Rattle.term_table.specs.Formulas.{Formulas}
use Rattle.term_walk.specs.Walking.{GrowsTo}
use Rattle.script_read.specs.Commands.{Command}
use Rattle.pass_laws.specs.declared.names.Pass.{Pass}
use Rattle.passes.specs.declared.plan.Plan.{Plan}
use Rattle.passes.specs.Plans.{IsPlanOf, IsPlanOver}
use Rattle.passes.specs.Removing.{IsPlanKept}
use Rattle.passes.proofs.PlannedLists.{kept_within, stages_stay, stages_within}

module _ (t u : Formulas) (grows : GrowsTo t u) (plan : Plan) where
  pub plan_over_stays : IsPlanOver t plan → IsPlanOver u plan
  plan_over_stays over = stages_within t u grows plan.stages.items over

  pub plan_kept_stays : IsPlanKept t plan → IsPlanKept u plan
  plan_kept_stays kept = kept_within t u grows plan.stages.items kept

  pub plan_stays : (ps : List Pass) (cs : List (Command Term)) (s : Supply) → IsPlanKept t plan → IsPlanOf t plan ps cs s → IsPlanOf u plan ps cs s
  plan_stays ps cs s kept is = record { checks = is.checks; stages = stages_stay t u grows ps cs s plan.stages.items kept is.stages }
