use Rattle.std.proofs.Common.{◌∙◌}
use Rattle.term_walk.proofs.Visits.{table-grows}
use Rattle.quantifier_forms.proofs.Sweeps.{tree-stays}
use Rattle.boolean_quantifiers.proofs.Cases.{work-stays}
use Rattle.boolean_quantifiers.proofs.AtTruth.{truth-stays, variable-images, put-truth}
use Rattle.boolean_quantifiers.proofs.truths.at_truth.Goals as goal

pub put-requires-clause-images : goal.put-requires-clause-images
put-requires-clause-images c =
    variable-images c.truth.new.table (record { variable = c.args.variable; image = c.in_ok-image.image }) (truth-stays c.args.table.now c.truth.new.table c.args.variable c.in_ok-image.ensures.grows c.requires.variable) c.in_ok-image.ensures.formula

pub put-requires-clause-work : goal.put-requires-clause-work
put-requires-clause-work c = work-stays c.args.table.now c.truth.new.table c.args.work.now c.in_ok-image.ensures.grows c.requires.work

pub returns-clause-term : goal.returns-clause-term
returns-clause-term c =
    put-truth c.args.table.now c.put.new.table c.args.value (record { variable = c.args.variable; image = c.in_ok-image.image }) c.args.body c.in_ok-result.result
    (table-grows c.args.table.now c.truth.new.table c.put.new.table c.in_ok-image.ensures.grows c.in_ok-result.ensures.grows) c.requires.variable c.requires.body.node
    (tree-stays c.truth.new.table c.put.new.table c.in_ok-image.image c.in_ok-result.ensures.grows c.in_ok-image.ensures.formula.node ∙ c.in_ok-image.ensures.term)
    c.in_ok-result.ensures.result
