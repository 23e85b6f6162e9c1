use Rattle.std.specs.Cmp.{booleans_Decides}
use Rattle.term_table.specs.Formulas.{kind, tree, operands}
use Rattle.simplify.proofs.ConstantNodes.{no-truth}
use Rattle.simplify.proofs.ConstantTests.{truth_constant, truth_told, other_truth}
use Rattle.simplify.proofs.constants.is_truth.Goals as goal

pub returns-in-Truth : goal.returns-in-Truth
unfolding kind
returns-in-Truth c =
    let u = tree c.args.table.now c.args.id in
    let b = c.in-Truth.truth in
    let there = truth_constant b u (operands u) (c.in-Truth.ensures.table.sorted c.args.id.0 c.requires) c.in-Truth.ensures.term in
    let tells = booleans_Decides b c.args.value in
    truth_told u c.args.value b _ there.value tells.0 tells.1

pub returns-in_default : goal.returns-in_default
returns-in_default c =
    let u = tree c.args.table.now c.args.id in
    other_truth u c.args.value (no-truth c.args.table.now c.op.result u c.op.ensures.term c.args.value c.in_default.not-Truth)
