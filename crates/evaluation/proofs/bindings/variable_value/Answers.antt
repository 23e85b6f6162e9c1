use Rattle.std.proofs.Common.{◌≡◌, ◌<◌, length, ap, arith}
use Rattle.std.proofs.lemmas.Bool.Decides.{nat_tests}
use Rattle.term_table.specs.Formulas.{tree, tree_in, trees_at, operands}
use Rattle.std.proofs.lemmas.List.{length-map}
use Rattle.evaluation.specs.Bindings.{env_of}
use Rattle.evaluation.proofs.BoundVariables.{with-operands}
use Rattle.evaluation.proofs.bindings.variable_value.Goals as goal

pub returns-then-not-is_empty-clause-none : goal.returns-then-not-is_empty-clause-none
returns-then-not-is_empty-clause-none c m applied =
    let t = c.args.table.now in
    let u = tree t c.args.id in
    let told = c.if-not-is_empty.ensures in
    let some : 0 < length c.kids.result.now = grind (arith, nat_tests, told) in
    let same = length-map c.kids.result.now (tree_in t.trees) in
    let long : length (trees_at t c.kids.result.now) ≡ length (operands u) = ap length c.kids.ensures.terms in
    with-operands m u (env_of t c.args.bindings.now) applied (omega (arith, some, same, long))
