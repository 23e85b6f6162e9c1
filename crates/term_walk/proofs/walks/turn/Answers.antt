use Rattle.std.proofs.Common.{◌≡◌, ◌≤◌, length, ap, arith}
use Rattle.smt_terms.specs.Term.{Term}
use Rattle.term_table.specs.Formulas.{tree_in, tree, operands}
use Rattle.term_walk.proofs.Costs.{costs-closed}
use Rattle.term_walk.proofs.Turns.{all_closed, finish-leads}
use Rattle.term_walk.proofs.walks.turn.Goals as goal

pub finish-requires-clause-kids : goal.finish-requires-clause-kids
finish-requires-clause-kids g c = all_closed _ _ _ c.requires.ready c.in-None.ensures.operand

pub returns-in_ok-finish-in-None-clause-leads : goal.returns-in_ok-finish-in-None-clause-leads
returns-in_ok-finish-in-None-clause-leads g c root =
    finish-leads c.args.table.now.trees c.finish.new.table.trees c.args.kept.now c.finish.new.kept c.args.frame.id c.finish.ensures.grows.trees c.requires.ready.frame.node c.in_ok-finish-in-None.ensures.ok c.finish.ensures.closed root c.args.stack.now

pub returns-in_ok-finish-in-None-clause-nearer : goal.returns-in_ok-finish-in-None-clause-nearer
returns-in_ok-finish-in-None-clause-nearer g c us ts n lt counted same =
    let count : length (operands (tree_in ts c.args.frame.id)) ≡ length (operands (tree c.args.table.now c.args.frame.id)) = ap (λ (u : Term). length (operands u)) same in
    let next : c.args.frame.next ≤ length (operands (tree c.args.table.now c.args.frame.id)) = c.requires.ready.frame.next in
    let last : length (operands (tree c.args.table.now c.args.frame.id)) ≤ c.args.frame.next = c.in-None.ensures.operand in
    let less = costs-closed us ts c.args.kept.now c.finish.new.kept c.args.frame.id c.in_ok-finish-in-None.ensures.ok c.finish.ensures.closed n lt c.requires.ready.frame.unclosed counted in
    omega (arith, less, count)
