use Rattle.std.proofs.Common.{◌≡◌, suc, List, length, ap, subst, arith}
use Rattle.std.proofs.lemmas.List.Elements.{All-head}
use Rattle.term_table.specs.Formulas.{IsNode}
use Rattle.quantifier_forms.specs.declared.tasks.Task.{Task}
use Rattle.quantifier_forms.specs.Tasks.{task_node, Stands}
use Rattle.quantifier_forms.proofs.listing.list.Goals as goal

pub loop-task-smaller : goal.loop-task-smaller
loop-task-smaller g c =
    let stands = subst (λ (is : List Task). Stands c.args.table.now is c.loop-task.met.keys c.loop-task.done.items) c.in-Some.ensures c.loop-task.invariant.stands in
    let node : IsNode c.args.table.now (task_node c.in-Some.task) = All-head (λ i. IsNode c.args.table.now (task_node i)) c.in-Some.task c.pop.new.self stands.nodes in
    let near = c.in_ok-turn.ensures.nearer (length c.args.table.now.trees) node in
    let long : length c.loop-task.tasks ≡ suc (length c.pop.new.self) = ap length c.in-Some.ensures in
    omega (arith, near, long)
