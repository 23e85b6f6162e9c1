use Rattle.std.proofs.Common.{arith}
use Rattle.simplify.specs.Logic as logic
use Rattle.simplify.proofs.LogicNodes.{ite-formula, not-three}
use Rattle.simplify.proofs.logic.choice.Goals as goal

pub chosen-requires-clause-c : goal.chosen-requires-clause-c
chosen-requires-clause-c c = let some = c.in-len3.len_at_least in ite-formula c.args.table.now c.know_table.ensures c.args.ids.now (record { 0 = 0 }) c.requires (omega arith)

pub returns-in_default-clause-found : goal.returns-in_default-clause-found
returns-in_default-clause-found c = let few = c.in_default.len_below in not-three c.args.table.now logic.choice c.args.ids.now (λ e. omega arith)

pub returns-in_default-2-clause-found : goal.returns-in_default-2-clause-found
returns-in_default-2-clause-found c = let many = c.in_default.len_at_least in not-three c.args.table.now logic.choice c.args.ids.now (λ e. omega arith)
