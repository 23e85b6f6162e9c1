use Rattle.std.proofs.Common.{arith}
use Rattle.simplify.specs.Logic as logic
use Rattle.simplify.proofs.LogicNodes.{equal-sorts, not-two}
use Rattle.simplify.proofs.logic.equation.Goals as goal

pub equal_pair-requires-clause-sorts : goal.equal_pair-requires-clause-sorts
equal_pair-requires-clause-sorts c = equal-sorts c.args.table.now c.know_table.ensures c.args.ids.now (record { 0 = 0 }) c.requires c.in-len2.len_at_least

pub returns-in_default-clause-found : goal.returns-in_default-clause-found
returns-in_default-clause-found c = let few = c.in_default.len_below in not-two c.args.table.now logic.equation c.args.ids.now (λ e. omega arith)

pub returns-in_default-2-clause-found : goal.returns-in_default-2-clause-found
returns-in_default-2-clause-found c = let many = c.in_default.len_at_least in not-two c.args.table.now logic.equation c.args.ids.now (λ e. omega arith)
