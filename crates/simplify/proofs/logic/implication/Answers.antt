use Rattle.std.proofs.Common.{arith}
use Rattle.simplify.specs.Logic as logic
use Rattle.simplify.proofs.LogicNodes.{implies-formulas, not-two}
use Rattle.simplify.proofs.logic.implication.Goals as goal

pub implied_pair-requires-clause-a : goal.implied_pair-requires-clause-a
implied_pair-requires-clause-a c = let some = c.in-len2.len_at_least in implies-formulas c.args.table.now c.know_table.ensures c.args.ids.now c.requires 0 (record { 0 = 0 }) (omega arith)

pub implied_pair-requires-clause-b : goal.implied_pair-requires-clause-b
implied_pair-requires-clause-b c = let some = c.in-len2.len_at_least in implies-formulas c.args.table.now c.know_table.ensures c.args.ids.now c.requires 1 (record { 0 = 0 }) (omega arith)

pub returns-in_default-clause-found : goal.returns-in_default-clause-found
returns-in_default-clause-found c = let few = c.in_default.len_below in not-two c.args.table.now logic.implication c.args.ids.now (λ e. omega arith)

pub returns-in_default-2-clause-found : goal.returns-in_default-2-clause-found
returns-in_default-2-clause-found c = let many = c.in_default.len_at_least in not-two c.args.table.now logic.implication c.args.ids.now (λ e. omega arith)
