use Rattle.std.proofs.Common.{arith}
use Rattle.simplify.specs.Logic as logic
use Rattle.simplify.proofs.LogicNodes.{xor-formulas, not-two}
use Rattle.simplify.proofs.logic.exclusive.Goals as goal

pub exclusive_pair-requires-clause-a : goal.exclusive_pair-requires-clause-a
exclusive_pair-requires-clause-a c = let some = c.in-len2.len_at_least in xor-formulas c.args.table.now c.know_table.ensures c.args.ids.now c.requires 0 (record { 0 = 0 }) (omega arith)

pub exclusive_pair-requires-clause-b : goal.exclusive_pair-requires-clause-b
exclusive_pair-requires-clause-b c = let some = c.in-len2.len_at_least in xor-formulas c.args.table.now c.know_table.ensures c.args.ids.now c.requires 1 (record { 0 = 0 }) (omega arith)

pub returns-in_default-clause-found : goal.returns-in_default-clause-found
returns-in_default-clause-found c = let few = c.in_default.len_below in not-two c.args.table.now logic.exclusive c.args.ids.now (λ e. omega arith)

pub returns-in_default-2-clause-found : goal.returns-in_default-2-clause-found
returns-in_default-2-clause-found c = let many = c.in_default.len_at_least in not-two c.args.table.now logic.exclusive c.args.ids.now (λ e. omega arith)
