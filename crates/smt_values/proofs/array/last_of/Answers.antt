use Rattle.std.proofs.Common.{arith}
use Rattle.smt_values.specs.SizeTable.{sizes_by}
use Rattle.smt_values.proofs.Numbered.{last-word, word_sort-numbers, free-numbers, not_declared}
use Rattle.smt_values.proofs.array.last_of.Goals as goal

pub returns-in-2-to-129-clause-last : goal.returns-in-2-to-129-clause-last
returns-in-2-to-129-clause-last c = last-word c.args.sorts.now (sizes_by c.args.sorts.now c.args.sizes.now) c.args.sort.0 (omega arith) (omega arith)

pub returns-in-2-to-129-clause-numbers : goal.returns-in-2-to-129-clause-numbers
returns-in-2-to-129-clause-numbers c = (word_sort-numbers c.args.sorts.now (sizes_by c.args.sorts.now c.args.sizes.now) c.args.sort.0 (omega arith) (omega arith)).numbers

pub returns-in-2-to-129-clause-values : goal.returns-in-2-to-129-clause-values
returns-in-2-to-129-clause-values c = (word_sort-numbers c.args.sorts.now (sizes_by c.args.sorts.now c.args.sizes.now) c.args.sort.0 (omega arith) (omega arith)).values

pub returns-in-2-to-129-clause-same : goal.returns-in-2-to-129-clause-same
returns-in-2-to-129-clause-same c = (word_sort-numbers c.args.sorts.now (sizes_by c.args.sorts.now c.args.sizes.now) c.args.sort.0 (omega arith) (omega arith)).same

pub returns-in-2-to-129-clause-some : goal.returns-in-2-to-129-clause-some
returns-in-2-to-129-clause-some c = λ name e. absurd (not_declared c.args.sorts.now c.args.sort.0 name (omega arith) e)

pub returns-in_ok-name-in_default-clause-last : goal.returns-in_ok-name-in_default-clause-last
returns-in_ok-name-in_default-clause-last c =
    (free-numbers c.args.sorts.now c.args.sizes.now c.name.ensures.table c.args.sort c.in_ok-name-in_default.field-0.now c.of.result (omega arith) c.requires c.in_ok-name-in_default.ensures.name c.of.ensures.size c.of.ensures.positive (omega arith)).0

pub returns-in_ok-name-in_default-clause-values : goal.returns-in_ok-name-in_default-clause-values
returns-in_ok-name-in_default-clause-values c =
    (free-numbers c.args.sorts.now c.args.sizes.now c.name.ensures.table c.args.sort c.in_ok-name-in_default.field-0.now c.of.result (omega arith) c.requires c.in_ok-name-in_default.ensures.name c.of.ensures.size c.of.ensures.positive (omega arith)).2.values

pub returns-in_ok-name-in_default-clause-some : goal.returns-in_ok-name-in_default-clause-some
returns-in_ok-name-in_default-clause-some c = λ name e.
    (free-numbers c.args.sorts.now c.args.sizes.now c.name.ensures.table c.args.sort name c.of.result (omega arith) c.requires e c.of.ensures.size c.of.ensures.positive (omega arith)).1
