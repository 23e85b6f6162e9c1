use Rattle.std.proofs.Common.{rules, ◌<◌, ap, sym, ◌∙◌}
use Rattle.smt_terms.specs.Val.{sort_bits}
use Rattle.evaluation.proofs.BoundVariables.{first-sort, word-sort}
use Rattle.evaluation.proofs.bindings.bits_of.Goals as goal

pub returns-then-eq : goal.returns-then-eq
returns-then-eq c =
    let sort = c.sort_of-sort in
    ap sort_bits (sym (first-sort c.args.table.now c.args.id sort.ensures.table.sorts c.requires sort.result sort.ensures.within sort.ensures.sort (sym c.eq.ensures ∙ c.if-eq.true)))

pub overflow_cast-result : goal.overflow_cast-result
overflow_cast-result c =
    let sort = c.sort_of-sort in
    let word = word-sort c.args.table.now c.args.id sort.ensures.table.sorts c.requires sort.result sort.ensures.within sort.ensures.sort (sym c.eq.ensures ∙ c.if-eq.false) in
    let low : sort.result.0 < 130 = word.1 in
    search rules

pub returns : goal.returns
returns c =
    let sort = c.sort_of-sort in
    ap sort_bits (sym (word-sort c.args.table.now c.args.id sort.ensures.table.sorts c.requires sort.result sort.ensures.within sort.ensures.sort (sym c.eq.ensures ∙ c.if-eq.false)).2)
