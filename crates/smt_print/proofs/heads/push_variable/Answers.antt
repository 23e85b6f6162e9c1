use Rattle.smt_values.specs.SortIds.{sort_at}
use Rattle.term_table.specs.Formulas.{tree}
use Rattle.smt_print.proofs.HeadTexts.{variable-text}
use Rattle.smt_print.proofs.heads.push_variable.Goals as goal

pub returns : goal.returns
returns c x is =
    variable-text c.args.out.now c.push.new.self c.push_head.new.out c.push-2.new.self c.push_sort.new.out c.push-3.new.self
    (tree c.args.table.now c.args.id) (sort_at c.args.table.now.sorts c.sort_of.result) x is c.sort_of.ensures.sort
    c.in_ok-push.ensures c.in_ok-push_head.ensures c.in_ok-push-2.ensures c.in_ok-push_sort.ensures c.in_ok-push-3.ensures
