use Rattle.smt_values.specs.SortIds.{sort_at}
use Rattle.script_read.specs.CommandLists.{free_name}
use Rattle.smt_print.proofs.CommandLines.{sort-declared}
use Rattle.smt_print.proofs.commands.push_sort_declaration.Goals as goal

pub returns : goal.returns
returns c =
    sort-declared c.args.out.now c.push_short.new.self c.push_sort_name.new.out c.push_short-2.new.self (free_name (sort_at c.args.table.now.sorts c.args.sort))
    c.in_ok-push_short.ensures c.in_ok-push_sort_name.ensures c.in_ok-push_short-2.ensures
