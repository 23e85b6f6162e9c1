use Rattle.smt_values.specs.SortIds.{sort_at}
use Rattle.model_texts.proofs.PrintedTables.{parameter_text}
use Rattle.model_texts.proofs.print_tables.push_parameter.Goals as goal

pub returns : goal.returns
returns c =
    parameter_text c.args.place (sort_at c.args.table.now.sorts c.args.sort) c.args.out.now.items c.push.new.self.items c.push_parameter_name.new.out.items c.push-2.new.self.items c.sort_text.new.out.items c.push-3.new.self.items
    c.in_ok-push.ensures.items c.in_ok-push_parameter_name.ensures c.in_ok-push-2.ensures.items c.in_ok-sort_text.ensures.ok c.in_ok-push-3.ensures.items
