use Rattle.std.proofs.Common.{◌∙◌}
use Rattle.sort_check.proofs.Answering.{is_ok}
use Rattle.sort_check.proofs.Nodes.{pair_makes, pair_rank, pair_term}
use Rattle.sort_check.proofs.making.pair_of_sort.Goals as goal

pub intern_of_sort-requires-clause-makes : goal.intern_of_sort-requires-clause-makes
intern_of_sort-requires-clause-makes c = pair_makes c.args.table.now c.args.op c.args.left c.args.right (is_ok c.requires.ranked) c.requires.left c.requires.right

pub intern_of_sort-requires-clause-rank : goal.intern_of_sort-requires-clause-rank
intern_of_sort-requires-clause-rank c = pair_rank c.args.table.now c.args.op c.args.left c.args.right (is_ok c.requires.ranked) ∙ c.requires.ranked

pub returns-clause-term : goal.returns-clause-term
returns-clause-term c = c.in_ok-node.ensures.term ∙ pair_term c.args.table.now c.args.op c.args.left c.args.right (is_ok c.requires.ranked)
