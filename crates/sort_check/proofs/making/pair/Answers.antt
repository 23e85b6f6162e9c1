use Rattle.std.proofs.Common.{◌∙◌}
use Rattle.sort_check.proofs.Nodes.{pair_makes, pair_term}
use Rattle.sort_check.proofs.making.pair.Goals as goal

pub intern-requires : goal.intern-requires
intern-requires c = pair_makes c.args.table.now c.args.op c.args.left c.args.right c.requires.ranked c.requires.left c.requires.right

pub returns-clause-term : goal.returns-clause-term
returns-clause-term c = c.in_ok-node.ensures.term ∙ pair_term c.args.table.now c.args.op c.args.left c.args.right c.requires.ranked
