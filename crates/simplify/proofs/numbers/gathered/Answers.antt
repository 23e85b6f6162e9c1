use Rattle.simplify.proofs.GatheredNodes.{all_numbers}
use Rattle.simplify.proofs.numbers.gathered.Goals as goal

pub together-requires-clause-ids : goal.together-requires-clause-ids
together-requires-clause-ids c = all_numbers c.args.table.now c.args.op c.args.neutral c.requires.gathers c.args.ids.now c.requires.makes

pub left-requires-clause-ids : goal.left-requires-clause-ids
left-requires-clause-ids c = all_numbers c.args.table.now c.args.op c.args.neutral c.requires.gathers c.args.ids.now c.requires.makes
