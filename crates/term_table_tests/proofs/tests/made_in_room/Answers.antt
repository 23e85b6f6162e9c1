use Rattle.term_table.proofs.Made.{makes_ranked}
use Rattle.term_table_tests.proofs.tests.made_in_room.Goals as goal

pub intern_reserved-requires-clause-makes : goal.intern_reserved-requires-clause-makes
intern_reserved-requires-clause-makes g c = makes_ranked c.args.table.now c.args.op c.args.kids.now _ c.requires.kids c.requires.numbers c.requires.other c.in-Ok.ensures.rank
