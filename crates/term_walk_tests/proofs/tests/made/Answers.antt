use Rattle.std.proofs.Common.{refl}
use Rattle.term_table.proofs.Made.{makes_ranked}
use Rattle.term_walk_tests.proofs.tests.made.Goals as goal

pub intern-requires : goal.intern-requires
intern-requires g c = makes_ranked c.args.table.now c.args.op c.args.kids.now _ (c.if-not-are_nodes.ensures refl) c.requires.numbers c.requires.other (c.in-Ok.ensures.rank)
