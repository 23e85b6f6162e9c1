use Rattle.std.proofs.Common.{refl}
use Rattle.smt_lex.proofs.Putting.{puts_left}
use Rattle.smt_lex.proofs.builders.Builder.add_left.Goals as goal

pub returns-clause-puts : goal.returns-clause-puts
returns-clause-puts c =
    puts_left c.args.self.now.place _ c.args.self.now.entries.items c.push_reserved-2.new.self.items c.args.self.now.lists.items c.push_reserved.new.self.items
    refl c.requires.nests (cc (c.push_reserved.ensures.items)) c.push_reserved-2.ensures.items
