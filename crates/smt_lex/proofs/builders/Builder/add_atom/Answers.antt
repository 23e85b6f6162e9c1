use Rattle.smt_lex.proofs.Putting.{puts_atom}
use Rattle.smt_lex.proofs.builders.Builder.add_atom.Goals as goal

pub returns-clause-puts : goal.returns-clause-puts
returns-clause-puts c =
    puts_atom c.args.item c.args.self.now.place c.args.end c.args.self.now.entries.items c.push_reserved.new.self.items c.args.self.now.lists.items
    c.requires.atom c.requires.some c.requires.bars c.requires.nests c.push_reserved.ensures.items
