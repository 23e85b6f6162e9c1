use Rattle.term_table.proofs.Ranks.{unlike-same, unlike-other}
use Rattle.term_table.proofs.table.Table.unlike.Goals as goal

pub returns-then-have-want-clause-fault : goal.returns-then-have-want-clause-fault
returns-then-have-want-clause-fault c = unlike-same c.args.self.now.sorts c.args.arg c.args.have c.args.want c.if-have-want.true

pub returns-clause-fault : goal.returns-clause-fault
returns-clause-fault c =
    unlike-other c.args.self.now.sorts c.requires.table.sorts c.args.arg c.args.have c.args.want c.requires.have c.requires.want c.if-have-want.false
