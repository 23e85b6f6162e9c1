use Rattle.script_terms.proofs.DrawnConstants.{makes-constant, constant-made}
use Rattle.script_terms.proofs.constants.constant.Goals as goal

pub intern-requires : goal.intern-requires
intern-requires c = makes-constant c.args.table.now c.args.symbol c.know_table.ensures c.requires.within c.requires.args

pub returns-clause-constant : goal.returns-clause-constant
returns-clause-constant c supply spared =
    constant-made c.args.table.now c.intern.new.self supply c.args.symbol c.in_ok-node.node c.requires.within c.requires.args spared c.in_ok-node.ensures.symbols c.in_ok-node.ensures.node c.in_ok-node.ensures.term
