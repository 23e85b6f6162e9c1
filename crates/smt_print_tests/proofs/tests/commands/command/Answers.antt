use Rattle.smt_print_tests.proofs.tests.commands.command.Goals as goal

pub returns-in-112 : goal.returns-in-112
returns-in-112 g c = c.passed.ensures c.args.table.now

pub returns-in_default : goal.returns-in_default
returns-in_default g c = c.other.ensures c.args.table.now
