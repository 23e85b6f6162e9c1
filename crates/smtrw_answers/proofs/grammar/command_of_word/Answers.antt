use Rattle.smtrw_answers.proofs.GrammarNames.{no_command}
use Rattle.smtrw_answers.proofs.grammar.command_of_word.Goals as goal

pub returns-else-eq-9 : goal.returns-else-eq-9
returns-else-eq-9 c = no_command c.args.word.now c.if-eq.ensures c.if-eq-2.ensures c.if-eq-3.ensures c.if-eq-4.ensures c.if-eq-5.ensures c.if-eq-6.ensures c.if-eq-7.ensures c.if-eq-8.ensures c.if-eq-9.ensures
