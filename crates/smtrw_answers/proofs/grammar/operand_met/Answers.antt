use Rattle.std.proofs.Common.{refl, subst}
use Rattle.smtrw_answers.specs.Words.{Numbered}
use Rattle.smtrw_answers.specs.Asking.{TakesOperand, command_of}
use Rattle.smtrw_answers.proofs.GrammarOperands.{too_many}
use Rattle.smtrw_answers.proofs.grammar.operand_met.Goals as goal

pub returns-in_default : goal.returns-in_default
returns-in_default c g agrees idles =
    let command = command_of c.args.command in
    let file : Numbered = record { number = c.args.number; word = c.args.word.now } in
    let full = subst (TakesOperand command g.plain file) c.in_default.is (c.with.ensures g.plain file agrees.plain refl) in
    too_many c.args.seen command c.args.number c.args.word.now g c.fault-in_default.result c.fault-in_default.ensures c.if-is_empty.ensures full
