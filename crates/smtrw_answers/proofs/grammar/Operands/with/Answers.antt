use Rattle.std.proofs.Common.{◌∙◌, sym, subst}
use Rattle.smtrw_answers.specs.Asking.{HasOperands}
use Rattle.smtrw_answers.proofs.GrammarOperands.{first_operand, second_operand}
use Rattle.smtrw_answers.proofs.grammar.Operands.with.Goals as goal

pub returns-in-Absent : goal.returns-in-Absent
returns-in-Absent c plain f has number = first_operand c.args.command plain f c.args.word (subst (λ os. HasOperands os plain) c.in-Absent.is has) number

pub returns-in-One : goal.returns-in-One
returns-in-One c plain f has number =
    second_operand c.args.command plain f c.in-One.first c.args.word (sym c.takes_two.ensures ∙ c.if-takes_two.true) (subst (λ os. HasOperands os plain) c.in-One.is has) number
