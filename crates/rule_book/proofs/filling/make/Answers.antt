use Rattle.std.proofs.Common.{◌∙◌, arith}
use Rattle.term_table.specs.Formulas.{trees_at}
use Rattle.rule_book.proofs.Fillings.{minus-operand, makes-other, remade-other}
use Rattle.rule_book.proofs.filling.make.Goals as goal

pub bounds-kids-0 : goal.bounds-kids-0
bounds-kids-0 c =
    let n = (minus-operand c.args.table.now c.args.op c.args.kids.now c.know_table.ensures c.in-Neg.is c.requires.kids c.requires.ranked).number in
    omega arith

pub minus-requires-clause-node : goal.minus-requires-clause-node
minus-requires-clause-node c = (minus-operand c.args.table.now c.args.op c.args.kids.now c.know_table.ensures c.in-Neg.is c.requires.kids c.requires.ranked).node (record { 0 = 0 })

pub minus-requires-clause-whole : goal.minus-requires-clause-whole
minus-requires-clause-whole c = (minus-operand c.args.table.now c.args.op c.args.kids.now c.know_table.ensures c.in-Neg.is c.requires.kids c.requires.ranked).whole (record { 0 = 0 })

pub intern-requires : goal.intern-requires
intern-requires c = makes-other c.args.table.now c.args.op c.in_default.not-Neg c.args.kids.now c.requires.kids c.requires.numbers c.requires.ranked

pub returns-in_ok-id-in-Neg-clause-term : goal.returns-in_ok-id-in-Neg-clause-term
returns-in_ok-id-in-Neg-clause-term c =
    c.in_ok-id-in-Neg.ensures.term
    ∙ (minus-operand c.args.table.now c.args.op c.args.kids.now c.know_table.ensures c.in-Neg.is c.requires.kids c.requires.ranked).term (record { 0 = 0 })

pub returns-in_ok-id-in_default-clause-term : goal.returns-in_ok-id-in_default-clause-term
returns-in_ok-id-in_default-clause-term c =
    c.in_ok-id-in_default.ensures.term ∙ remade-other c.args.table.now c.args.op c.in_default.not-Neg (trees_at c.args.table.now c.args.kids.now)
