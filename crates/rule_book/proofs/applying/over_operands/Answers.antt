use Rattle.std.proofs.Common.{◌∙◌}
use Rattle.term_table.specs.Formulas.{tree, trees_at}
use Rattle.rule_book.proofs.RuledTerms.{over-operands}
use Rattle.rule_book.proofs.applying.over_operands.Goals as goal

pub make-requires-clause-ranked : goal.make-requires-clause-ranked
make-requires-clause-ranked c =
    let t = c.args.table.now in
    (over-operands t c.op-op.result (tree t c.args.id) (trees_at t c.args.kids.now) (c.op-op.ensures.table.sorted c.args.id.0 c.requires.node) c.requires.applied c.op-op.ensures.term c.requires.sorts).ranked

pub returns-clause-term : goal.returns-clause-term
returns-clause-term c =
    let t = c.args.table.now in
    c.in_ok-made.ensures.term
    ∙ (over-operands t c.op-op.result (tree t c.args.id) (trees_at t c.args.kids.now) (c.op-op.ensures.table.sorted c.args.id.0 c.requires.node) c.requires.applied c.op-op.ensures.term c.requires.sorts).term
