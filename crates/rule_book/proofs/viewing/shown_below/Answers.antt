use Rattle.std.proofs.Common.{◌∙◌}
use Rattle.term_table.specs.Formulas.{tree}
use Rattle.rule_book.proofs.ShownOperators.{below-told}
use Rattle.rule_book.proofs.viewing.shown_below.Goals as goal

pub returns : goal.returns
returns c =
    let t = c.args.table.now in
    c.then_some.ensures ∙ below-told t c.op-op.result (tree t c.args.id) c.op-op.ensures.term (c.op-op.ensures.table.sorted c.args.id.0 c.requires) c.is_literal.result c.is_literal.ensures
