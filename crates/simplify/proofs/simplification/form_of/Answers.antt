use Rattle.std.proofs.Common.{sym, ◌∙◌}
use Rattle.term_table.specs.Formulas.{tree}
use Rattle.simplify.proofs.SimplifiedNodes.{no-operands, leaf-simple}
use Rattle.simplify.proofs.simplification.form_of.Goals as goal

pub returns-then-is_empty-clause-form : goal.returns-then-is_empty-clause-form
returns-then-is_empty-clause-form c =
    let t = c.args.table.now in
    record {
      node = c.requires.node;
      term = leaf-simple (tree t c.args.id) (c.kids.ensures.table.sorted c.args.id.0 c.requires.node) (sym c.is_binder.ensures ∙ c.if-is_binder.false) (sym c.kids.ensures.terms ∙ no-operands t c.kids.result.now c.is_empty.result c.is_empty.ensures c.if-is_empty.true);
    }
