use Rattle.std.proofs.Common.{sym, ◌∙◌}
use Rattle.term_table.specs.Formulas.{tree}
use Rattle.ackermann.specs.Ackermann.{has_quantified_use}
use Rattle.ackermann.proofs.MarkedNodes.{operands-marked, quantified-itself, quantified-below}
use Rattle.ackermann.proofs.quantified.is_refused.Goals as goal

pub returns-then-is_binder : goal.returns-then-is_binder
returns-then-is_binder c done applied are ready = applied ∙ quantified-itself (tree c.args.table.now c.args.id) (sym c.is_binder.ensures ∙ c.if-is_binder.true)

pub returns : goal.returns
returns c done applied are ready =
    c.has_any.ensures
    ∙ operands-marked c.args.table.now has_quantified_use c.args.refused.now.keys done c.kids.result.now c.args.id are c.requires ready c.kids.ensures.terms c.kids.ensures.below
    ∙ quantified-below (tree c.args.table.now c.args.id) (sym c.is_binder.ensures ∙ c.if-is_binder.false)
