use Rattle.std.proofs.Common.{◌∙◌, ap}
use Rattle.term_table.specs.Formulas.{kind, tree, operands, term_over}
use Rattle.ite_free.proofs.Choosing.{ite-choice, other-choice}
use Rattle.ite_free.proofs.removal.is_term_ite.Goals as goal

pub returns-in-Ite : goal.returns-in-Ite
unfolding kind
returns-in-Ite c =
    let t = c.args.table.now in
    ite-choice (tree t c.args.id) (operands (tree t c.args.id)) c.is_formula.result (c.op.ensures.table.sorted c.args.id.0 c.requires)
    (c.op.ensures.term ∙ ap (λ p. term_over t p (operands (tree t c.args.id))) c.in-Ite.is) c.is_formula.ensures

pub returns-in_default : goal.returns-in_default
returns-in_default c =
    let t = c.args.table.now in
    other-choice t (tree t c.args.id) c.op.result (operands (tree t c.args.id)) c.in_default.not-Ite c.op.ensures.term
