use Rattle.std.proofs.Common.{◌∙◌}
use Rattle.std.proofs.lemmas.Result.{IfOk-weaker}
use Rattle.term_table.specs.Formulas.{kind, tree, operands}
use Rattle.cnf_polarity.proofs.ComplementTerms.{complement-truth, complement-other}
use Rattle.cnf_polarity.proofs.complement.complement.Goals as goal

pub returns-in-Truth-clause-term : goal.returns-in-Truth-clause-term
unfolding kind
returns-in-Truth-clause-term c =
    let u = tree c.args.table.now c.args.id in
    IfOk-weaker c.truth.result _ _ (λ k h. h ∙ complement-truth u (operands u) c.in-Truth.value c.in-Truth.ensures.term c.requires.sort) c.truth.ensures.term

pub returns-in_default-clause-term : goal.returns-in_default-clause-term
returns-in_default-clause-term c =
    let u = tree c.args.table.now c.args.id in
    IfOk-weaker c.opposite.result _ _ (λ k h. h ∙ complement-other c.args.table.now c.op.result u c.op.ensures.term c.in_default.not-Truth) c.opposite.ensures.term
