use Rattle.std.proofs.Common.{sym, ◌∙◌}
use Rattle.smt_terms.proofs.Operators.{Decides-derived}
use Rattle.smt_terms.proofs.op.Op.is.Goals as goal

pub returns : goal.returns
returns c =
    let told = Decides-derived c.args.self c.args.other in
    (λ h. told.0 (sym c.eq.ensures ∙ h), λ e. c.eq.ensures ∙ told.1 e)
