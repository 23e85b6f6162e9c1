use Rattle.std.proofs.Common.{map, ap, sym, ◌∙◌}
use Rattle.smt_values.specs.Meaning.{scalar_value}
use Rattle.simplify.specs.Folding.{divides_by_zero}
use Rattle.simplify.proofs.FoldedConstants.{over-div, over-mod, never-divides}
use Rattle.simplify.proofs.folding.divides_by_zero.Goals as goal

pub returns-in-Div : goal.returns-in-Div
returns-in-Div c =
    let vs = map scalar_value c.args.args.now in
    c.is_over_zero.ensures ∙ sym (over-div vs) ∙ ap (λ o. divides_by_zero o vs) (sym c.in-Div.is)

pub returns-in-Mod : goal.returns-in-Mod
returns-in-Mod c =
    let vs = map scalar_value c.args.args.now in
    c.is_over_zero-in-Mod.ensures ∙ sym (over-mod vs) ∙ ap (λ o. divides_by_zero o vs) (sym c.in-Mod.is)

pub returns-in_default : goal.returns-in_default
returns-in_default c = sym (never-divides c.args.op (map scalar_value c.args.args.now) c.in_default.not-Div c.in_default.not-Mod)
