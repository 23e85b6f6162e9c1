use Rattle.std.proofs.Common.{false, codes, sym, ◌∙◌}
use Rattle.script_terms.specs.Parts.{symbol_in, is_name}
use Rattle.script_terms.specs.Places.{form_from}
use Rattle.model_texts.specs.Tables.{truth_equation, parameter_in}
use Rattle.model_texts.proofs.EquationsFound.{taken, left_out}
use Rattle.model_texts.proofs.conditions.denial.Goals as goal

pub returns-then-not-is_named : goal.returns-then-not-is_named
returns-then-not-is_named c =
    let ts = c.args.forest.now.tokens in
    left_out ts c.args.sorts.now c.args.parameters.now c.requires.count (is_name (codes "not") (symbol_in (form_from ts c.args.word))) (λ ys. truth_equation false (parameter_in ys (form_from ts c.args.operand)))
    (sym c.is_named.ensures ∙ c.if-not-is_named.true)

pub returns : goal.returns
returns c =
    let ts = c.args.forest.now.tokens in
    taken ts c.args.sorts.now c.args.parameters.now c.requires.count (is_name (codes "not") (symbol_in (form_from ts c.args.word))) (λ ys. truth_equation false (parameter_in ys (form_from ts c.args.operand)))
    c.truth_equation.result (sym c.is_named.ensures ∙ c.if-not-is_named.false) c.truth_equation.ensures
