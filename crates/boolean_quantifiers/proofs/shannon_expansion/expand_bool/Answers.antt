use Rattle.std.proofs.Common.{◌≡◌, false, ap, sym, ◌∙◌}
use Rattle.smt_terms.specs.Rank.{sort_of}
use Rattle.smt_terms.specs.Shapes.{is_bool}
use Rattle.smt_terms.specs.Sorts.{bool, Variable}
use Rattle.term_table.specs.Formulas.{tree, variable_of}
use Rattle.normal_forms.specs.Quantifiers.{expand_bool, expanded}
use Rattle.normal_forms.specs.Shape.{quantifier_seen}
use Rattle.quantifier_forms.proofs.Variables.{bool-named, truth-told}
use Rattle.boolean_quantifiers.proofs.Expansions.{other-bool}
use Rattle.boolean_quantifiers.proofs.shannon_expansion.expand_bool.Goals as goal

pub expanded-requires-clause-variable : goal.expanded-requires-clause-variable
expanded-requires-clause-variable c =
    let v = c.requires.variable in
    record { node = v.node; named = v.named; is = v.is; sort = bool-named v.named (ap sort_of (sym v.is) ∙ c.is_formula.ensures.0 c.if-is_formula.true) }

pub returns-then-is_formula-clause-term : goal.returns-then-is_formula-clause-term
returns-then-is_formula-clause-term c x e =
    let v = c.requires.variable in
    let body = tree c.args.table.now c.args.body in
    let sort : x.sort ≡ bool = ap (λ (y : Variable). y.sort) (sym e ∙ ap variable_of v.is) ∙ bool-named v.named (ap sort_of (sym v.is) ∙ c.is_formula.ensures.0 c.if-is_formula.true) in
    c.in_ok-form.ensures.term
    ∙ ap (λ y. expanded (quantifier_seen c.args.universal) y body) e
    ∙ ap (λ s. expand_bool s (quantifier_seen c.args.universal) x body) (sym sort)

pub returns-clause-term : goal.returns-clause-term
returns-clause-term c x e =
    let v = c.requires.variable in
    let sort : is_bool x.sort ≡ false = ap (λ (y : Variable). is_bool y.sort) (sym e ∙ ap variable_of v.is) ∙ sym (truth-told v.named c.is_formula.result (λ h. ap sort_of (sym v.is) ∙ c.is_formula.ensures.0 h) (λ h. c.is_formula.ensures.1 (ap sort_of v.is ∙ h))) ∙ c.if-is_formula.false in
    sym (other-bool x.sort (quantifier_seen c.args.universal) x (tree c.args.table.now c.args.body) sort)
