use Rattle.std.proofs.Common.{◌≡◌, false, List, refl, ap, sym, ◌∙◌, subst}
use Rattle.smt_terms.specs.Rank.{sort_of}
use Rattle.smt_terms.specs.Shapes.{is_bool}
use Rattle.smt_terms.specs.Sorts.{bool, Symbol, Variable}
use Rattle.term_table.specs.Formulas.{tree, variable_of}
use Rattle.term_subst.specs.Substituting.{NeverGivesGained}
use Rattle.term_subst.proofs.Gaining.{none-gained}
use Rattle.normal_forms.specs.Shape.{quantifier_seen}
use Rattle.quantifier_forms.proofs.Variables.{bool-named, truth-told}
use Rattle.boolean_quantifiers.proofs.AtTruth.{truth-stays}
use Rattle.boolean_quantifiers.proofs.SelfNodes.{bool-solved, bool-spared, other-solved}
use Rattle.boolean_quantifiers.proofs.self_substitution.substitute_bool.Goals as goal

pub at_truth-requires-clause-variable : goal.at_truth-requires-clause-variable
at_truth-requires-clause-variable c =
    let v = c.requires.variable in
    record { node = v.node; named = v.named; is = v.is; sort = bool-named v.named (ap sort_of (sym v.is) ∙ c.is_formula.ensures.0 c.if-is_formula.true) }

pub substituted-requires-clause-variable : goal.substituted-requires-clause-variable
substituted-requires-clause-variable c =
    let v = c.requires.variable in
    truth-stays c.args.table.now c.at_truth.new.table c.args.variable c.in_ok-witness.ensures.grows
    (record { node = v.node; named = v.named; is = v.is; sort = bool-named v.named (ap sort_of (sym v.is) ∙ c.is_formula.ensures.0 c.if-is_formula.true) })

pub returns-then-is_formula-clause-term : goal.returns-then-is_formula-clause-term
returns-then-is_formula-clause-term c x e =
    let v = c.requires.variable in
    let sort : x.sort ≡ bool = ap (λ (y : Variable). y.sort) (sym e ∙ ap variable_of v.is) ∙ bool-named v.named (ap sort_of (sym v.is) ∙ c.is_formula.ensures.0 c.if-is_formula.true) in
    bool-solved c.args.table.now c.at_truth.new.table c.substituted.new.table c.args.universal c.args.variable c.args.body c.in_ok-witness.witness c.in_ok-form.form c.args.fresh.now c.substituted.new.fresh x
    c.in_ok-witness.ensures.grows v c.requires.body sort e c.in_ok-witness.ensures.term c.in_ok-form.ensures.term c.in_ok-form.ensures.left

pub returns-then-is_formula-clause-names : goal.returns-then-is_formula-clause-names
returns-then-is_formula-clause-names c =
    let v = c.requires.variable in
    bool-spared c.args.table.now c.at_truth.new.table c.substituted.new.table c.args.universal c.args.variable c.args.body c.in_ok-witness.witness c.in_ok-form.form c.args.fresh.now c.substituted.new.fresh v.named
    c.in_ok-witness.ensures.grows v c.requires.body (bool-named v.named (ap sort_of (sym v.is) ∙ c.is_formula.ensures.0 c.if-is_formula.true)) (ap variable_of v.is) c.in_ok-witness.ensures.term c.in_ok-form.ensures.term c.in_ok-form.ensures.left c.requires.names

pub returns-clause-term : goal.returns-clause-term
returns-clause-term c x e =
    let v = c.requires.variable in
    let sort : is_bool x.sort ≡ false = ap (λ (y : Variable). is_bool y.sort) (sym e ∙ ap variable_of v.is) ∙ sym (truth-told v.named c.is_formula.result (λ h. ap sort_of (sym v.is) ∙ c.is_formula.ensures.0 h) (λ h. c.is_formula.ensures.1 (ap sort_of v.is ∙ h))) ∙ c.if-is_formula.false in
    sym (other-solved x.sort (quantifier_seen c.args.universal) x (tree c.args.table.now c.args.body, c.args.fresh.now) sort)

pub returns-in_err-witness-clause-drawn : goal.returns-in_err-witness-clause-drawn
returns-in_err-witness-clause-drawn c = none-gained c.args.fresh.now c.args.table.now.symbols c.at_truth.new.table.symbols c.at_truth.ensures.symbols

pub returns-in_err-form-clause-drawn : goal.returns-in_err-form-clause-drawn
returns-in_err-form-clause-drawn c = subst (λ (fs : List Symbol). NeverGivesGained c.substituted.new.fresh fs c.substituted.new.table.symbols) c.at_truth.ensures.symbols c.substituted.ensures.drawn

pub returns-then-is_formula-clause-drawn : goal.returns-then-is_formula-clause-drawn
returns-then-is_formula-clause-drawn c = subst (λ (fs : List Symbol). NeverGivesGained c.substituted.new.fresh fs c.substituted.new.table.symbols) c.at_truth.ensures.symbols c.substituted.ensures.drawn

pub returns-clause-drawn : goal.returns-clause-drawn
returns-clause-drawn c = none-gained c.args.fresh.now c.args.table.now.symbols c.args.table.now.symbols refl
