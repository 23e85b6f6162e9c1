use Rattle.std.proofs.Common.{◌≡◌, length, sym, ◌∙◌, ap, subst}
use Rattle.std.proofs.lemmas.List.{length-map}
use Rattle.term_table.specs.Formulas.{tree, tree_in, operands}
use Rattle.normal_forms.specs.Shape.{Takes}
use Rattle.normal_forms.proofs.Inverted.{inverted-formulas, inverted-terms}
use Rattle.normal_forms.proofs.NodeShapes.{AreOperands, connective-operands}
use Rattle.normal_forms.proofs.and_inverter_form.operand_forms.Goals as goal

are_operands : (c : goal.In_ok-found) → AreOperands (tree c.args.table.now c.args.id) c.args.connective
are_operands c = connective-operands (tree c.args.table.now c.args.id) c.args.connective c.requires.formula.sort c.requires.shape

pub returns-clause-formulas : goal.returns-clause-formulas
returns-clause-formulas c =
    inverted-formulas c.args.table.now (tree c.args.table.now c.args.id) c.args.kept.now c.kids.result.now c.in_ok-found.found.items c.requires.related c.kids.ensures.terms (are_operands c).formulas c.in_ok-found.ensures

pub returns-clause-terms : goal.returns-clause-terms
returns-clause-terms c =
    inverted-terms c.args.table.now (tree c.args.table.now c.args.id) c.args.kept.now c.kids.result.now c.in_ok-found.found.items c.requires.related c.kids.ensures.terms (are_operands c).formulas c.in_ok-found.ensures

pub returns-clause-number : goal.returns-clause-number
returns-clause-number c =
    let count : length (operands (tree c.args.table.now c.args.id)) ≡ length c.in_ok-found.found.items =
    ap length (sym c.kids.ensures.terms) ∙ length-map c.kids.result.now (tree_in c.args.table.now.trees) ∙ sym c.in_ok-found.ensures.number in
    subst (Takes c.args.connective) count (are_operands c).number
