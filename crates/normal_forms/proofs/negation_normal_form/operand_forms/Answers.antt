use Rattle.std.proofs.Common.{◌≡◌, length, sym, ◌∙◌, ap, subst}
use Rattle.std.proofs.lemmas.List.{length-map}
use Rattle.term_table.specs.Formulas.{tree, tree_in, operands}
use Rattle.normal_forms.specs.FormNodes.{positive_of, negative_of}
use Rattle.normal_forms.specs.Nnf.{nnf, nnf_not}
use Rattle.normal_forms.specs.Shape.{Takes}
use Rattle.normal_forms.proofs.NodeShapes.{AreOperands, connective-operands}
use Rattle.normal_forms.proofs.Taken.{positive-good, negative-good, taken-formulas, taken-terms}
use Rattle.normal_forms.proofs.negation_normal_form.operand_forms.Goals as goal

are_operands : (c : goal.In_ok-found) → AreOperands (tree c.args.table.now c.args.id) c.args.connective
are_operands c = connective-operands (tree c.args.table.now c.args.id) c.args.connective c.requires.formula.sort c.requires.shape

pub returns-clause-positives : goal.returns-clause-positives
returns-clause-positives c =
    taken-formulas c.args.table.now (tree c.args.table.now c.args.id) c.args.kept.now c.kids.result.now c.in_ok-found.found.0.items c.requires.related c.kids.ensures.terms (are_operands c).formulas
    positive_of nnf (positive-good c.args.table.now) c.in_ok-found.ensures.positive

pub returns-clause-negatives : goal.returns-clause-negatives
returns-clause-negatives c =
    taken-formulas c.args.table.now (tree c.args.table.now c.args.id) c.args.kept.now c.kids.result.now c.in_ok-found.found.1.items c.requires.related c.kids.ensures.terms (are_operands c).formulas
    negative_of nnf_not (negative-good c.args.table.now) c.in_ok-found.ensures.negative

pub returns-clause-yes : goal.returns-clause-yes
returns-clause-yes c =
    taken-terms c.args.table.now (tree c.args.table.now c.args.id) c.args.kept.now c.kids.result.now c.in_ok-found.found.0.items c.requires.related c.kids.ensures.terms (are_operands c).formulas
    positive_of nnf (positive-good c.args.table.now) c.in_ok-found.ensures.positive

pub returns-clause-no : goal.returns-clause-no
returns-clause-no c =
    taken-terms c.args.table.now (tree c.args.table.now c.args.id) c.args.kept.now c.kids.result.now c.in_ok-found.found.1.items c.requires.related c.kids.ensures.terms (are_operands c).formulas
    negative_of nnf_not (negative-good c.args.table.now) c.in_ok-found.ensures.negative

pub returns-clause-number : goal.returns-clause-number
returns-clause-number c =
    let count : length (operands (tree c.args.table.now c.args.id)) ≡ length c.in_ok-found.found.0.items =
    ap length (sym c.kids.ensures.terms) ∙ length-map c.kids.result.now (tree_in c.args.table.now.trees) ∙ sym c.in_ok-found.ensures.positive.number in
    subst (Takes c.args.connective) count (are_operands c).number
