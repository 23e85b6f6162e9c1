use Rattle.std.proofs.Common.{◌≡◌, ◌<◌, length, ap, sym, ◌∙◌, subst, arith}
use Rattle.smt_terms.specs.declared.ids.NodeId.{NodeId}
use Rattle.smt_terms.specs.Connectives.{negation}
use Rattle.normal_forms.specs.declared.connective.Connective.TheVariants.{Not}
use Rattle.normal_forms.specs.Nodes.{IsFormula}
use Rattle.term_table.specs.Formulas.{tree}
use Rattle.cnf_polarity.specs.Cnf.{complement}
use Rattle.cnf_polarity.proofs.NodeConnectives.{kind-is, kids-number}
use Rattle.cnf_polarity.proofs.KeptNegations.{kind-negation, operand-literal, negation-literal}
use Rattle.cnf_polarity.proofs.literals.keep_negation.Goals as goal

pub bounds-kids-0 : goal.bounds-kids-0
bounds-kids-0 c =
    let one = kids-number c.args.table.now (tree c.args.table.now c.args.id) c.kids.result.now c.kids.ensures.terms Not c.requires.formula.sort (kind-is _ c.in-Some-Not.field-0 Not c.in-Some-Not.field-0-is c.in-Some-Not.ensures.connective) in
    omega (arith, one)

pub complement-requires : goal.complement-requires
complement-requires c =
    let none_yet : NodeId = record { 0 = 0 } in
    let t = c.args.table.now in
    let u = tree t c.args.id in
    let kids = c.kids.result.now in
    let kind = kind-is u c.in-Some-Not.field-0 Not c.in-Some-Not.field-0-is c.in-Some-Not.ensures.connective in
    let one : length kids ≡ 1 = kids-number t u kids c.kids.ensures.terms Not c.requires.formula.sort kind in
    let some : 0 < length kids = omega (arith, one) in
    let kept = operand-literal t c.requires.ready.0 c.args.literals.now c.args.id kids none_yet c.kids.ensures.terms some (c.kids.ensures.below 0 none_yet some) (kind-negation u negation kind) c.requires.ready.1 in
    subst (λ (k : NodeId). IsFormula t k) (sym c.known-inner.ensures) kept.formula

pub returns-in_ok-set-clause-literal : goal.returns-in_ok-set-clause-literal
returns-in_ok-set-clause-literal c ns ready =
    let none_yet : NodeId = record { 0 = 0 } in
    let t = c.args.table.now in
    let u = tree t c.args.id in
    let kids = c.kids.result.now in
    let kind = kind-is u c.in-Some-Not.field-0 Not c.in-Some-Not.field-0-is c.in-Some-Not.ensures.connective in
    let one : length kids ≡ 1 = kids-number t u kids c.kids.ensures.terms Not c.requires.formula.sort kind in
    let some : 0 < length kids = omega (arith, one) in
    let made = c.in_ok-literal.ensures in
    negation-literal t ns c.args.literals.now c.args.id kids none_yet c.kids.ensures.terms some (c.kids.ensures.below 0 none_yet some) (kind-negation u negation kind) ready
    c.complement.new.table c.set.new.self c.in_ok-literal.literal made.grows c.requires.formula.node kind made.formula (made.term ∙ ap (λ (k : NodeId). complement (tree t k)) c.known-inner.ensures) c.in_ok-set.ensures.ok
