use Rattle.std.proofs.Common.{ap, sym, ◌∙◌, arith}
use Rattle.smt_terms.specs.Shapes.{is_atom}
use Rattle.term_table.specs.Formulas.{tree}
use Rattle.normal_forms.specs.declared.connective.Connective.TheVariants.{Not}
use Rattle.normal_forms.proofs.KeptResults.{kid-term}
use Rattle.cnf_polarity.proofs.NodeConnectives.{kind-is, seen-connective, nodes-below, kids-formulas, kids-number, literal-of-not}
use Rattle.cnf_polarity.proofs.shapes.is_literal.Goals as goal

pub bounds-kids-0 : goal.bounds-kids-0
bounds-kids-0 c =
    let one = kids-number c.args.table.now (tree c.args.table.now c.args.id) c.kids.result.now c.kids.ensures.terms Not c.requires.sort (kind-is _ c.in-Connected-Not.field-0 Not c.in-Connected-Not.field-0-is c.in-Connected-Not.ensures) in
    omega (arith, one)

pub is_atom-requires : goal.is_atom-requires
is_atom-requires c =
    let t = c.args.table.now in
    let u = tree t c.args.id in
    let one = kids-number t u c.kids.result.now c.kids.ensures.terms Not c.requires.sort (kind-is _ c.in-Connected-Not.field-0 Not c.in-Connected-Not.field-0-is c.in-Connected-Not.ensures) in
    kids-formulas t u c.kids.result.now c.kids.ensures.terms c.requires.sort (seen-connective u Not (kind-is _ c.in-Connected-Not.field-0 Not c.in-Connected-Not.field-0-is c.in-Connected-Not.ensures))
    (nodes-below t c.args.id c.kids.result.now c.requires.node c.kids.ensures.below) 0 _ (omega (arith, one))

pub returns-in-Connected-Not : goal.returns-in-Connected-Not
returns-in-Connected-Not c =
    let t = c.args.table.now in
    let u = tree t c.args.id in
    let one = kids-number t u c.kids.result.now c.kids.ensures.terms Not c.requires.sort (kind-is _ c.in-Connected-Not.field-0 Not c.in-Connected-Not.field-0-is c.in-Connected-Not.ensures) in
    c.is_atom.ensures ∙ ap is_atom (kid-term t u c.kids.result.now c.kids.ensures.terms 0 _ (omega (arith, one))) ∙ sym (literal-of-not u (kind-is _ c.in-Connected-Not.field-0 Not c.in-Connected-Not.field-0-is c.in-Connected-Not.ensures))
