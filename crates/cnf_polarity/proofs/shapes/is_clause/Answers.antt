use Rattle.std.proofs.Common.{ap, sym, ◌∙◌}
use Rattle.smt_terms.specs.Shapes.{are_literals}
use Rattle.smt_terms.specs.Term.{terms}
use Rattle.term_table.specs.Formulas.{tree}
use Rattle.normal_forms.specs.declared.connective.Connective.TheVariants.{Or}
use Rattle.cnf_polarity.proofs.NodeConnectives.{kind-is, clause-of-or, seen-connective, nodes-below, kids-formulas}
use Rattle.cnf_polarity.proofs.shapes.is_clause.Goals as goal

pub are_literals-requires : goal.are_literals-requires
are_literals-requires c =
    let t = c.args.table.now in
    let u = tree t c.args.id in
    kids-formulas t u c.kids.result.now c.kids.ensures.terms c.requires.sort (seen-connective u Or (kind-is _ c.in-Connected-Or.field-0 Or c.in-Connected-Or.field-0-is c.in-Connected-Or.ensures))
    (nodes-below t c.args.id c.kids.result.now c.requires.node c.kids.ensures.below)

pub returns-in-Connected-Or : goal.returns-in-Connected-Or
returns-in-Connected-Or c =
    let t = c.args.table.now in
    let u = tree t c.args.id in
    c.are_literals.ensures ∙ ap (λ us. are_literals (terms us)) c.kids.ensures.terms ∙ sym (clause-of-or u (kind-is _ c.in-Connected-Or.field-0 Or c.in-Connected-Or.field-0-is c.in-Connected-Or.ensures))
