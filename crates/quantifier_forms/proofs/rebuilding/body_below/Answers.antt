use Rattle.term_table.specs.Formulas.{tree}
use Rattle.normal_forms.proofs.Bound.{body-term}
use Rattle.quantifier_forms.proofs.rebuilding.body_below.Goals as goal

pub returns-clause-term : goal.returns-clause-term
returns-clause-term c = body-term c.args.table.now (tree c.args.table.now c.args.id) c.requires.quantified c.kids-kids.result.now c.kids-kids.ensures.terms (record { 0 = 0 })
