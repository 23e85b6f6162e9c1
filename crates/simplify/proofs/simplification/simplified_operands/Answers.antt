use Rattle.term_table.specs.Formulas.{tree}
use Rattle.simplify.proofs.SimplifiedNodes.{simplified-nodes, simplified-terms}
use Rattle.simplify.proofs.simplification.simplified_operands.Goals as goal

pub returns-clause-nodes : goal.returns-clause-nodes
returns-clause-nodes c =
    simplified-nodes c.args.table.now (tree c.args.table.now c.args.id) c.args.kept.now c.kids.result.now c.in_ok-found.found.items c.requires.related c.kids.ensures.terms c.in_ok-found.ensures

pub returns-clause-terms : goal.returns-clause-terms
returns-clause-terms c =
    simplified-terms c.args.table.now (tree c.args.table.now c.args.id) c.args.kept.now c.kids.result.now c.in_ok-found.found.items c.requires.related c.kids.ensures.terms c.in_ok-found.ensures
