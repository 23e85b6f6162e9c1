use Rattle.std.proofs.Common.{◌∙◌}
use Rattle.term_table.specs.Formulas.{tree}
use Rattle.script_terms.proofs.SameSorts.{node_sort}
use Rattle.script_terms.proofs.node_sorts.has_sort.Goals as goal

pub returns-clause-answer : goal.returns-clause-answer
returns-clause-answer c =
    c.eq.ensures ∙ node_sort c.args.table.now.sorts c.sort_of.ensures.table.sorts c.sort_of.result c.args.sort c.sort_of.ensures.within c.requires.sort (tree c.args.table.now c.args.node) c.sort_of.ensures.sort
