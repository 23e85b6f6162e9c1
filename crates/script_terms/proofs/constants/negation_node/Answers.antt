use Rattle.std.proofs.Common.{ap, ◌∙◌}
use Rattle.smt_terms.specs.Rank.{sort_of}
use Rattle.term_table.specs.Formulas.{kind}
use Rattle.script_terms.proofs.MadeConstants.{makes_negation, negation_sort}
use Rattle.script_terms.proofs.constants.negation_node.Goals as goal

pub intern-requires : goal.intern-requires
intern-requires c = makes_negation c.args.table.now c.args.node c.requires.node c.requires.sort

pub returns-clause-sort : goal.returns-clause-sort
unfolding kind
returns-clause-sort c = ap sort_of c.in_ok-negation.ensures.term ∙ negation_sort c.args.table.now c.args.node c.requires.sort
