use Rattle.std.proofs.Common.{◌∙◌}
use Rattle.script_terms.proofs.TheoryConstants.{constant_term, constant_spared}
use Rattle.script_terms.proofs.terms.theory_constants.constant.Goals as goal

pub intern-requires : goal.intern-requires
intern-requires c = c.requires.makes c.args.table.now

pub returns-clause-term : goal.returns-clause-term
returns-clause-term c = c.in_ok-node.ensures.term ∙ constant_term c.args.table.now c.args.constant c.requires

pub returns-clause-spared : goal.returns-clause-spared
returns-clause-spared c supply =
    constant_spared c.intern.new.self c.in_ok-node.node c.args.constant supply c.in_ok-node.ensures.node (c.in_ok-node.ensures.term ∙ constant_term c.args.table.now c.args.constant c.requires)
