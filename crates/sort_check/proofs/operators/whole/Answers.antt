use Rattle.std.proofs.Common.{◌∙◌}
use Rattle.std.specs.Int.{w128}
use Rattle.std.proofs.lemmas.Int.{to_z_pos}
use Rattle.sort_check.proofs.Repeating.{whole_makes, whole_term}
use Rattle.sort_check.proofs.operators.whole.Goals as goal

pub intern-requires : goal.intern-requires
intern-requires c = whole_makes c.args.table.now c.args.n _ c.requires (to_z_pos w128 c.args.n c.requires)

pub returns-clause-term : goal.returns-clause-term
returns-clause-term c = c.in_ok-node.ensures.term ∙ whole_term c.args.table.now c.args.n _ (to_z_pos w128 c.args.n c.requires)
