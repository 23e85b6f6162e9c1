use Rattle.std.proofs.Common.{◌∙◌}
use Rattle.boolean_quantifiers.proofs.Noted.{contains-node}
use Rattle.boolean_quantifiers.proofs.occurrences.has.Goals as goal

pub returns : goal.returns
returns c = c.contains.ensures.value ∙ contains-node c.args.list.now c.args.id
