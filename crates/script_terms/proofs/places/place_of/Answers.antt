use Rattle.std.proofs.Common.{sym, ◌∙◌}
use Rattle.script_terms.proofs.Placing.{place_here}
use Rattle.script_terms.proofs.places.place_of.Goals as goal

pub returns-clause-place : goal.returns-clause-place
returns-clause-place c = c.span.ensures.start ∙ sym (place_here c.args.forest.now.tokens c.args.i c.requires)
