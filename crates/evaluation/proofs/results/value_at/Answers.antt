use Rattle.std.proofs.Common.{ap, sym, ◌∙◌}
use Rattle.term_walk.specs.Places.{result_at}
use Rattle.evaluation.specs.KeptValues.{or_kept}
use Rattle.evaluation.proofs.FoundValues.{found-lookup}
use Rattle.evaluation.proofs.results.value_at.Goals as goal

pub returns-in-Some : goal.returns-in-Some
returns-in-Some c = ap (λ o. or_kept o (result_at c.args.kept.now c.args.id.0)) (c.in-Some.ensures.value ∙ sym (found-lookup c.args.found.now.entries c.args.id))

pub returns-in-None : goal.returns-in-None
returns-in-None c = c.get-in-None.ensures ∙ ap (λ o. or_kept o (result_at c.args.kept.now c.args.id.0)) (c.in-None.ensures.value ∙ sym (found-lookup c.args.found.now.entries c.args.id))
