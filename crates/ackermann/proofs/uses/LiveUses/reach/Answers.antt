use Rattle.std.proofs.Common.{ap, ◌∙◌}
use Rattle.std.specs.Prelude.{unwrap_or}
use Rattle.ackermann.specs.LiveUses.{reach}
use Rattle.ackermann.proofs.KeptUses.{reach-lookup}
use Rattle.ackermann.proofs.uses.LiveUses.reach.Goals as goal

pub returns : goal.returns
returns c =
    c.unwrap_or.ensures
    ∙ ap (λ o. unwrap_or o 0) (c.copied.ensures ∙ c.get.ensures.value)
    ∙ reach-lookup c.self.inside.reaches.entries c.args.function
    ∙ c.self.invariant.reached c.args.function
    ∙ ap (reach c.args.function) c.self.view_is
