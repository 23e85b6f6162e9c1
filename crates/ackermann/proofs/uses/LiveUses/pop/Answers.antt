use Rattle.std.proofs.Common.{◌++◌, ap, ◌∙◌}
use Rattle.std.specs.Prelude.{option_to_list}
use Rattle.ackermann.proofs.KeptUses.{kept-popped, uses-popped}
use Rattle.ackermann.proofs.uses.LiveUses.pop.Goals as goal

pub invariant_of-self : goal.invariant_of-self
invariant_of-self c =
    kept-popped c.insert.result _ c.pop.new.self.entries c.self.inside.entries.entries c.self.inside.reaches.entries c.insert.new.self.entries c.unwrap-last.result c.self.invariant
    (c.pop.ensures.entries ∙ ap (λ o. c.pop.new.self.entries ++ option_to_list o) c.unwrap-last.ensures)
    (λ u. u.0) c.insert.ensures.updates c.insert.ensures.absent

pub returns : goal.returns
returns c =
    uses-popped c.pop.new.self.entries c.self.inside.entries.entries c.unwrap-last.result c.args.self.now
    (c.pop.ensures.entries ∙ ap (λ o. c.pop.new.self.entries ++ option_to_list o) c.unwrap-last.ensures) c.self.view_is
