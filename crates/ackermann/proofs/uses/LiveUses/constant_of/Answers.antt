use Rattle.std.proofs.Common.{Some, None, ap, sym, ◌∙◌, option_copied}
use Rattle.ackermann.proofs.KeptUses.{found-constant}
use Rattle.ackermann.proofs.uses.LiveUses.constant_of.Goals as goal

pub returns-in-Some : goal.returns-in-Some
returns-in-Some c =
    found-constant c.self.inside.entries.entries c.args.self.now c.args.node (Some c.in-Some.entry.now) c.self.invariant.chained c.self.view_is (ap option_copied (sym c.in-Some.is) ∙ c.get.ensures.value)

pub returns-in-None : goal.returns-in-None
returns-in-None c =
    found-constant c.self.inside.entries.entries c.args.self.now c.args.node None c.self.invariant.chained c.self.view_is (ap option_copied (sym c.in-None.is) ∙ c.get.ensures.value)
