use Rattle.std.proofs.Common.{sym, ◌∙◌}
use Rattle.bit_blast.proofs.OrderBits.{turned-bits}
use Rattle.bit_blast.proofs.orders.with_top_turned.Goals as goal

pub returns-clause-bits : goal.returns-clause-bits
returns-clause-bits c =
    turned-bits c.args.table.now c.negation.new.table c.args.a.now c.pop.new.self.items c.push.new.self.items c.in-Some.highest c.in_ok-turned.turned c.negation.ensures.grows c.requires.a
    (sym c.in_ok-bits.ensures.items ∙ c.in-Some.ensures.items)
    c.in_ok-turned.ensures.formula c.in_ok-turned.ensures.term c.in_ok-push.ensures.items
