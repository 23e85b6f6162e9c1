use Rattle.std.proofs.Common.{option_copied, ap, sym, ◌∙◌}
use Rattle.bit_blast.proofs.OrderBits.{top-last}
use Rattle.bit_blast.proofs.orders.top.Goals as goal

pub returns-in-Some-clause-term : goal.returns-in-Some-clause-term
returns-in-Some-clause-term c = top-last c.args.table.now c.args.a.now c.in-Some.bit.now (sym c.last.ensures.value ∙ ap option_copied c.in-Some.is)
