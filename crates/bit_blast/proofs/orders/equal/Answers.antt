use Rattle.bit_blast.specs.Blasted.{term_gates}
use Rattle.bit_blast.specs.Circuits.{alike}
use Rattle.bit_blast.proofs.OrderBits.{some-bits}
use Rattle.bit_blast.proofs.orders.equal.Goals as goal

pub all_of-requires-clause-some : goal.all_of-requires-clause-some
all_of-requires-clause-some c =
    some-bits (alike term_gates) c.args.table.now c.pairs.new.table c.args.a.now c.args.b.now c.in_ok-bits.bits.items c.deref.result.now c.in_ok-bits.ensures.bits c.requires.same c.requires.some c.deref.ensures.value
