use Rattle.bit_blast.proofs.SettledBits.{sets-kept, kept-stay}
use Rattle.bit_blast.proofs.SettledNodes.{made-bits}
use Rattle.bit_blast.proofs.blasting.settle.Goals as goal

pub returns-clause-kept : goal.returns-clause-kept
returns-clause-kept c ns kept have =
    let old = c.args.table.now in
    let new = c.operator_bits.new.table in
    let js = c.in_ok-bits.bits in
    sets-kept new ns c.args.lists.now c.set.new.self c.args.id js.items c.in_ok-set.ensures.ok (kept-stay old new ns c.args.lists.now c.in_ok-bits.ensures.grows kept)
    (made-bits old new ns c.args.id js.items c.in_ok-bits.ensures.grows c.requires.node (c.in_ok-bits.ensures.bits ns have))
