use Rattle.std.proofs.Common.{◌+◌, drop, get_or}
use Rattle.std.proofs.lemmas.List.{drop_more, drop_all}
use Rattle.smt_terms.specs.declared.ids.NodeId.{NodeId}
use Rattle.bit_blast.specs.Blasted.{term_gates}
use Rattle.bit_blast.specs.Circuits.{inverse}
use Rattle.bit_blast.proofs.BitLists.{map-start, map-turn, map-end}
use Rattle.bit_blast.proofs.gates.inverses.Goals as goal

pub loop-x-init : goal.loop-x-init
loop-x-init c = map-start (inverse term_gates) c.args.table.now c.args.a.now c.in_ok-bits.bits.items c.requires.a c.in_ok-bits.ensures.items

pub loop-x-preserved : goal.loop-x-preserved
loop-x-preserved c =
    let none_yet : NodeId = record { 0 = 0 } in
    let i = c.loop-x.x-index in
    map-turn (inverse term_gates) c.args.table.now c.loop-x.table c.negation.new.table (get_or c.args.a.now i none_yet) c.in_ok-bit.bit (drop (i + 1) c.args.a.now) (drop i c.args.a.now) c.loop-x.bits.items c.push.new.self.items _
    c.loop-x.invariant
    (drop_more c.args.a.now i none_yet c.loop-x-test.true)
    (record { grows = c.negation.ensures.grows; symbols = c.negation.ensures.symbols; sorts = c.negation.ensures.sorts })
    c.in_ok-bit.ensures.formula c.in_ok-bit.ensures.term c.in_ok-push.ensures.items

pub returns-clause-bits : goal.returns-clause-bits
returns-clause-bits c =
    map-end (inverse term_gates) c.args.table.now c.loop-x.table (drop c.loop-x.x-index c.args.a.now) c.loop-x.bits.items _ c.loop-x.invariant
    (drop_all c.loop-x.x-index c.args.a.now c.loop-x-test.false)
