use Rattle.std.proofs.Common.{◌+◌, List, [], drop, get_or, refl}
use Rattle.std.specs.Borrow.{Bor}
use Rattle.std.proofs.lemmas.List.{drop_more, drop_all}
use Rattle.smt_terms.specs.declared.ids.NodeId.{NodeId}
use Rattle.bit_blast.proofs.BitLists.{gains-self}
use Rattle.bit_blast.proofs.OrderBits.{unequal-turn, unequal-end}
use Rattle.bit_blast.proofs.orders.push_apart.Goals as goal

pub loop-b-init : goal.loop-b-init
loop-b-init c = record { gains = gains-self c.args.table.now; bits = record { formulas = c.requires.bits; terms = refl } }

pub loop-b-preserved : goal.loop-b-preserved
loop-b-preserved c =
    let none_yet : Bor (List NodeId) = record { ref_ptr = (0, 0); now = [] } in
    let i = c.loop-b.b-index in
    let others = c.args.others.now in
    unequal-turn c.args.table.now c.loop-b.table c.equal.new.table c.negation.new.table c.args.a.now (get_or others i none_yet) (drop i others) (drop (i + 1) others) c.in_ok-same.same c.in_ok-apart.apart c.loop-b.bits.items c.push.new.self.items _
    c.loop-b.invariant
    (drop_more others i none_yet c.loop-b-test.true)
    c.requires.a (c.requires.others i none_yet c.loop-b-test.true)
    (record { grows = c.equal.ensures.grows; symbols = c.equal.ensures.symbols; sorts = c.equal.ensures.sorts })
    c.in_ok-same.ensures.term
    (record { grows = c.negation.ensures.grows; symbols = c.negation.ensures.symbols; sorts = c.negation.ensures.sorts })
    c.in_ok-apart.ensures.formula c.in_ok-apart.ensures.term c.in_ok-push.ensures.items

pub returns-clause-bits : goal.returns-clause-bits
returns-clause-bits c =
    unequal-end c.args.table.now c.loop-b.table c.args.a.now (drop c.loop-b.b-index c.args.others.now) c.loop-b.bits.items _ c.loop-b.invariant
    (drop_all c.loop-b.b-index c.args.others.now c.loop-b-test.false)
