use Rattle.std.proofs.Common.{◌+◌, ◌-◌, List, [], length, take, drop, get_or, All}
use Rattle.std.specs.Borrow.{Bor}
use Rattle.std.proofs.lemmas.List.{take_rest, drop_more, drop_all}
use Rattle.std.proofs.lemmas.List.Elements.{All-drop}
use Rattle.smt_terms.specs.declared.ids.NodeId.{NodeId}
use Rattle.normal_forms.specs.Nodes.{IsFormula}
use Rattle.bit_blast.specs.BitNodes.{AreBits}
use Rattle.bit_blast.specs.BitLoops.{apart_in}
use Rattle.bit_blast.proofs.OrderBits.{apart-start, apart-turn, apart-end, apart-some}
use Rattle.bit_blast.proofs.orders.apart.Goals as goal

pub loop-i-init : goal.loop-i-init
loop-i-init c = apart-start c.args.table.now c.args.vectors.now c.new-bits.result.items c.new-bits.ensures.items

pub loop-i-preserved : goal.loop-i-preserved
loop-i-preserved c =
    let none_yet : Bor (List NodeId) = record { ref_ptr = (0, 0); now = [] } in
    let i = c.loop-i.i in
    let vectors = c.args.vectors.now in
    apart-turn c.args.table.now c.loop-i.table c.push_apart.new.table (get_or vectors i none_yet) (drop i vectors) (drop (i + 1) vectors) (take (length vectors - (i + 1)) (drop (i + 1) vectors)) c.loop-i.bits.items c.push_apart.new.bits.items _
    c.loop-i.invariant
    (drop_more vectors i none_yet c.loop-i-test.true) (take_rest vectors (i + 1))
    (All-drop (λ (y : Bor (List NodeId)). All (IsFormula c.args.table.now) y.now) i vectors c.requires.vectors)
    (record { grows = c.push_apart.ensures.grows; symbols = c.push_apart.ensures.symbols; sorts = c.push_apart.ensures.sorts })
    c.in_ok-push_apart.ensures.bits

pub all_of-requires-clause-some : goal.all_of-requires-clause-some
all_of-requires-clause-some c =
    let bits : AreBits c.loop-i.table c.loop-i.bits.items (apart_in c.args.table.now c.args.vectors.now) = apart-end c.args.table.now c.loop-i.table (drop c.loop-i.i c.args.vectors.now) c.loop-i.bits.items _ c.loop-i.invariant (drop_all c.loop-i.i c.args.vectors.now c.loop-i-test.false) in
    apart-some c.args.table.now c.loop-i.table c.args.vectors.now c.loop-i.bits.items c.deref.result.now bits c.requires.several c.deref.ensures.value
