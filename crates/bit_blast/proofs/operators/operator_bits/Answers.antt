use Rattle.std.proofs.Common.{◌≡◌, List, [], ◌∷◌, IfOk, refl, ap, sym, ◌∙◌, subst, arith}
use Rattle.std.proofs.lemmas.Result.{IfOk-weaker}
use Rattle.smt_terms.specs.declared.ids.NodeId.{NodeId}
use Rattle.smt_terms.specs.Groups.{Named}
use Rattle.term_table.specs.Formulas.{operands, tree, trees_at, AreNodes}
use Rattle.bit_blast.specs.BitNodes.{AreBits}
use Rattle.bit_blast.specs.Blasted.{bits}
use Rattle.bit_blast.specs.KeptBits.{HaveBits}
use Rattle.bit_blast.proofs.OperandLists.{alone-bits}
use Rattle.bit_blast.proofs.OperatorNodes.{IsOver, symbol-node, operator-node}
use Rattle.bit_blast.proofs.operators.operator_bits.Goals as goal
use Rattle.bit_blast.proofs.operators.operator_bits.Goals.{After-deref}

pub returns-in-Sym-clause-bits : goal.returns-in-Sym-clause-bits
returns-in-Sym-clause-bits c ns have =
    let t = c.args.table.now in
    let u = tree t c.args.id in
    let flag = symbol-node ns t c.in-Sym.field-0 u c.in-Sym.ensures.term c.requires.vectors c.requires.operator in
    IfOk-weaker c.alone.result (λ ks. ks.items ≡ c.args.id ∷ []) (λ ks. AreBits t ks.items (bits ns u))
    (λ ks is. subst (AreBits t ks.items) (sym flag.bits) (alone-bits t ks.items c.args.id u (record { node = c.requires.node; sort = flag.sort }) refl is))
    c.alone.ensures

kids : (c : After-deref) → trees_at c.args.table.now c.deref.result.now ≡ operands (tree c.args.table.now c.args.id)
kids c = ap (trees_at c.args.table.now) (c.deref.ensures.value ∙ c.in_ok-kids.ensures.items) ∙ c.kids.ensures.terms

nodes : (c : After-deref) → AreNodes c.args.table.now c.deref.result.now
nodes c =
    subst (λ (ks : List NodeId). AreNodes c.args.table.now ks) (sym (c.deref.ensures.value ∙ c.in_ok-kids.ensures.items))
    (λ i d lt. let below = c.kids.ensures.below i d lt in let node = c.requires.node in omega arith)

over : (c : After-deref) (ns : Named) → HaveBits c.args.table.now ns c.args.lists.now c.args.id → IsOver ns c.args.table.now c.args.lists.now c.op-op.result c.deref.result.now (tree c.args.table.now c.args.id)
over c ns have =
    operator-node ns c.args.table.now c.args.lists.now c.op-op.result c.args.id c.deref.result.now c.op-op.ensures.table c.requires.node (nodes c) c.requires.vectors c.op-op.ensures.term c.in_default.not-Sym (kids c) have

pub circuit-requires : goal.circuit-requires
circuit-requires c =
    let all = over c c.requires.operands.0 c.requires.operands.1 in
    record { table = c.op-op.ensures.table; nodes = nodes c; kids = all.has; takes = all.takes }

pub returns-clause-bits : goal.returns-clause-bits
returns-clause-bits c ns have =
    let all = over (goal.at.returns-clause-bits c).After-deref ns have in
    subst (λ us. IfOk c.circuit.result (λ ks. AreBits c.circuit.new.table ks.items us)) all.bits c.circuit.ensures.bits
