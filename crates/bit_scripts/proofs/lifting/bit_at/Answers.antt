use Rattle.std.proofs.Common.{[]}
use Rattle.smt_terms.specs.declared.ids.NodeId.{NodeId}
use Rattle.bit_scripts.proofs.BitNodes.{part_operator, variable_operator, bit_read}
use Rattle.bit_scripts.proofs.lifting.bit_at.Goals as goal

pub unreachable-requires : goal.unreachable-requires
unreachable-requires c =
    let t = c.args.table.now in
    let d : NodeId = record { 0 = 0 } in
    let bit = c.requires.bit in
    c.in_default.not-Extract bit.place bit.place (part_operator t c.args.id bit c.kids.result.now [] d c.kids.ensures.terms c.op.result c.op.ensures.term)

pub unreachable-requires-in_default-op : goal.unreachable-requires-in_default-op
unreachable-requires-in_default-op c =
    let t = c.args.table.now in
    let d : NodeId = record { 0 = 0 } in
    let found = variable_operator t c.args.id c.requires.bit c.kids.result.now c.kids-2.result.now d c.kids.ensures.terms c.kids-2.ensures.terms c.op-2.result c.op-2.ensures.numbers c.op-2.ensures.term in
    c.in_default-op.not-Sym found.number found.is

pub returns : goal.returns
returns c =
    let t = c.args.table.now in
    let d : NodeId = record { 0 = 0 } in
    bit_read t c.args.id c.requires.bit c.kids.result.now c.kids-2.result.now d c.kids.ensures.terms c.kids-2.ensures.terms c.op.result c.op-2.result c.in-Extract.high c.in-Extract.low c.in-Sym.constant
    c.op-2.ensures.numbers c.op.ensures.term c.op-2.ensures.term c.in-Extract.is c.in-Sym.is
