use Rattle.std.proofs.Common.{◌<◌, length, ap, ◌∙◌, arith}
use Rattle.smt_terms.specs.declared.op.Op.TheVariants.{Neg}
use Rattle.smt_terms.specs.Made.{minus}
use Rattle.smt_terms.specs.Rank.{sort_of}
use Rattle.term_table.specs.Formulas.{tree, trees_at}
use Rattle.term_subst.specs.Maps.{map_at}
use Rattle.term_subst.proofs.NodesMade.{makes-head, built-minus, minus-operand, minus-kind, other-operator, node-sort, one-term}
use Rattle.term_subst.proofs.nodes.rebuild.Goals as goal

pub bounds-kids-0 : goal.bounds-kids-0
bounds-kids-0 c =
    let t = c.args.table.now in
    let has = node-sort t c.op.ensures.table c.args.node c.requires.node in
    let one = minus-operand t Neg (tree t c.args.node) c.in-Neg.ensures.term c.requires.applied has.0 has.1 (trees_at t c.args.kids.now) c.requires.sorts minus-kind in
    let within : 0 < length c.args.kids.now = (one-term t c.args.kids.now one.0 one.1).0 in
    omega arith

pub minus-requires-clause-whole : goal.minus-requires-clause-whole
minus-requires-clause-whole c =
    let t = c.args.table.now in
    let has = node-sort t c.op.ensures.table c.args.node c.requires.node in
    let one = minus-operand t Neg (tree t c.args.node) c.in-Neg.ensures.term c.requires.applied has.0 has.1 (trees_at t c.args.kids.now) c.requires.sorts minus-kind in
    ap sort_of ((one-term t c.args.kids.now one.0 one.1).1 (record { 0 = 0 })) ∙ one.2

pub intern-requires : goal.intern-requires
intern-requires c =
    let t = c.args.table.now in
    let has = node-sort t c.op.ensures.table c.args.node c.requires.node in
    makes-head t c.op.result (tree t c.args.node) c.op.ensures.term c.requires.applied has.0 has.1 c.args.kids.now c.requires.sorts c.requires.kids c.op.ensures.numbers (other-operator c.op.result c.in_default.not-Neg)

pub returns-in_ok-result-in-Neg-clause-term : goal.returns-in_ok-result-in-Neg-clause-term
returns-in_ok-result-in-Neg-clause-term c =
    let t = c.args.table.now in
    let has = node-sort t c.op.ensures.table c.args.node c.requires.node in
    let one = minus-operand t Neg (tree t c.args.node) c.in-Neg.ensures.term c.requires.applied has.0 has.1 (trees_at t c.args.kids.now) c.requires.sorts minus-kind in
    c.in_ok-result-in-Neg.ensures.term ∙ ap minus ((one-term t c.args.kids.now one.0 one.1).1 (record { 0 = 0 }))
    ∙ built-minus t Neg (tree t c.args.node) c.in-Neg.ensures.term c.requires.applied (map_at t c.args.map.now) (trees_at t c.args.kids.now) one.0 minus-kind one.1
