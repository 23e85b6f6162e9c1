use Rattle.smt_values.specs.SortIds.{sort_at}
use Rattle.term_subst.proofs.Gaining.{gains-both, gains-draw, gains-nodes, gains-unchanged}
use Rattle.term_groups.proofs.NodesDrawn.{drawn-makes, is-drawn}
use Rattle.term_groups.proofs.constants.draw_constant.Goals as goal

pub intern-requires : goal.intern-requires
intern-requires c =
    let old = c.args.table.now in
    drawn-makes old c.next.new.table c.args.id (sort_at old.sorts c.sort_of-sort.result) c.in_ok-symbol.symbol c.args.fresh.now c.sort_of-sort.ensures.sort c.in_ok-symbol.ensures.symbol c.in_ok-symbol.ensures.within

pub returns-in_err-node-clause-gains : goal.returns-in_err-node-clause-gains
returns-in_err-node-clause-gains c =
    let old = c.args.table.now in
    gains-both old c.next.new.table c.intern.new.self c.args.fresh.now c.next.new.self c.next.new.self
    (gains-draw old c.next.new.table c.args.fresh.now c.next.new.self (sort_at old.sorts c.sort_of-sort.result) c.in_ok-symbol.ensures.added c.in_ok-symbol.ensures.trees c.in_ok-symbol.ensures.sorts c.in_ok-symbol.ensures.left)
    (gains-unchanged c.next.new.table c.intern.new.self c.next.new.self c.in_err-node.ensures.err)

pub returns-clause-gains : goal.returns-clause-gains
returns-clause-gains c =
    let old = c.args.table.now in
    gains-both old c.next.new.table c.intern.new.self c.args.fresh.now c.next.new.self c.next.new.self
    (gains-draw old c.next.new.table c.args.fresh.now c.next.new.self (sort_at old.sorts c.sort_of-sort.result) c.in_ok-symbol.ensures.added c.in_ok-symbol.ensures.trees c.in_ok-symbol.ensures.sorts c.in_ok-symbol.ensures.left)
    (gains-nodes c.next.new.table c.intern.new.self c.next.new.self c.in_ok-node.ensures.grows.grows c.in_ok-node.ensures.symbols c.in_ok-node.ensures.sorts)

pub returns-clause-drawn : goal.returns-clause-drawn
returns-clause-drawn c =
    let old = c.args.table.now in
    is-drawn old c.next.new.table c.args.id (sort_at old.sorts c.sort_of-sort.result) c.in_ok-symbol.symbol c.args.fresh.now c.sort_of-sort.ensures.sort c.in_ok-symbol.ensures.symbol c.in_ok-symbol.ensures.within
    c.intern.new.self c.in_ok-node.node c.next.new.self c.in_ok-node.ensures.symbols c.in_ok-node.ensures.node c.in_ok-node.ensures.term c.in_ok-symbol.ensures.left
