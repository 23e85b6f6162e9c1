use Rattle.std.proofs.Common.{◌+◌, List, get_or, sym, subst}
use Rattle.smt_terms.specs.declared.ids.NodeId.{NodeId}
use Rattle.sort_check.proofs.Linking.{Links, links_none, next_takes, links_next, links_done}
use Rattle.sort_check.proofs.chains.links.Goals as goal

pub loop-right-init : goal.loop-right-init
loop-right-init c =
    subst (λ (l : List NodeId). Links c.args.table.now c.args.table.now c.args.op c.args.exchanged c.args.first c.args.rest.now l c.args.first 0) (sym c.new-links.ensures.items)
    (links_none c.args.table.now c.args.op c.args.exchanged c.args.first c.args.rest.now c.requires.takes)

pub link-requires : goal.link-requires
link-requires c =
    next_takes c.args.table.now c.args.op c.args.exchanged c.args.first c.args.rest.now c.requires.takes c.requires.apt c.loop-right.table c.loop-right.links.items c.loop-right.left c.loop-right.right-index _ c.loop-right-test.true c.loop-right.invariant

pub loop-right-preserved : goal.loop-right-preserved
loop-right-preserved c =
    subst (λ (l : List NodeId). Links c.args.table.now c.link.new.table c.args.op c.args.exchanged c.args.first c.args.rest.now l (get_or c.args.rest.now c.loop-right.right-index (record { 0 = 0 })) (c.loop-right.right-index + 1)) (sym c.in_ok-push.ensures.items)
    (links_next c.args.table.now c.args.op c.args.exchanged c.args.first c.args.rest.now c.requires.takes c.requires.apt c.loop-right.table c.loop-right.links.items c.loop-right.left c.loop-right.right-index _ c.loop-right-test.true c.loop-right.invariant
    c.link.new.table c.in_ok-link.field-0 c.in_ok-link.ensures.extends c.in_ok-link.ensures.node c.in_ok-link.ensures.term)

pub returns-clause-terms : goal.returns-clause-terms
returns-clause-terms c =
    links_done c.args.table.now c.args.op c.args.exchanged c.args.first c.args.rest.now c.requires.takes c.loop-right.table c.loop-right.links.items c.loop-right.left c.loop-right.right-index c.loop-right-test.false c.loop-right.auto.right-index-end c.loop-right.invariant
