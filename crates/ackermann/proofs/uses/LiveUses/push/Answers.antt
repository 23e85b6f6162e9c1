use Rattle.std.proofs.Common.{refl, ap, sym, ◌∙◌}
use Rattle.smt_terms.specs.declared.ids.NodeId.{NodeId}
use Rattle.ackermann.specs.LiveUses.{reach}
use Rattle.ackermann.specs.declared.uses.Entry.{Entry}
use Rattle.ackermann.proofs.KeptUses.{kept-same, kept-more, put-last, one-longer, uses-pushed}
use Rattle.ackermann.proofs.uses.LiveUses.push.Goals as goal

pub invariant_of-self-in_err-insert-2 : goal.invariant_of-self-in_err-insert-2
invariant_of-self-in_err-insert-2 c =
    rw c.in_err-insert-2.ensures.err
    (kept-same c.self.inside.entries.entries c.self.inside.reaches.entries c.insert.new.self.entries c.args.live.function c.reach-earlier.result c.self.invariant
    (c.reach-earlier.ensures ∙ ap (reach c.args.live.function) (sym c.self.view_is)) c.in_ok-insert.ensures.updates.0)

pub invariant_of-self-2 : goal.invariant_of-self-2
invariant_of-self-2 c =
    let es = c.self.inside.entries.entries in
    let e : NodeId × Entry = (c.args.live.node, record { live = c.args.live; earlier = c.reach-earlier.result }) in
    let told = c.reach-earlier.ensures ∙ ap (reach c.args.live.function) (sym c.self.view_is) in
    kept-more es c.insert-2.new.self.entries c.insert.new.self.entries c.insert-3.new.self.entries e c.len-all.result
    (kept-same es c.self.inside.reaches.entries c.insert.new.self.entries c.args.live.function c.reach-earlier.result c.self.invariant told c.in_ok-insert.ensures.updates.0)
    (c.in_ok-insert-2.ensures.entries ∙ put-last c.self.inside.entries c.args.self.now e.0 e.1 c.self.invariant.chained c.self.view_is c.requires)
    refl told
    (c.len-all.ensures.len ∙ one-longer es c.insert-2.new.self.entries e (c.in_ok-insert-2.ensures.entries ∙ put-last c.self.inside.entries c.args.self.now e.0 e.1 c.self.invariant.chained c.self.view_is c.requires))
    c.in_ok-insert-3.ensures.updates.0

pub returns-clause-ok : goal.returns-clause-ok
returns-clause-ok c =
    let e : NodeId × Entry = (c.args.live.node, record { live = c.args.live; earlier = c.reach-earlier.result }) in
    uses-pushed c.self.inside.entries.entries c.insert-2.new.self.entries e c.args.self.now
    (c.in_ok-insert-2.ensures.entries ∙ put-last c.self.inside.entries c.args.self.now e.0 e.1 c.self.invariant.chained c.self.view_is c.requires) c.self.view_is
