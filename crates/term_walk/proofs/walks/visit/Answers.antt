use Rattle.std.proofs.Common.{◌≡◌, ◌+◌, ◌∷◌, length, ap, sym, ◌∙◌, subst, arith}
use Rattle.term_table.specs.Formulas.{tree_in}
use Rattle.term_walk.specs.Stacks.{Leads, IsCounted, looked_up}
use Rattle.term_walk.specs.Subterms.{subterms}
use Rattle.term_walk.specs.Walking.{Fits}
use Rattle.term_walk.proofs.Visits.{table-grows, counted-subterms, tree-counted, tree-same, frame-within, looked-less, gained-turn, top-frame, closed-turn}
use Rattle.term_walk.proofs.walks.visit.Goals as goal

pub turn-requires-clause-ready : goal.turn-requires-clause-ready
turn-requires-clause-ready g c = (top-frame c.loop-frame.kept c.args.root c.in-Some.frame c.pop.new.self c.loop-frame.table.trees c.loop-frame.stack c.loop-frame.invariant.leads c.in-Some.ensures).0

-- ---- a turn that succeeds

at_top : (g : _) (c : goal.In_ok-turn g) → Leads c.loop-frame.table.trees c.loop-frame.kept c.args.root (c.in-Some.frame ∷ c.pop.new.self)
at_top g c = top-frame c.loop-frame.kept c.args.root c.in-Some.frame c.pop.new.self c.loop-frame.table.trees c.loop-frame.stack c.loop-frame.invariant.leads c.in-Some.ensures

pub loop-frame-smaller : goal.loop-frame-smaller
loop-frame-smaller g c =
    let us = subterms (tree_in c.args.table.now.trees c.args.root) in
    let ts = c.args.table.now.trees in
    let counted : IsCounted us ts ts c.args.root = counted-subterms ts c.args.root c.requires.root in
    let top = at_top g c in
    let grows = c.loop-frame.invariant.grows.trees in
    let f = c.in-Some.frame in
    let fs = c.pop.new.self in
    let less = looked-less c.loop-frame.kept c.args.root f fs us ts ts c.loop-frame.table.trees counted grows top.1 top.0 in
    let near = c.in_ok-turn.ensures.nearer us ts (length ts)
    (frame-within c.loop-frame.kept c.args.root f fs us ts ts c.loop-frame.table.trees counted grows top.1)
    (tree-counted c.loop-frame.kept c.args.root f fs us ts ts c.loop-frame.table.trees counted grows top.1)
    (tree-same c.loop-frame.kept c.args.root f fs us ts ts c.loop-frame.table.trees counted grows top.1) in
    let looked : looked_up c.loop-frame.stack ≡ f.next + looked_up fs = ap looked_up c.in-Some.ensures in
    omega (arith, less, near, looked)

pub loop-frame-preserved : goal.loop-frame-preserved
loop-frame-preserved g c =
    let top = at_top g c in
    let f = c.in-Some.frame in
    let fs = c.pop.new.self in
    let ks = c.loop-frame.kept in
    let root = c.args.root in
    let inv = c.loop-frame.invariant in
    record {
      fits = subst (λ (m : g.S.NodeStep.Meaning). Fits (g.S.NodeStep.related m) c.turn.new.table c.turn.new.kept) (sym c.turn.ensures.meaning) c.turn.ensures.fits;
      meaning = c.turn.ensures.meaning ∙ inv.meaning;
      grows = table-grows c.args.table.now c.loop-frame.table c.turn.new.table inv.grows c.turn.ensures.grows;
      symbols = c.turn.ensures.symbols ∙ inv.symbols;
      sorts = c.turn.ensures.sorts ∙ inv.sorts;
      stay = λ k r e. c.turn.ensures.stay k r (inv.stay k r e);
      closed = λ k e. closed-turn ks root f fs c.loop-frame.table.trees c.turn.new.kept top.0 c.turn.ensures.closed k (inv.closed k e);
      gained = gained-turn ks root f fs c.args.table.now c.loop-frame.table c.args.kept.now c.turn.new.kept c.requires.root inv.grows top.1 inv.gained c.turn.ensures.others;
      leads = c.in_ok-turn.ensures.leads root top.1;
      most = λ us ts counted.
          let near = c.in_ok-turn.ensures.nearer us ts (length ts)
          (frame-within ks root f fs us ts c.args.table.now.trees c.loop-frame.table.trees counted inv.grows.trees top.1)
          (tree-counted ks root f fs us ts c.args.table.now.trees c.loop-frame.table.trees counted inv.grows.trees top.1)
          (tree-same ks root f fs us ts c.args.table.now.trees c.loop-frame.table.trees counted inv.grows.trees top.1) in
          let looked : looked_up c.loop-frame.stack ≡ f.next + looked_up fs = ap looked_up c.in-Some.ensures in
          omega (arith, near, looked, inv.most us ts counted, c.turn.ensures.most);
      least = omega (arith, c.turn.ensures.least, inv.least);
    }

pub returns-in_err-turn-clause-gained : goal.returns-in_err-turn-clause-gained
returns-in_err-turn-clause-gained g c =
    let top = top-frame c.loop-frame.kept c.args.root c.in-Some.frame c.pop.new.self c.loop-frame.table.trees c.loop-frame.stack c.loop-frame.invariant.leads c.in-Some.ensures in
    gained-turn c.loop-frame.kept c.args.root c.in-Some.frame c.pop.new.self c.args.table.now c.loop-frame.table c.args.kept.now c.turn.new.kept c.requires.root c.loop-frame.invariant.grows top.1 c.loop-frame.invariant.gained c.turn.ensures.others

pub returns-in_err-turn-clause-most : goal.returns-in_err-turn-clause-most
returns-in_err-turn-clause-most g c us ts counted =
    let f = c.in-Some.frame in
    let fs = c.pop.new.self in
    let top = top-frame c.loop-frame.kept c.args.root f fs c.loop-frame.table.trees c.loop-frame.stack c.loop-frame.invariant.leads c.in-Some.ensures in
    let less = looked-less c.loop-frame.kept c.args.root f fs us ts c.args.table.now.trees c.loop-frame.table.trees counted c.loop-frame.invariant.grows.trees top.1 top.0 in
    let looked : looked_up c.loop-frame.stack ≡ f.next + looked_up fs = ap looked_up c.in-Some.ensures in
    omega (arith, less, looked, c.loop-frame.invariant.most us ts counted, c.turn.ensures.most)
