use Rattle.std.proofs.Common.{◌<◌, length, ap, sym, ◌∙◌, subst, arith}
use Rattle.std.proofs.lemmas.List.{length-map}
use Rattle.std.proofs.lemmas.List.Elements.{All-push}
use Rattle.term_table.specs.Formulas.{tree, symbol_at}
use Rattle.ackermann.specs.Ackermann.{pushed}
use Rattle.ackermann.specs.LevelsAt.{Live, cut, levels_at, starts_of, AreStarts, AreOpened}
use Rattle.ackermann.specs.LiveUses.{named_uses}
use Rattle.ackermann.specs.declared.live.Opened.{Opened}
use Rattle.ackermann.specs.declared.uses.LiveUse.{LiveUse}
use Rattle.ackermann.proofs.ClosedLevels.{starts-last, more-starts, pushed-levels}
use Rattle.ackermann.proofs.live.Ack.push.Goals as goal

pub invariant_of-self-2 : goal.invariant_of-self-2
invariant_of-self-2 c =
    let os = c.self.inside.opened.items in
    let o : Opened = record { levels = c.args.levels; below = c.len-below.result } in
    let here = c.len-below.ensures in (
      subst AreOpened (sym c.in_ok-push.ensures.items) (All-push (λ (p : Opened). 0 < p.levels) os o c.self.invariant.0 (omega arith)),
      subst (AreStarts (length c.self.inside.uses)) (sym (ap starts_of c.in_ok-push.ensures.items ∙ starts-last os o))
          (more-starts c.args.levels c.len-below.result (length c.self.inside.uses) (starts_of os) here c.self.invariant.1),
    )

pub returns-clause-levels : goal.returns-clause-levels
returns-clause-levels c t =
    let os = c.self.inside.opened.items in
    let us = c.self.inside.uses in
    let o : Opened = record { levels = c.args.levels; below = c.len-below.result } in
    ap (cut (named_uses t us)) (ap starts_of c.in_ok-push.ensures.items ∙ starts-last os o)
    ∙ pushed-levels (named_uses t us) c.args.levels c.len-below.result (starts_of os) (c.len-below.ensures ∙ sym (length-map us (λ (u : LiveUse). (symbol_at t u.symbol, tree t u.node))))
    ∙ ap (λ (a : Live). pushed c.args.levels (levels_at t a)) c.self.view_is
