use Rattle.std.proofs.Common.{length, ap, sym, ◌∙◌}
use Rattle.std.proofs.lemmas.List.{length-map}
use Rattle.term_table.specs.Formulas.{tree, symbol_at}
use Rattle.ackermann.specs.LevelsAt.{Live}
use Rattle.ackermann.specs.LiveUses.{named_uses}
use Rattle.ackermann.specs.declared.uses.LiveUse.{LiveUse}
use Rattle.ackermann.proofs.CutLevels.{live-cut}
use Rattle.ackermann.proofs.live.Ack.len.Goals as goal

pub returns : goal.returns
returns c t =
    let a = c.args.self.now in
    c.len.ensures ∙ ap (λ (b : Live). length b.uses) c.self.view_is
    ∙ sym (length-map a.uses (λ (u : LiveUse). (symbol_at t u.symbol, tree t u.node)))
    ∙ ap length (sym (live-cut (named_uses t a.uses) a.starts))
