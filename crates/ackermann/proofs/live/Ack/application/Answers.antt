use Rattle.std.proofs.Common.{List, slice_get, ap, sym, ◌∙◌, subst}
use Rattle.smt_terms.specs.declared.ids.NodeId.{NodeId}
use Rattle.term_table.specs.Formulas.{symbol_at, trees_at}
use Rattle.ackermann.specs.Ackermann.{live}
use Rattle.ackermann.specs.LevelsAt.{Live, levels_at, IsApplicationOf}
use Rattle.ackermann.proofs.LiveApplications.{live-application}
use Rattle.ackermann.proofs.live.Ack.application.Goals as goal

pub returns-clause-application : goal.returns-clause-application
returns-clause-application c t p are here =
    let a = c.args.self.now in
    let u = c.at-live.result.now in
    subst (λ (ks : List NodeId). IsApplicationOf (live (levels_at t a)) (symbol_at t u.function) (trees_at t ks) p.1) (sym c.as_slice.ensures.value)
    (live-application t a are c.args.place u (ap (λ (b : Live). slice_get b.uses c.args.place) (sym c.self.view_is) ∙ c.at-live.ensures) p here)
