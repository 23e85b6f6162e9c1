use Rattle.std.proofs.Common.{◌∙◌, ap, None}
use Rattle.term_table.specs.Formulas.{symbol_at}
use Rattle.models.specs.ModelView.{model_at, with_graph}
use Rattle.passes.specs.Plans.{IsPairOver}
use Rattle.passes.proofs.ForgottenSymbols.{forget-more}
use Rattle.passes.proofs.ListPlaces.{all_at}
use Rattle.passes.proofs.carrying.forget_symbols.Goals as goal

pub loop-place-preserved : goal.loop-place-preserved
loop-place-preserved c =
    let ps = c.args.symbols.now in
    let i = c.loop-place.place in
    let p = c.get.result in
    let at = c.get.ensures in
    let was = c.loop-place.invariant in
    record {
      model = λ t table pairs.
          c.forget.ensures.model t table (all_at (IsPairOver t) ps i p at pairs).0
          ∙ ap (with_graph (symbol_at t p.0) None) (was.model t table pairs)
          ∙ forget-more t ps i p at (model_at t c.args.model.now);
      valid = λ t table pairs v. c.forget.ensures.valid t table (all_at (IsPairOver t) ps i p at pairs).0 (was.valid t table pairs v);
      numbers = λ t n. c.forget.ensures.numbers t (was.numbers t n);
    }
