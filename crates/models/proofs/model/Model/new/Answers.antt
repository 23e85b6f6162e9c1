use Rattle.std.proofs.Common.{◌∙◌, sym, ap, subst}
use Rattle.std.proofs.lemmas.Result.{IfOk-weaker}
use Rattle.models.specs.LiveNumbers.{signature_of}
use Rattle.models.specs.ModelView.{AreSizesOf, default_model_of}
use Rattle.models.proofs.RowsOfGraphs.{no_sizes, no_sizes_of}
use Rattle.models.proofs.model.Model.new.Goals as goal

pub with_sizes-requires-clause-sizes : goal.with_sizes-requires-clause-sizes
with_sizes-requires-clause-sizes c = subst (AreSizesOf c.args.table.now c.args.signature.now.sorts) (sym c.new.ensures) (no_sizes_of c.args.table.now c.args.signature.now.sorts)

pub returns-clause-model : goal.returns-clause-model
returns-clause-model c =
    let t = c.args.table.now in
    IfOk-weaker c.with_sizes.result _ _ (λ _ model. model ∙ ap (λ sizes. default_model_of sizes (signature_of t c.args.signature.now)) (no_sizes t c.new.result c.new.ensures)) c.with_sizes.ensures.model
