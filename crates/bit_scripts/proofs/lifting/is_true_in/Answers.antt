use Rattle.std.proofs.Common.{◌∙◌, sym, ap}
use Rattle.term_table.specs.Formulas.{symbol_at}
use Rattle.models.specs.ModelView.{model_at}
use Rattle.bit_scripts.proofs.ModelTruths.{is_true_or, truth_of}
use Rattle.bit_scripts.proofs.lifting.is_true_in.Goals as goal

pub returns-in-Some : goal.returns-in-Some
returns-in-Some c =
    let t = c.args.table.now in
    c.is_true.ensures ∙ ap is_true_or (c.in-Some.ensures.value t c.know_table.ensures c.requires.symbol)
    ∙ sym (truth_of (model_at t c.args.model.now) (symbol_at t c.args.symbol) c.requires.valid)
