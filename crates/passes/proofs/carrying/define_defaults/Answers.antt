use Rattle.std.proofs.Common.{◌∙◌, ◌≡◌, ap, get_or}
use Rattle.std.proofs.lemmas.Option.{slice_get-get_or}
use Rattle.smt_terms.specs.declared.ids.SymId.{SymId}
use Rattle.smt_terms.specs.Values.{default_value, is_value}
use Rattle.smt_terms.proofs.Valid.{is_value-default}
use Rattle.smt_values.specs.Meaning.{meaning}
use Rattle.smt_values.specs.SizeTable.{sizes_by}
use Rattle.smt_values.specs.SortIds.{sort_at}
use Rattle.term_table.specs.Formulas.{symbol_at}
use Rattle.models.specs.ModelView.{model_at}
use Rattle.passes.proofs.LiveStages.{default-defined}
use Rattle.passes.proofs.carrying.define_defaults.Goals as goal

pub define-requires-clause-value : goal.define-requires-clause-value
define-requires-clause-value c =
    let t = c.args.table.now in
    let sizes = sizes_by t.sorts c.loop-symbol.model.sizes in
    let d : SymId = record { 0 = 0 } in
    let to = (symbol_at t (get_or c.args.symbols.now c.loop-symbol.symbol-index d)).result in
    let is : meaning c.in_ok-value.value ≡ default_value to = c.in_ok-value.ensures.value ∙ ap (λ ss. default_value (sort_at ss c.symbol_rank.result.1)) c.sorts.ensures ∙ ap default_value c.symbol_rank.ensures.to in
    record {
      held = c.in_ok-value.ensures.held;
      valid = ap (is_value to sizes) is ∙ is_value-default to sizes c.loop-symbol.invariant.valid.sizes;
    }

pub loop-symbol-preserved : goal.loop-symbol-preserved
loop-symbol-preserved c =
    let t = c.args.table.now in
    let fs = c.args.symbols.now in
    let i = c.loop-symbol.symbol-index in
    let d : SymId = record { 0 = 0 } in
    let f = get_or fs i d in
    let done = c.in_ok-define.ensures in
    let was = c.loop-symbol.invariant in
    let is : meaning c.in_ok-value.value ≡ default_value (symbol_at t f).result = c.in_ok-value.ensures.value ∙ ap (λ ss. default_value (sort_at ss c.symbol_rank.result.1)) c.sorts.ensures ∙ ap default_value c.symbol_rank.ensures.to in
    record {
      model = default-defined t fs i f (slice_get-get_or fs i d c.loop-symbol-test.true) c.in_ok-value.value is (model_at t c.args.model.now) (model_at t c.loop-symbol.model) (model_at t c.define.new.self) was.model done.model;
      valid = done.valid was.valid;
      numbers = λ n. done.numbers (was.numbers n);
      sizes = done.sizes ∙ was.sizes;
    }
