use Rattle.std.proofs.Common.{◌∙◌, ◌≡◌, ap, sym}
use Rattle.smt_terms.specs.Values.{default_value, is_value}
use Rattle.smt_terms.proofs.Valid.{is_value-default}
use Rattle.smt_values.specs.Meaning.{meaning}
use Rattle.smt_values.specs.SizeTable.{sizes_by}
use Rattle.smt_values.specs.SortIds.{sort_at}
use Rattle.term_table.specs.Formulas.{symbol_at}
use Rattle.models.specs.ModelView.{model_at}
use Rattle.passes.proofs.TabledTerms.{constant_valued}
use Rattle.passes.proofs.tables.constant_value.Goals as goal

pub returns-in_ok-copy-in-Some-clause-value : goal.returns-in_ok-copy-in-Some-clause-value
returns-in_ok-copy-in-Some-clause-value c =
    let t = c.args.table.now in
    c.in_ok-copy-in-Some.ensures.value
    ∙ sym (constant_valued (model_at t c.args.model.now) c.requires.valid (symbol_at t c.args.symbol) (meaning c.in-Some.value.now) (sym (c.in-Some.ensures.value t c.know_table.ensures c.requires.symbol)))

pub returns-in_ok-value-in-None-clause-valid : goal.returns-in_ok-value-in-None-clause-valid
returns-in_ok-value-in-None-clause-valid c =
    let t = c.args.table.now in
    let sizes = sizes_by t.sorts c.args.model.now.sizes in
    let to = (symbol_at t c.args.symbol).result in
    let is : meaning c.in_ok-value-in-None.value ≡ default_value to = c.in_ok-value-in-None.ensures.value ∙ ap (λ ss. default_value (sort_at ss c.symbol_rank.result.1)) c.sorts.ensures ∙ ap default_value c.symbol_rank.ensures.to in
    record {
      held = c.in_ok-value-in-None.ensures.held;
      valid = ap (is_value to sizes) is ∙ is_value-default to sizes c.requires.valid.sizes;
    }
