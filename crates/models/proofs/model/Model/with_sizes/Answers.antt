use Rattle.std.proofs.Common.{◌∙◌, sym, ap, subst, map, take, get_or, Some, List}
use Rattle.std.proofs.lemmas.List.{map_more, take_all}
use Rattle.smt_terms.specs.declared.ids.SymId.{SymId}
use Rattle.smt_terms.specs.Models.{Model, IsModel}
use Rattle.smt_terms.specs.Sorts.{Sort, Symbol}
use Rattle.smt_terms.specs.Values.{is_value, default_value}
use Rattle.smt_terms.proofs.Valid.{is_value-default}
use Rattle.smt_values.specs.Meaning.{meaning}
use Rattle.smt_values.specs.SizeTable.{sizes_by}
use Rattle.smt_values.specs.SortIds.{sort_at}
use Rattle.term_table.specs.Formulas.{symbol_at}
use Rattle.models.specs.GraphRows.{constant_graph}
use Rattle.models.specs.LiveNumbers.{signature_of}
use Rattle.models.specs.ModelView.{ModelLists, model_at, IsModelOf, default_model_of, with_graph}
use Rattle.models.proofs.RowsOfGraphs.{default_none, default_none_valid, no_lists_of, default_over, default_more}
use Rattle.models.proofs.model.Model.with_sizes.Goals as goal

pub loop-s-init : goal.loop-s-init
loop-s-init c =
    let t = c.args.table.now in
    let names = (signature_of t c.args.signature.now).sorts in
    let model = ap (model_at t) c.empty-model.ensures ∙ default_none t c.args.sizes names in
    record {
      model = model;
      valid = subst IsModel (sym model) (default_none_valid t c.args.sizes c.args.signature.now.sorts c.requires.sizes names);
      sizes = ap (λ (m : ModelLists). m.sizes) c.empty-model.ensures;
      numbers = subst (IsModelOf t) (sym c.empty-model.ensures) (no_lists_of t c.args.sizes c.args.signature.now.sorts c.requires.sizes);
    }

pub define-requires-clause-value : goal.define-requires-clause-value
define-requires-clause-value c =
    let t = c.args.table.now in
    let f = symbol_at t (get_or c.symbols-symbols.result.now c.loop-s.s-index record { 0 = 0 }) in
    let sizes = sizes_by t.sorts c.loop-s.model.sizes in
    let value = c.in_ok-otherwise.ensures.value ∙ ap default_value (ap (λ (ss : List Sort). sort_at ss c.symbol_rank.result.1) c.sorts.ensures ∙ c.symbol_rank.ensures.to) in
    record {
      held = c.in_ok-otherwise.ensures.held;
      valid = ap (is_value f.result sizes) value ∙ is_value-default f.result sizes c.loop-s.invariant.valid.sizes;
    }

pub loop-s-preserved : goal.loop-s-preserved
loop-s-preserved c =
    let t = c.args.table.now in
    let names = (signature_of t c.args.signature.now).sorts in
    let symbols = c.symbols-symbols.result.now in
    let sizes = sizes_by t.sorts c.args.sizes in
    let f = symbol_at t (get_or symbols c.loop-s.s-index record { 0 = 0 }) in
    let before = map (symbol_at t) (take c.loop-s.s-index symbols) in
    let value = c.in_ok-otherwise.ensures.value ∙ ap default_value (ap (λ (ss : List Sort). sort_at ss c.symbol_rank.result.1) c.sorts.ensures ∙ c.symbol_rank.ensures.to) in
    record {
      model =
          c.in_ok-define.ensures.model ∙ ap (λ (m : Model). with_graph f (Some (constant_graph (meaning c.in_ok-otherwise.otherwise))) m) c.loop-s.invariant.model
          ∙ ap (λ v. with_graph f (Some (constant_graph v)) (default_model_of sizes record { sorts = names; symbols = before })) value
          ∙ default_more sizes names before f
          ∙ ap (λ (fs : List Symbol). default_model_of sizes record { sorts = names; symbols = fs }) (sym (map_more (symbol_at t) symbols c.loop-s.s-index (record { 0 = 0 }) c.loop-s-test.true));
      valid = c.in_ok-define.ensures.valid c.loop-s.invariant.valid;
      sizes = c.define.ensures.sizes ∙ c.loop-s.invariant.sizes;
      numbers = c.in_ok-define.ensures.numbers c.loop-s.invariant.numbers;
    }

pub returns-clause-over : goal.returns-clause-over
returns-clause-over c =
    let t = c.args.table.now in
    let names = (signature_of t c.args.signature.now).sorts in
    let whole = take_all c.loop-s.s-index c.symbols-symbols.result.now c.loop-s-test.false ∙ c.symbols-symbols.ensures in
    default_over t c.args.sizes c.args.signature.now.sorts c.requires.sizes (map (symbol_at t) c.args.signature.now.symbols) (model_at t c.loop-s.model)
    (c.loop-s.invariant.model ∙ ap (λ (fs : List SymId). default_model_of (sizes_by t.sorts c.args.sizes) record { sorts = names; symbols = map (symbol_at t) fs }) whole) c.loop-s.invariant.valid
