use Rattle.std.proofs.Common.{get_or}
use Rattle.std.proofs.lemmas.Option.{slice_get-get_or}
use Rattle.std.proofs.lemmas.Result.{err_from_is_err_and}
use Rattle.smt_terms.specs.declared.ids.NodeId.{NodeId}
use Rattle.models.specs.ModelView.{model_at}
use Rattle.passes.proofs.TabledTerms.{node_values, node_beyond, narrow_node}
use Rattle.passes.proofs.tables.values_of_all.Goals as goal

pub value_of-requires-clause-width : goal.value_of-requires-clause-width
value_of-requires-clause-width c =
    let ks = c.args.terms.now in
    let i = c.loop-term.term-index in
    let d : NodeId = record { 0 = 0 } in
    narrow_node c.args.table.now ks i (get_or ks i d) (slice_get-get_or ks i d c.loop-term-test.true) c.requires.narrow

pub returns-in_err-value-clause-values : goal.returns-in_err-value-clause-values
returns-in_err-value-clause-values c =
    let t = c.args.table.now in
    let ks = c.args.terms.now in
    let i = c.loop-term.term-index in
    let d : NodeId = record { 0 = 0 } in
    let p = err_from_is_err_and c.from_residual.result c.from_residual.ensures.1 in
    rw (p.1, p.2) (node_beyond t (model_at t c.args.model.now) ks i (get_or ks i d) (slice_get-get_or ks i d c.loop-term-test.true) c.in_err-value.field-0.0 c.in_err-value.ensures.value)

pub loop-term-preserved : goal.loop-term-preserved
loop-term-preserved c =
    let t = c.args.table.now in
    let ks = c.args.terms.now in
    let i = c.loop-term.term-index in
    let d : NodeId = record { 0 = 0 } in
    record {
      kept = c.in_ok-value.ensures.kept;
      values =
          node_values t (model_at t c.args.model.now) ks i (get_or ks i d) (slice_get-get_or ks i d c.loop-term-test.true) c.loop-term.values.items c.push_value.new.values.items c.in_ok-value.value c.in_ok-push_value.ensures
          c.loop-term.invariant.values c.in_ok-value.ensures.value;
    }
