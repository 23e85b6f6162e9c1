use Rattle.std.proofs.Common.{refl}
use Rattle.std.proofs.lemmas.Result.{err_from_is_err_and}
use Rattle.smt_values.specs.SortIds.{sort_at}
use Rattle.script_terms.specs.Places.{form_from}
use Rattle.model_texts.specs.GivenParameters.{variables_at}
use Rattle.model_texts.specs.GivenTables.{IsGivenGraph}
use Rattle.model_texts.specs.Tables.{body_in}
use Rattle.model_texts.proofs.ReadSteps.{Known}
use Rattle.model_texts.proofs.RowByRow.{rowing_begins, keys_refused, value_refused, rowing_goes_on, last_refused, rowing_ends}
use Rattle.model_texts.proofs.StoreReading.{memory}
use Rattle.model_texts.proofs.tables.read_body.Goals as goal

pub loop-choice-init : goal.loop-choice-init
loop-choice-init c =
    let t = c.args.table.now in
    let ts = c.args.forest.now.tokens in
    rowing_begins t ts (variables_at t ts c.args.sorts.now c.args.parameters.now) (sort_at t.sorts c.args.to) c.args.elements.now c.args.at c.new-rows.result.items c.requires.form c.new-rows.ensures.items

pub returns-in_err-keys-clause-table : goal.returns-in_err-keys-clause-table
returns-in_err-keys-clause-table c es known =
    let t = c.args.table.now in
    let ts = c.args.forest.now.tokens in
    let xs = variables_at t ts c.args.sorts.now c.args.parameters.now in
    let s = sort_at t.sorts c.args.to in
    let p = err_from_is_err_and c.from_residual.result c.from_residual.ensures.1 in
    rw (p.1, p.2)
    (keys_refused t ts (body_in (form_from ts c.args.at) xs s) xs s c.args.elements.now c.loop-choice.rest c.loop-choice.rows.items c.loop-choice.elements c.loop-choice.invariant c.in-Some.choice c.in-Some.ensures
    c.read_condition.new.elements c.in_err-keys.field-0.0 c.in_err-keys.ensures.values es known)

pub returns-in_err-value-clause-table : goal.returns-in_err-value-clause-table
returns-in_err-value-clause-table c es known =
    let t = c.args.table.now in
    let ts = c.args.forest.now.tokens in
    let xs = variables_at t ts c.args.sorts.now c.args.parameters.now in
    let s = sort_at t.sorts c.args.to in
    let p = err_from_is_err_and c.from_residual-in_err-value.result c.from_residual-in_err-value.ensures.1 in
    rw (p.1, p.2)
    (value_refused t ts (body_in (form_from ts c.args.at) xs s) xs s c.args.elements.now c.loop-choice.rest c.loop-choice.rows.items c.loop-choice.elements c.loop-choice.invariant c.in-Some.choice c.in-Some.ensures
    c.read_condition.new.elements c.in_ok-keys.keys c.in_ok-keys.ensures.values c.read_value.new.elements c.in_err-value.field-0.0 c.in_err-value.ensures.value es known)

pub returns-in_err-push-clause-table : goal.returns-in_err-push-clause-table
returns-in_err-push-clause-table c es known =
    let t = c.args.table.now in
    let ts = c.args.forest.now.tokens in
    let p = err_from_is_err_and c.from_residual-in_err-push.result c.from_residual-in_err-push.ensures.1 in
    rw (p.1, p.2)
    (memory IsGivenGraph (Known t c.read_value.new.elements) (body_in (form_from ts c.args.at) (variables_at t ts c.args.sorts.now c.args.parameters.now) (sort_at t.sorts c.args.to) es))

pub loop-choice-preserved : goal.loop-choice-preserved
loop-choice-preserved c =
    let t = c.args.table.now in
    let ts = c.args.forest.now.tokens in
    let xs = variables_at t ts c.args.sorts.now c.args.parameters.now in
    let s = sort_at t.sorts c.args.to in
    rowing_goes_on t ts (body_in (form_from ts c.args.at) xs s) xs s c.args.elements.now c.loop-choice.rest c.loop-choice.rows.items c.loop-choice.elements c.loop-choice.invariant c.in-Some.choice c.in-Some.ensures
    c.read_condition.new.elements c.in_ok-keys.keys c.in_ok-keys.ensures.values c.read_value.new.elements c.in_ok-value.value c.push.new.self.items (record { keys = c.in_ok-keys.keys; value = c.in_ok-value.value })
    c.in_ok-value.ensures.value c.in_ok-push.ensures.items refl refl c.in_ok-keys.ensures.valid.held c.in_ok-value.ensures.valid.held

pub returns-in_err-otherwise-clause-table : goal.returns-in_err-otherwise-clause-table
returns-in_err-otherwise-clause-table c es known =
    let t = c.args.table.now in
    let ts = c.args.forest.now.tokens in
    let xs = variables_at t ts c.args.sorts.now c.args.parameters.now in
    let s = sort_at t.sorts c.args.to in
    let p = err_from_is_err_and c.from_residual-in_err-otherwise.result c.from_residual-in_err-otherwise.ensures.1 in
    rw (p.1, p.2)
    (last_refused t ts (body_in (form_from ts c.args.at) xs s) xs s c.args.elements.now c.loop-choice.rest c.loop-choice.rows.items c.loop-choice.elements c.loop-choice.invariant c.in_default.ensures
    c.read_value-2.new.elements c.in_err-otherwise.field-0.0 c.in_err-otherwise.ensures.value es known)

pub returns-clause-table : goal.returns-clause-table
returns-clause-table c es known =
    let t = c.args.table.now in
    let ts = c.args.forest.now.tokens in
    let xs = variables_at t ts c.args.sorts.now c.args.parameters.now in
    let s = sort_at t.sorts c.args.to in
    rowing_ends t ts (body_in (form_from ts c.args.at) xs s) xs s c.args.elements.now c.loop-choice.rest c.loop-choice.rows.items c.loop-choice.elements c.loop-choice.invariant c.in_default.ensures
    c.read_value-2.new.elements c.in_ok-otherwise.otherwise (record { rows = c.loop-choice.rows; otherwise = c.in_ok-otherwise.otherwise }) c.in_ok-otherwise.ensures.value refl refl c.in_ok-otherwise.ensures.valid.held es known

pub returns-clause-held : goal.returns-clause-held
returns-clause-held c = record { rows = c.loop-choice.invariant.held; otherwise = c.in_ok-otherwise.ensures.valid.held }
