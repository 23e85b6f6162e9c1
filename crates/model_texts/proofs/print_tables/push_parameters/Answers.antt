use Rattle.std.proofs.Common.{◌++◌, ◌∙◌, ap, map, arith}
use Rattle.std.proofs.lemmas.List.{length-map}
use Rattle.smt_lex.specs.FormText.{form_text}
use Rattle.smt_terms.specs.Sorts.{bool}
use Rattle.smt_values.specs.SortIds.{sort_at}
use Rattle.term_table.specs.WrittenForms.{variable_form}
use Rattle.model_texts.specs.ModelLines.{parameter_name}
use Rattle.model_texts.proofs.PrintedTables.{parameters-begin, parameters-more, parameters-end, sort_meant}
use Rattle.model_texts.proofs.print_tables.push_parameters.Goals as goal

pub loop-place-init : goal.loop-place-init
loop-place-init c = parameters-begin (map (sort_at c.args.table.now.sorts) c.args.sorts.now) c.args.out.now.items c.push.new.self.items c.in_ok-push.ensures.items

pub loop-place-preserved : goal.loop-place-preserved
loop-place-preserved c =
    let sorts = c.args.table.now.sorts in
    let ids = c.args.sorts.now in
    let i = c.loop-place.place in
    let long = length-map ids (sort_at sorts) in
    let within = c.loop-place-test.true in
    parameters-more (map (sort_at sorts) ids) i bool c.loop-place.out.items c.push_separator.new.out.items c.push_parameter.new.out.items _ (omega (arith, long, within)) c.in_ok-push_separator.ensures
    (c.in_ok-push_parameter.ensures ∙ ap (λ s. c.push_separator.new.out.items ++ form_text (variable_form (record { name = parameter_name i; sort = s }))) (sort_meant sorts ids i (record { 0 = 0 }) within))
    c.loop-place.invariant

pub returns : goal.returns
returns c =
    let sorts = c.args.table.now.sorts in
    let long = length-map c.args.sorts.now (sort_at sorts) in
    let past = c.loop-place-test.false in
    parameters-end (map (sort_at sorts) c.args.sorts.now) c.loop-place.place c.loop-place.out.items c.push-2.new.self.items _ (omega (arith, long, past)) c.loop-place.invariant c.in_ok-push-2.ensures.items
