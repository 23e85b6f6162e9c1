use Rattle.std.proofs.Common.{◌++◌, ap, ◌∙◌, arith}
use Rattle.smt_lex.specs.FormText.{form_text}
use Rattle.smt_values.specs.SortIds.{sort_at}
use Rattle.term_table.specs.WrittenForms.{list_form, sort_form}
use Rattle.smt_print.proofs.CommandLines.{map-map}
use Rattle.smt_print.proofs.ListTexts.{part-more, parts-end}
use Rattle.smt_print.proofs.commands.push_sorts.Goals as goal

pub loop-place-preserved : goal.loop-place-preserved
loop-place-preserved c =
    part-more (λ s. sort_form (sort_at c.args.table.now.sorts s)) c.args.sorts.now c.args.out.now c.loop-place.out c.push_separator.new.out c.push_sort.new.out c.loop-place.place (record { 0 = 0 })
    c.loop-place-test.true c.loop-place.invariant c.in_ok-push_separator.ensures c.in_ok-push_sort.ensures

pub returns : goal.returns
returns c =
    let past = c.loop-place-test.false in
    parts-end (λ s. sort_form (sort_at c.args.table.now.sorts s)) c.args.sorts.now c.args.out.now c.loop-place.out c.push-2.new.self c.loop-place.place (omega arith) c.loop-place.invariant c.in_ok-push-2.ensures
    ∙ ap (λ fs. c.args.out.now ++ form_text (list_form fs)) (map-map sort_form (sort_at c.args.table.now.sorts) c.args.sorts.now)
