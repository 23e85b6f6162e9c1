use Rattle.std.proofs.Common.{◌++◌, ◌∙◌, ap}
use Rattle.smt_lex.specs.FormText.{form_text}
use Rattle.model_texts.proofs.PrintedEntries.{elements_form, elements-begin, elements-more, elements-end, entry_of_sort}
use Rattle.model_texts.proofs.print.push_elements.Goals as goal

pub loop-number-init : goal.loop-number-init
loop-number-init c =
    elements-begin c.in-Some.name.now c.of-number-end.result c.args.out.now.items c.extend_from_slice.new.self.items c.symbol_text.new.out.items c.in_ok-extend_from_slice.ensures.items c.in_ok-symbol_text.ensures.ok

pub loop-number-preserved : goal.loop-number-preserved
loop-number-preserved c =
    elements-more c.in-Some.name.now c.loop-number.number c.of-number-end.result c.loop-number.out.items c.push.new.self.items c.push_element.new.out.items _ c.loop-number-test.true
    c.in_ok-push.ensures.items c.in_ok-push_element.ensures c.loop-number.invariant

pub returns : goal.returns
returns c =
    let n = c.in-Some.name.now in
    elements-end n c.loop-number.number c.of-number-end.result c.loop-number.out.items c.push-2.new.self.items (c.args.out.now.items ++ form_text (elements_form n c.of-number-end.result)) c.loop-number-test.false c.loop-number.invariant c.in_ok-push-2.ensures.items
    ∙ ap (λ f. c.args.out.now.items ++ form_text f)
    (ap (elements_form n) c.of-number-end.ensures.size
    ∙ entry_of_sort c.sorts.result.now c.args.table.now.sorts c.args.sizes.now c.args.sort n c.sorts.ensures c.in-Some.ensures.table c.requires.0 c.in-Some.ensures.name)
