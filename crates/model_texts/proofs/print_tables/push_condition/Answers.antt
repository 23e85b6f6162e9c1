use Rattle.std.proofs.Common.{◌++◌, ◌∙◌, ap, sym, map, arith}
use Rattle.std.proofs.lemmas.List.{length-map}
use Rattle.smt_lex.specs.FormText.{form_text}
use Rattle.smt_terms.specs.Sorts.{bool}
use Rattle.smt_values.specs.Meaning.{meaning}
use Rattle.smt_values.specs.SortIds.{sort_at}
use Rattle.models.specs.GraphRows.{meanings}
use Rattle.model_texts.specs.Printing.{equation_form}
use Rattle.model_texts.proofs.PrintedTables.{same_number, one_condition, equations-begin, equations-more, equations-end, key_meant, sort_meant, as_many_sorts, key_of_its_sort}
use Rattle.model_texts.proofs.print_tables.push_condition.Goals as goal

pub bounds-sorts-place : goal.bounds-sorts-place
bounds-sorts-place c =
    let same = as_many_sorts c.args.table.now.sorts c.args.sorts.now c.args.keys.now c.requires.keys in
    omega (arith, same, c.loop-place-test.true)

pub push_equation-requires-in-loop-place-clause-value : goal.push_equation-requires-in-loop-place-clause-value
push_equation-requires-in-loop-place-clause-value c =
    key_of_its_sort c.args.table.now.sorts c.args.sorts.now c.args.keys.now c.requires.keys c.loop-place.place (record { 0 = 0 }) c.index-keys-place.result c.loop-place-test.true c.index-keys-place.is

pub returns-then-keys-eq1 : goal.returns-then-keys-eq1
returns-then-keys-eq1 c =
    let sorts = c.args.table.now.sorts in
    let ids = c.args.sorts.now in
    let keys = c.args.keys.now in
    let key = c.index-keys-0.result in
    let one = c.if-keys-eq1.true in
    let long = length-map keys meaning in
    let same = as_many_sorts sorts ids keys c.requires.keys in
    c.in_ok-push_equation.ensures
    ∙ (λ j. c.args.out.now.items ++ form_text (equation_form 0 (sort_meant sorts ids 0 (record { 0 = 0 }) (omega (arith, same, one)) j) (key_meant keys 0 key (omega (arith, one)) c.index-keys-0.is j)))
    ∙ ap (λ f. c.args.out.now.items ++ form_text f)
    (one_condition (map (sort_at sorts) ids) (meanings keys) bool (meaning key) (omega (arith, long, one)) (same_number (map (sort_at sorts) ids) keys c.requires.keys))

pub loop-place-init : goal.loop-place-init
loop-place-init c =
    let keys = c.args.keys.now in
    let long = length-map keys meaning in
    let many = c.if-keys-eq1.false in
    let ss = map (sort_at c.args.table.now.sorts) c.args.sorts.now in
    equations-begin ss (meanings keys) c.args.out.now.items c.extend_from_slice.new.self.items (λ one. many (sym long ∙ one)) (same_number ss keys c.requires.keys) c.in_ok-extend_from_slice.ensures.items

pub loop-place-preserved : goal.loop-place-preserved
loop-place-preserved c =
    let sorts = c.args.table.now.sorts in
    let ids = c.args.sorts.now in
    let keys = c.args.keys.now in
    let key = c.index-keys-place.result in
    let i = c.loop-place.place in
    let within = c.loop-place-test.true in
    let long = length-map keys meaning in
    let same = as_many_sorts sorts ids keys c.requires.keys in
    equations-more (map (sort_at sorts) ids) (meanings keys) i bool (meaning key) c.loop-place.out.items c.push.new.self.items c.push_equation-in-loop-place.new.out.items _
    (omega (arith, long, within)) (same_number (map (sort_at sorts) ids) keys c.requires.keys) c.in_ok-push.ensures.items
    (c.in_ok-push_equation-2.ensures ∙ (λ j. c.push.new.self.items ++ form_text (equation_form i (sort_meant sorts ids i (record { 0 = 0 }) (omega (arith, same, within)) j) (key_meant keys i key within c.index-keys-place.is j))))
    c.loop-place.invariant

pub returns : goal.returns
returns c =
    let sorts = c.args.table.now.sorts in
    let ids = c.args.sorts.now in
    let keys = c.args.keys.now in
    let long = length-map keys meaning in
    let past = c.loop-place-test.false in
    equations-end (map (sort_at sorts) ids) (meanings keys) c.loop-place.place c.loop-place.out.items c.push-2.new.self.items _ (omega (arith, long, past)) (same_number (map (sort_at sorts) ids) keys c.requires.keys)
    c.loop-place.invariant c.in_ok-push-2.ensures.items
