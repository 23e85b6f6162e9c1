use Rattle.std.proofs.Common.{◌≡◌, List, map, length, string_bytes, Ok, Err, refl, ap, subst, arith}
use Rattle.std.proofs.lemmas.List.{length-map}
use Rattle.std.proofs.lemmas.Result.{err_from_is_err_and}
use Rattle.smtrw_answers.specs.Words.{Word, at_end, takes_pass, word_behind}
use Rattle.smtrw_answers.specs.Asking.{EndFits, StepFits, command_of}
use Rattle.smtrw_answers.proofs.GrammarWords.{none_met, word_met_is, fault_is, all_met, asked_behind, placed_word}
use Rattle.smtrw_answers.proofs.grammar.plan_of.Goals as goal

pub loop-word-init : goal.loop-word-init
loop-word-init c = (refl, none_met _ _)

pub returns-in_err-seen : goal.returns-in_err-seen
returns-in_err-seen c =
    let command = command_of c.in-Some-command_of_word.command in
    let rest : List Word = map string_bytes c.in-Some.rest.now in
    let k = c.loop-word.word-index in
    let word = c.as_str-in-loop-word.result.now in
    let met = c.loop-word.invariant.1 in
    let place = placed_word string_bytes c.in-Some.rest.now k c.word-item.result word c.loop-word-test.true c.word-item.is c.as_str-in-loop-word.ensures.value in
    let numbered = subst (λ i. StepFits c.loop-word.seen (Err c.in_err-seen.field-0.0) (word_behind (takes_pass command) command i word met.given met.given.awaited)) c.loop-word.invariant.0 (c.in_err-seen.ensures met.given met.agrees) in
    let p = err_from_is_err_and c.from_residual.result c.from_residual.ensures.1 in
    let behind = asked_behind (map string_bytes c.args.words.now) rest _ c.as_str.result.now command (ap (map string_bytes) c.in-Some.ensures.cases.0) c.as_str.ensures.value c.in-Some-command_of_word.ensures in
    rw (p.1, p.2, behind) (fault_is command rest k c.loop-word.seen word place.0 place.1 met c.in_err-seen.field-0.0 numbered)

pub loop-word-preserved : goal.loop-word-preserved
loop-word-preserved c =
    let command = command_of c.in-Some-command_of_word.command in
    let rest : List Word = map string_bytes c.in-Some.rest.now in
    let k = c.loop-word.word-index in
    let word = c.as_str-in-loop-word.result.now in
    let met = c.loop-word.invariant.1 in
    let place = placed_word string_bytes c.in-Some.rest.now k c.word-item.result word c.loop-word-test.true c.word-item.is c.as_str-in-loop-word.ensures.value in
    let numbered = subst (λ i. StepFits c.loop-word.seen (Ok c.in_ok-seen.seen) (word_behind (takes_pass command) command i word met.given met.given.awaited)) c.loop-word.invariant.0 (c.in_ok-seen.ensures met.given met.agrees) in
    (omega (arith, c.loop-word.invariant.0), word_met_is command rest k c.loop-word.seen word place.0 place.1 met c.in_ok-seen.seen numbered)

pub returns : goal.returns
returns c =
    let command = command_of c.in-Some-command_of_word.command in
    let rest : List Word = map string_bytes c.in-Some.rest.now in
    let k = c.loop-word.word-index in
    let met = c.loop-word.invariant.1 in
    let count = length-map c.in-Some.rest.now string_bytes in
    let all : k ≡ length rest = omega (arith, count, c.loop-word-test.false, c.loop-word.auto.word-index-end) in
    let numbered = subst (λ i. EndFits c.at_end.result (at_end command i met.given met.given.awaited)) c.loop-word.invariant.0 (c.at_end.ensures met.given met.agrees) in
    let behind = asked_behind (map string_bytes c.args.words.now) rest _ c.as_str.result.now command (ap (map string_bytes) c.in-Some.ensures.cases.0) c.as_str.ensures.value c.in-Some-command_of_word.ensures in
    rw behind (all_met command rest k c.loop-word.seen c.at_end.result all met numbered)
