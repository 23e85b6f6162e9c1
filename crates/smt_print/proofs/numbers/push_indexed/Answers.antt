use Rattle.std.proofs.Common.{◌≡◌, ◌++◌, ◌∷◌, [], take, ap, sym, ◌∙◌, append_assoc, arith}
use Rattle.std.specs.Prelude.{codes}
use Rattle.std.proofs.lemmas.List.{take_all}
use Rattle.smt_terms.specs.Numeral.{numeral}
use Rattle.smt_print.proofs.NumberTexts.{spaced_numerals, index-more, indexed-text}
use Rattle.smt_print.proofs.numbers.push_indexed.Goals as goal

pub loop-index-preserved : goal.loop-index-preserved
loop-index-preserved c =
    index-more c.args.out.now c.loop-index.out c.push.new.self c.push_number.new.out c.args.name.now c.args.indices.now c.loop-index.index-index 0 c.loop-index-test.true
    c.loop-index.invariant c.in_ok-push.ensures (c.in_ok-push_number.ensures ∙ ap (λ n. c.push.new.self ++ numeral n) c.from.ensures)

pub returns : goal.returns
returns c =
    let past = c.loop-index-test.false in
    let all : take c.loop-index.index-index c.args.indices.now ≡ c.args.indices.now = take_all c.loop-index.index-index c.args.indices.now (omega arith) in
    c.in_ok-push-2.ensures ∙ ap (λ xs. xs ++ 41 ∷ []) (c.loop-index.invariant ∙ ap (λ ns. c.args.out.now ++ (codes "(_ " ++ (c.args.name.now ++ spaced_numerals ns))) all)
    ∙ append_assoc c.args.out.now (codes "(_ " ++ (c.args.name.now ++ spaced_numerals c.args.indices.now)) (41 ∷ [])
    ∙ ap (λ xs. c.args.out.now ++ (codes "(_ " ++ xs)) (append_assoc c.args.name.now (spaced_numerals c.args.indices.now) (41 ∷ []))
    ∙ ap (λ xs. c.args.out.now ++ xs) (sym (indexed-text c.args.name.now c.args.indices.now))
