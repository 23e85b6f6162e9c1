use Rattle.std.proofs.Common.{◌≡◌, ◌∙◌, List, ℕ, [], ◌∷◌, ◌++◌, ap, append_assoc, arith}
use Rattle.smt_terms.specs.Numeral.{numeral}
use Rattle.smt_terms.proofs.DecimalTexts.{decimal-numeral}
use Rattle.smtrw_answers.specs.Outputs.{count_line}
use Rattle.smtrw_run.proofs.counting.push_count.Goals as goal

joined : (old word digits : List ℕ) → old ++ word ++ (32 ∷ []) ++ digits ++ (10 ∷ []) ≡ old ++ (word ++ (32 ∷ []) ++ digits ++ (10 ∷ []))
joined old word digits =
    ap (λ (w : List ℕ). w ++ digits ++ (10 ∷ [])) (append_assoc old word (32 ∷ []))
    ∙ ap (λ (w : List ℕ). w ++ (10 ∷ [])) (append_assoc old (word ++ (32 ∷ [])) digits)
    ∙ append_assoc old (word ++ (32 ∷ []) ++ digits) (10 ∷ [])

pub returns : goal.returns
unfolding count_line
returns c =
    let digits = c.format.ensures.text ∙ decimal-numeral c.args.number (omega arith) in
    let first = c.in_ok-push.ensures.ok ∙ ap (λ (w : List ℕ). c.args.text.now ++ w) c.as_bytes.ensures.value in
    let second = c.in_ok-push-2.ensures.ok ∙ ap (λ (w : List ℕ). w ++ (32 ∷ [])) first in
    let third = c.in_ok-push-3.ensures.ok ∙ (λ i. second i ++ (c.as_bytes-2.ensures.value ∙ digits) i) in
    c.in_ok-push-4.ensures.ok ∙ ap (λ (w : List ℕ). w ++ (10 ∷ [])) third ∙ joined c.args.text.now c.args.word.now (numeral c.args.number)
