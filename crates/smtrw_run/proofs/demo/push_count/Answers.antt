use Rattle.std.proofs.Common.{◌∙◌, ℕ, List, ◌++◌, ap, arith}
use Rattle.smt_terms.proofs.DecimalTexts.{decimal-numeral}
use Rattle.smtrw_run.proofs.demo.push_count.Goals as goal

pub returns : goal.returns
returns c =
    let words = c.in_ok-push.ensures.ok ∙ ap (λ (ys : List ℕ). c.args.text.now ++ ys) c.as_bytes.ensures.value in
    let digits = c.as_bytes-2.ensures.value ∙ c.format.ensures.text ∙ decimal-numeral c.args.number (omega arith) in
    c.in_ok-push-2.ensures.ok ∙ (λ i. words i ++ digits i)
