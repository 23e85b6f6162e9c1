use Rattle.std.proofs.Common.{◌∙◌, ℕ, List, ◌++◌, ap, codes}
use Rattle.smt_terms.specs.Numeral.{numeral}
use Rattle.smtrw_run.proofs.demo.line.Goals as goal

pub returns : goal.returns
returns c =
    let n = c.args.counts.now in
    let first = c.in_ok-push_count.ensures ∙ ap (λ (text : List ℕ). text ++ codes "demo seed " ++ numeral n.seed) c.new-text.ensures in
    let second = c.in_ok-push_count-2.ensures ∙ ap (λ (text : List ℕ). text ++ codes " size " ++ numeral n.size) first in
    let third = c.in_ok-push_count-3.ensures ∙ ap (λ (text : List ℕ). text ++ codes ": " ++ numeral n.bytes_in) second in
    let fourth = c.in_ok-push_count-4.ensures ∙ ap (λ (text : List ℕ). text ++ codes " bytes in, " ++ numeral n.assertions) third in
    let fifth = c.in_ok-push_count-5.ensures ∙ ap (λ (text : List ℕ). text ++ codes " assertions out, " ++ numeral n.bytes_out) fourth in
    c.in_ok-push.ensures.ok ∙ ap (λ (text : List ℕ). text ++ codes " bytes out\n") fifth
