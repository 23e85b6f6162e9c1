use Rattle.std.proofs.Common.{◌∙◌, ℕ, List, ◌++◌, ap, codes}
use Rattle.smtrw_answers.specs.Outputs.{count_line}
use Rattle.smtrw_run.proofs.counting.text_of.Goals as goal

pub returns : goal.returns
returns c =
    let n = c.args.numbers.now in
    let first = c.in_ok-push_count.ensures ∙ ap (λ (text : List ℕ). text ++ count_line (codes "commands") n.commands) c.new-text.ensures in
    let second = c.in_ok-push_count-2.ensures ∙ ap (λ (text : List ℕ). text ++ count_line (codes "declarations") n.declarations) first in
    let third = c.in_ok-push_count-3.ensures ∙ ap (λ (text : List ℕ). text ++ count_line (codes "assertions") n.assertions) second in
    let fourth = c.in_ok-push_count-4.ensures ∙ ap (λ (text : List ℕ). text ++ count_line (codes "checks") n.checks) third in
    c.in_ok-push_count-5.ensures ∙ ap (λ (text : List ℕ). text ++ count_line (codes "nodes") n.nodes) fourth
