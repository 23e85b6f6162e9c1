use Rattle.std.proofs.Common.{◌≡◌, ◌∙◌, rules, ap, ap₂, map, string_bytes, subst, true}
use Rattle.std.proofs.lemmas.Result.{IfErr-weaker, IfOk-weaker}
use Rattle.clap.specs.Walk.{rule_of}
use Rattle.clap.specs.Simple.{HasMatchesOf, app_of, on_top, with_rule}
use Rattle.clap.specs.Takes.{takes}
use Rattle.smtrw_answers.proofs.ClapRows.{blast_app, passes_rule, check_rule, script_rule}
use Rattle.smtrw_answers.proofs.ClapCalls.{app_of-without_help, blasting_taken}
use Rattle.smtrw_answers.proofs.matches.blast_matches.Goals as goal

-- the command that is built
is_built : (c : goal.After-try_get_matches_from) → app_of c.in_ok-command.command ≡ blast_app c.args.name.now
is_built c =
    let passes_is : rule_of c.long-passes.result ≡ passes_rule = search rules in
    let check_is : rule_of c.long-check.result ≡ check_rule = search rules in
    let script_is : rule_of c.new-script.result ≡ script_rule = search rules in
    let none = app_of-without_help c.new-3.result c.disable_help_flag.result c.disable_help_flag.ensures ∙ ap (on_top (λ s. record s { disable_help_flag = true })) c.new-3.ensures.app in
    let first = c.in_ok-arg.ensures.shape (search rules) ∙ ap₂ with_rule none passes_is in
    let second = c.in_ok-arg-2.ensures.shape (search rules) ∙ ap₂ with_rule first check_is in
    c.in_ok-command.ensures.shape (search rules) ∙ ap₂ with_rule second script_is

pub returns-clause-values : goal.returns-clause-values
returns-clause-values c =
    let taken = blasting_taken c.args.name.now (map string_bytes c.args.words.now) c.requires in
    let call = c.try_get_matches_from in
    IfOk-weaker call.result _ _ (λ m has. taken.gives m (subst (λ a. HasMatchesOf a (map string_bytes c.args.words.now) m) (is_built c) has)) call.ensures.matches

pub returns-clause-memory : goal.returns-clause-memory
returns-clause-memory c =
    let taken = blasting_taken c.args.name.now (map string_bytes c.args.words.now) c.requires in
    let call = c.try_get_matches_from in
    IfErr-weaker call.result _ _ (λ e fails. fails (ap (λ a. takes a (map string_bytes c.args.words.now)) (is_built c) ∙ taken.takes)) call.ensures.passes
