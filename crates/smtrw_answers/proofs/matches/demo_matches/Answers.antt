use Rattle.std.proofs.Common.{◌≡◌, ◌∙◌, rules, ap, ap₂, map, string_bytes, subst, true}
use Rattle.std.proofs.lemmas.Result.{IfErr-weaker, IfOk-weaker}
use Rattle.clap.specs.Walk.{rule_of}
use Rattle.clap.specs.Simple.{HasMatchesOf, app_of, on_top, with_rule}
use Rattle.clap.specs.Takes.{takes}
use Rattle.smtrw_answers.proofs.ClapRows.{demo_app, seed_rule, size_rule}
use Rattle.smtrw_answers.proofs.ClapCalls.{app_of-without_help, demonstrating_taken}
use Rattle.smtrw_answers.proofs.matches.demo_matches.Goals as goal

-- the command that is built
is_built : (c : goal.After-try_get_matches_from) → app_of c.in_ok-command.command ≡ demo_app
is_built c =
    let seed_is : rule_of c.new-seed.result ≡ seed_rule = search rules in
    let size_is : rule_of c.new-size.result ≡ size_rule = search rules in
    let none = app_of-without_help c.new.result c.disable_help_flag.result c.disable_help_flag.ensures ∙ ap (on_top (λ s. record s { disable_help_flag = true })) c.new.ensures.app in
    let first = c.in_ok-arg.ensures.shape (search rules) ∙ ap₂ with_rule none seed_is in
    c.in_ok-command.ensures.shape (search rules) ∙ ap₂ with_rule first size_is

pub returns-clause-values : goal.returns-clause-values
returns-clause-values c =
    let taken = demonstrating_taken (map string_bytes c.args.words.now) c.requires in
    let call = c.try_get_matches_from in
    IfOk-weaker call.result _ _ (λ m has. taken.gives m (subst (λ a. HasMatchesOf a (map string_bytes c.args.words.now) m) (is_built c) has)) call.ensures.matches

pub returns-clause-memory : goal.returns-clause-memory
returns-clause-memory c =
    let taken = demonstrating_taken (map string_bytes c.args.words.now) c.requires in
    let call = c.try_get_matches_from in
    IfErr-weaker call.result _ _ (λ e fails. fails (ap (λ a. takes a (map string_bytes c.args.words.now)) (is_built c) ∙ taken.takes)) call.ensures.passes
