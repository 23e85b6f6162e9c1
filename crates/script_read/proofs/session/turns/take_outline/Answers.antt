use Rattle.std.proofs.Common.{ap}
use Rattle.smt_lex.specs.FormText.{form_text}
use Rattle.smt_lex.specs.Forest.{token_at}
use Rattle.script_read.specs.declared.scripts.Command.TheVariants.{Check, Reset, ResetAssertions}
use Rattle.script_terms.specs.Places.{form_from}
use Rattle.script_read.specs.Script.{live_of, begun_with, after_reset, after_emptying, step}
use Rattle.script_read.specs.ShapeClauses.{outline_seen}
use Rattle.script_read.proofs.Turns.{steps_alone}
use Rattle.script_read.proofs.session.turns.take_outline.Goals as goal

pub returns-in-Checking-clause-step : goal.returns-in-Checking-clause-step
returns-in-Checking-clause-step c = λ s stands.
    steps_alone c.args.table.now c.check.new.session _ c.check.result Check (begun_with s (live_of s)) c.check.ensures.command (c.check.ensures.stands c.args.table.now s stands)
    (ap (λ o. step (token_at c.args.forest.now.tokens c.args.i).start (form_text (form_from c.args.forest.now.tokens c.args.i)) s (outline_seen c.args.forest.now.tokens o)) c.in-Checking.is)

pub returns-in-Resetting-clause-step : goal.returns-in-Resetting-clause-step
returns-in-Resetting-clause-step c = λ s stands.
    steps_alone c.args.table.now c.reset.new.session _ c.reset.result Reset (after_reset s) c.reset.ensures.command (c.reset.ensures.stands c.args.table.now s stands)
    (ap (λ o. step (token_at c.args.forest.now.tokens c.args.i).start (form_text (form_from c.args.forest.now.tokens c.args.i)) s (outline_seen c.args.forest.now.tokens o)) c.in-Resetting.is)

pub returns-in-ResettingAssertions-clause-step : goal.returns-in-ResettingAssertions-clause-step
returns-in-ResettingAssertions-clause-step c = λ s stands.
    steps_alone c.args.table.now c.reset_assertions.new.session _ c.reset_assertions.result ResetAssertions (after_emptying s) c.reset_assertions.ensures.command (c.reset_assertions.ensures.stands c.args.table.now s stands)
    (ap (λ o. step (token_at c.args.forest.now.tokens c.args.i).start (form_text (form_from c.args.forest.now.tokens c.args.i)) s (outline_seen c.args.forest.now.tokens o)) c.in-ResettingAssertions.is)
