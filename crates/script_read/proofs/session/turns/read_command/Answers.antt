use Rattle.std.specs.Prelude.{option_to_list}
use Rattle.script_terms.specs.Replies.{refused_seen}
use Rattle.script_read.specs.ShapeClauses.{outline_seen}
use Rattle.script_read.proofs.SessionSteps.{steps_refused}
use Rattle.script_read.proofs.Turns.{outline_refused, turn_refused, turn_taken}
use Rattle.script_read.proofs.session.turns.read_command.Goals as goal

pub returns-in_err-outline-clause-step : goal.returns-in_err-outline-clause-step
returns-in_err-outline-clause-step c = λ s stands.
    steps_refused option_to_list c.args.table.now _ _ c.from_residual.result _ c.from_residual.ensures.1
    (outline_refused c.args.forest.now.tokens c.args.i c.requires.form s (refused_seen c.in_err-outline.field-0.0) c.in_err-outline.ensures.outline)

pub returns-in_err-command-clause-step : goal.returns-in_err-command-clause-step
returns-in_err-command-clause-step c = λ s stands.
    steps_refused option_to_list c.take_outline.new.table _ _ c.from_residual-in_err-command.result c.in_err-command.field-0.0 c.from_residual-in_err-command.ensures.1
    (turn_refused c.args.forest.now.tokens c.args.i c.requires.form s (outline_seen c.args.forest.now.tokens c.in_ok-outline.outline) c.in_err-command.field-0.0 c.in_ok-outline.ensures.outline (c.in_err-command.ensures.step s stands))

pub returns-clause-step : goal.returns-clause-step
returns-clause-step c = λ s stands.
    turn_taken c.args.forest.now.tokens c.args.i c.requires.form s c.take_outline.new.table c.take_outline.new.session (outline_seen c.args.forest.now.tokens c.in_ok-outline.outline) (option_to_list c.in_ok-command.command)
    c.in_ok-outline.ensures.outline (c.in_ok-command.ensures.step s stands)
